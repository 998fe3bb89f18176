-- No deadline but that of rule 14 is far ahead of the next free cycle, so a command never waits long.
use Prim.Native.Nat.{ℕ, zero, suc, ◌+◌, ◌%◌, ◌^◌, ◌≤◌, ◌<◌}
use mathlib.Core.Bool.{Bool, true, false, cond}
use mathlib.Core.List.{List, [], ◌∷◌}
use mathlib.Core.Option.{Option, none, some}
use mathlib.Core.Path.{◌≡◌, refl, ap}
use native.Mathlib.Nat.{pow-le-pow_right}
use native.Mathlib.Omega.{arith}
use lib.Dec.{leb, eqb}
use lib.ListN.{set, replicate}
use lib.Seq.{get_or-set_other}
use Rattle.reading.specs.Search.{find, lesser, later}
use Rattle.reading.specs.Mode.{h, CL}
use Rattle.reading.specs.Settings.{Settings}
use Rattle.reading.specs.Bursts.{Burst, whole_end}
use Rattle.reading.proofs.Laws.{lesser-first}
use Rattle.reading.proofs.Cuts.{All, nil, cons}
use Rattle.deadlines.specs.Deadlines.{OPENED, OTHER, REST, COLUMN, CLOSE, WRITTEN, LOCKED, BUSY, OVERDUE, BUS, READS, WRITES, END, LAST, WRITER, LATENCY, at}
use Rattle.deadlines.specs.Deadlines.{Wait, other_bank, soonest, overdue_from, pace_of, start_of}
use Rattle.deadlines.specs.Deadlines.{active_after, auto_after, read_after, cut_write, new_write, plain_write, auto_write, write_after, cut_read, rest_after, close_after, rest_all, close_all_after, refresh_after}
use Rattle.bridge.proofs.Bursts.{Given, find-all}
use Rattle.plan.specs.Behind.{READ-END, WRITE-END, cut_end}
use Rattle.plan.specs.Margin.{wait_of}
use Rattle.plan.specs.Soonest.{active_soonest, read_soonest, write_soonest, burst_soonest, open_till, all_till, close_soonest, close_all_soonest, refresh_soonest}
use Rattle.plan.proofs.Ranged.{Ranged}

-- seven times of at most 10,000 cycles, a burst and its latency
abbrev pub longest : ℕ
longest = 70100

pub record Near (s : Settings) (free : ℕ) (d : List ℕ) : Type 0 where
  pub by : (j : ℕ) → (j ≡ OVERDUE → ⊥) → at d j ≤ free + wait_of s

h-small : (m : ℕ) → h m ≤ 64
h-small m =
    let l : m % 8 ≤ 7 = omega arith in
    let k : 2 ^ (m % 8) ≤ 2 ^ 7 = pow-le-pow_right {n = 2} (omega arith) l in
    omega arith

pub never-longer : (s : Settings) → Ranged s → wait_of s ≤ longest
never-longer s g = omega (arith, g.t_rcd, g.t_rp, g.t_ras, g.t_rrd, g.t_wr, g.t_wtr, g.t_rfc, h-small s.mode)

either : (v : Bool) (a b m : ℕ) → a ≤ m → b ≤ m → cond v a b ≤ m
either true a b m l k = l
either false a b m l k = k

pub later-most : (a b m : ℕ) → a ≤ m → b ≤ m → later a b ≤ m
later-most a b m l k = either (leb a b) b a m k l

-- ---- stores

stored : (d : List ℕ) (i v j m : ℕ) → v ≤ m → at d j ≤ m → at (set d i v) j ≤ m
stored [] i v j m l k = k
stored (x ∷ d) zero v zero m l k = l
stored (x ∷ d) zero v (suc j) m l k = k
stored (x ∷ d) (suc i) v zero m l k = k
stored (x ∷ d) (suc i) v (suc j) m l k = stored d i v j m l k

module _ {s : Settings} {n : ℕ} {d : List ℕ} (near : Near s n d) where
  near-set : (i v : ℕ) → v ≤ n + wait_of s → Near s n (set d i v)
  near-set i v l = record { by = λ j u. stored d i v j (n + wait_of s) l (near.by j u) }

  near-overdue : (v : ℕ) → Near s n (set d OVERDUE v)
  near-overdue v = record { by = λ j u. rw (get_or-set_other d OVERDUE j v 0 u) (near.by j u) }

  near_on : (m : ℕ) → n ≤ m → Near s m d
  near_on m l = record { by = λ j u. omega (arith, near.by j u) }

-- ---- what each command makes of the deadlines

-- an auto precharge from the cycle c on
near-auto : {s : Settings} {n : ℕ} {d : List ℕ} → Near s n d → (b c : ℕ) → b < 4 → c ≤ n + wait_of s → Near s n (auto_after d b c)
unfolding auto_after
near-auto {s} {n} {d} near b c lb l =
    let closed = near-set near (OPENED + b) 0 (omega arith) in
    near-set closed (REST + b) _ (later-most _ c (n + wait_of s) (closed.by (LOCKED + b) (omega arith)) l)

-- a bank that becomes idle where it is open, and the last read cut
near-rest : {s : Settings} {n : ℕ} {d : List ℕ} → Near s n d → (b c : ℕ) → b < 4 → c ≤ n + wait_of s → Near s n (rest_after d b c)
unfolding rest_after
near-rest {s} {n} {d} near b c lb l =
    near-set (near-set near (REST + b) _ (either (eqb (at d (OPENED + b)) 0) (at d (REST + b)) c (n + wait_of s) (near.by (REST + b) (omega arith)) l)) (OPENED + b) 0
    (omega arith)

near-cut : {s : Settings} {n : ℕ} {d : List ℕ} → Near s n d → (m : List ℕ) (t : ℕ) (cut : Bool) → Near s n (cut_read d m t cut)
unfolding cut_read
near-cut {s} {n} {d} near m t cut =
    let bus = near.by BUS (omega arith) in
    near-set near BUS _ (either cut _ (at d BUS) (n + wait_of s) (omega (arith, bus, lesser-first (at d BUS) (t + at m LATENCY))) bus)

module _ (s : Settings) (g : Ranged s) {n : ℕ} {d : List ℕ} (near : Near s n d) (t : ℕ) (l : n ≤ t) where
  now : Near s (suc t) d
  now = near_on near (suc t) (omega arith)

  pub near-refresh : Near s (suc t) (refresh_after s d t)
  unfolding refresh_after
  near-refresh = near-overdue (near-set now BUSY (t + s.t_rfc) (omega arith)) _

  module _ (b : ℕ) (lb : b < 4) where
    pub near-active : Near s (suc t) (active_after s d t b)
    unfolding active_after
    near-active =
        let d₁ = near-set now (OPENED + b) 1 (omega arith) in
        let d₂ = near-set d₁ (OTHER + b) (t + s.t_rrd) (omega arith) in
        let d₃ = near-set d₂ (COLUMN + b) (t + s.t_rcd) (omega arith) in
        let d₄ = near-set d₃ (CLOSE + b) (t + s.t_ras) (omega arith) in
        let d₅ = near-set d₄ (WRITTEN + b) 0 (omega arith) in
        near-set d₅ (LOCKED + b) (t + s.t_ras + s.t_rp) (omega arith)

    abbrev m : ℕ
    m = s.mode

    pub near-read : (auto : Bool) → Near s (suc t) (read_after s d (pace_of m) t b auto)
    unfolding read_after
    near-read true =
        let d₁ = near-set now BUS (t + CL m + h m) (omega arith) in
        let d₂ = near-set d₁ LAST 4 (omega arith) in
        let d₃ = near-set d₂ READS (t + h m) (omega arith) in
        near-auto d₃ b (t + h m + s.t_rp) lb (omega arith)
    near-read false = near-set (near-set now BUS (t + CL m + h m) (omega arith)) LAST b (omega arith)

    near_new : Near s (suc t) (new_write s (cut_write s d t) t (h m) b)
    unfolding new_write cut_write
    near_new =
        let o : ℕ = WRITTEN + at d WRITER % 4 in
        let least = lesser-first (at d o) (t + 1 + 0 + s.t_wr) in
        let d₁ = near-set now o (lesser (at d o) (t + 1 + 0 + s.t_wr)) (omega (arith, least, now.by o (omega arith))) in
        let d₂ = near-set d₁ (WRITTEN + b) (t + 1 + h m + s.t_wr) (omega arith) in
        let d₃ = near-set d₂ END (t + 1 + h m + s.t_wtr) (omega arith) in
        near-set d₃ LAST (t + 1 + h m + 5) (omega arith)

    pub near-write : (auto : Bool) → Near s (suc t) (write_after s d (pace_of m) t b auto)
    unfolding write_after auto_write plain_write
    near-write true =
        let d₅ = near-set near_new WRITES (t + h m) (omega arith) in
        let d₆ = near-set d₅ WRITER (b + 4) (omega arith) in
        near-auto d₆ b (t + 1 + h m + s.t_wr + s.t_rp) lb (omega arith)
    near-write false = rw g.old (near-set near_new WRITER b (omega arith))

    pub near-close : Near s (suc t) (close_after s d (pace_of m) t b)
    unfolding close_after
    near-close = near-cut (near-rest now b (t + s.t_rp) lb (omega arith)) (pace_of m) t _

  pub near-close-all : (m : ℕ) → Near s (suc t) (close_all_after s d (pace_of m) t)
  unfolding close_all_after rest_all
  near-close-all m =
      let soon : t + s.t_rp ≤ suc t + wait_of s = omega arith in
      let d₁ = near-rest now 0 (t + s.t_rp) (omega arith) soon in
      let d₂ = near-rest d₁ 1 (t + s.t_rp) (omega arith) soon in
      let d₃ = near-rest d₂ 2 (t + s.t_rp) (omega arith) soon in
      near-cut (near-rest d₃ 3 (t + s.t_rp) (omega arith) soon) (pace_of m) t _

-- ---- at the start, and the latest of several

pub near-start : (s : Settings) → Near s 0 (start_of s)
unfolding start_of
near-start s =
    let d₀ : Near s 0 (replicate 39 0) = record { by = λ j u. nothing 39 j } in
    let d₁ = near-overdue d₀ (overdue_from s 0) in
    let d₂ = near-set d₁ LAST 4 (omega arith) in
    let d₃ = near-set d₂ LOCKED (s.t_ras + s.t_rp) (omega arith) in
    let d₄ = near-set d₃ (LOCKED + 1) (s.t_ras + s.t_rp) (omega arith) in
    let d₅ = near-set d₄ (LOCKED + 2) (s.t_ras + s.t_rp) (omega arith) in
    near-set d₅ (LOCKED + 3) (s.t_ras + s.t_rp) (omega arith)
  where
    nothing : (k j : ℕ) → at (replicate k 0) j ≤ 0 + wait_of s
    nothing zero j = omega arith
    nothing (suc k) zero = omega arith
    nothing (suc k) (suc j) = nothing k j

soonest-most : (m : ℕ) (ws : List Wait) → All (λ w. w.till ≤ m) ws → soonest ws ≤ m
unfolding soonest
soonest-most m [] nil = omega arith
soonest-most m (w ∷ []) (cons k nil) = k
soonest-most m (w ∷ v ∷ ws) (cons k r) = later-most w.till (soonest (v ∷ ws)) m k (soonest-most m (v ∷ ws) r)

-- the end of a burst that was given before
pub end-most : (s : Settings) (n : ℕ) (kind : Burst → Bool) {xs : List Burst} → All (Given n) xs → All (λ x. x.mode ≡ s.mode) xs →
    cut_end (find kind xs) ≤ n + wait_of s
end-most s n kind {xs} given moded = go (find kind xs) refl
  where
    go : (o : Option Burst) → find kind xs ≡ o → cut_end o ≤ n + wait_of s
    go none e = omega arith
    go (some x) e =
        let same : h x.mode ≡ h s.mode = ap h (find-all kind moded e) in
        either x.auto 0 (whole_end x) (n + wait_of s) (omega arith) (omega (arith, (find-all kind given e).before, same))

module _ {s : Settings} {n : ℕ} {d : List ℕ} (near : Near s n d) where
  other-most : (b i : ℕ) → i < 4 → other_bank d b i ≤ n + wait_of s
  other-most b i l = let k = near.by (OTHER + i) (omega arith) in either (eqb i b) _ _ _ (omega (arith, k)) k

  till-most : (place i : ℕ) → (place + i ≡ OVERDUE → ⊥) → open_till d place i ≤ n + wait_of s
  till-most place i u = either (eqb (at d (OPENED + i)) 0) 0 _ _ (omega arith) (near.by (place + i) u)

  all_most : (place rest : ℕ) → place + 3 < OVERDUE → rest ≤ n + wait_of s → all_till d place rest ≤ n + wait_of s
  unfolding all_till
  all_most place rest l k =
      later-most _ _ (n + wait_of s) (till-most place 0 (omega arith))
      (later-most _ _ (n + wait_of s) (till-most place 1 (omega arith))
      (later-most _ _ (n + wait_of s) (till-most place 2 (omega arith))
      (later-most _ rest (n + wait_of s) (till-most place 3 (omega arith)) k)))

  pub refresh-most : refresh_soonest d ≤ n + wait_of s
  unfolding refresh_soonest
  refresh-most =
      soonest-most (n + wait_of s) _
      (cons (near.by _ (omega arith))
      (cons (near.by _ (omega arith))
      (cons (near.by _ (omega arith))
      (cons (near.by _ (omega arith))
      (cons (near.by _ (omega arith))
      (cons (near.by _ (omega arith)) nil))))))

  module _ (k : List ℕ) (ends : at k READ-END ≤ n + wait_of s) where
    pub close-all-most : close_all_soonest d k ≤ n + wait_of s
    unfolding close_all_soonest
    close-all-most =
        later-most _ _ (n + wait_of s) (near.by _ (omega arith)) (all_most CLOSE _ (omega arith) (all_most WRITTEN _ (omega arith) ends))

    module _ (b : ℕ) (lb : b < 4) where
      pub close-most : close_soonest d k b ≤ n + wait_of s
      unfolding close_soonest
      close-most =
          later-most _ _ (n + wait_of s)
          (soonest-most (n + wait_of s) _ (cons (near.by _ (omega arith)) (cons (near.by _ (omega arith)) (cons (near.by _ (omega arith)) nil))))
          (either (eqb (at d LAST) b) _ _ (n + wait_of s) (omega arith) (omega arith))

      pub burst-most : at k WRITE-END ≤ n + wait_of s → (write : Bool) → burst_soonest write d k b ≤ n + wait_of s
      unfolding read_soonest write_soonest
      burst-most written true =
          later-most _ _ (n + wait_of s)
          (soonest-most (n + wait_of s) _
          (cons (near.by _ (omega arith))
          (cons (near.by _ (omega arith))
          (cons (near.by _ (omega arith))
          (cons (near.by _ (omega arith)) nil)))))
          (omega arith)
      burst-most written false =
          later-most _ _ (n + wait_of s)
          (soonest-most (n + wait_of s) _
          (cons (near.by _ (omega arith))
          (cons (near.by _ (omega arith))
          (cons (near.by _ (omega arith))
          (cons (near.by _ (omega arith)) nil)))))
          (omega arith)

  pub active-most : (b : ℕ) → b < 4 → active_soonest d b ≤ n + wait_of s
  unfolding active_soonest
  active-most b lb =
      soonest-most (n + wait_of s) _
      (cons (near.by _ (omega arith))
      (cons (near.by _ (omega arith))
      (cons (other-most b 0 (omega arith))
      (cons (other-most b 1 (omega arith))
      (cons (other-most b 2 (omega arith))
      (cons (other-most b 3 (omega arith)) nil))))))
