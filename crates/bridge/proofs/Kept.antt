-- What holds of a sound part holds after an event that breaks no rule.
use Prim.Native.Nat.{ℕ, suc, ◌+◌, ◌≤◌, ◌<◌}
use mathlib.Core.Bool.{Bool, true, false, cond, not, ◌&&◌, or-true, and-false}
use mathlib.Core.List.{List, [], ◌∷◌, map}
use mathlib.Core.Logic.{◌⊎◌, inl, inr}
use mathlib.Core.Option
use mathlib.Core.Option.{Option, none, some}
use mathlib.Core.Path.{◌≡◌, refl, sym, ap, ◌∙◌, subst}
use native.Mathlib.Nat.{le_refl}
use native.Mathlib.Omega.{arith}
use lib.Dec.{eqb}
use borrow.Author.Tests.{leb-true, eq-eqb}
use Rattle.reading.specs.Search.{find}
use Rattle.reading.specs.Mode.{h}
use Rattle.reading.specs.Settings.{Settings, newer}
use Rattle.reading.specs.Commands.{ACTIVE, READ, WRITE, BURST-TERMINATE, MODE-REGISTER-SET, Command, is, among}
use Rattle.reading.specs.Bursts.{Burst, reads, data_end, rests_from}
use Rattle.reading.specs.Part.{Part, Bank, open_on, idle_from, auto_precharge, closes, bank_after, cuts, interrupts, cut_by, burst_given, part_after, last_write}
use Rattle.reading.specs.Rules.{rule3, rule10, after_write}
use Rattle.reading.proofs.Cuts.{All, nil, cons, all_map, all-map₂, cut-lowers}
use Rattle.reading.proofs.Alone.{standing, cut_alone, cuts-alone}
use Rattle.reading.proofs.Laws.{lesser-second}
use Rattle.bridge.specs.Summary.{cleared, held_by}
use Rattle.bridge.proofs.Bursts.{calm, read-calm, find-map, Given, Ended, Running, first, all-spent, Late, nothing, behind, Over, held-over}
use Rattle.bridge.proofs.Cut.{cut-until, interrupted-until, Latency}
use Rattle.bridge.proofs.LastWrite.{Stays, auto, unshut, FirstStays, LastStays}
use Rattle.bridge.proofs.Stays.{stays-later}
use Rattle.bridge.proofs.Rules.{does}
use Rattle.bridge.proofs.Next.{Before, Sound, open_by}

first-map : (f : Burst → Burst) (xs : List Burst) → first (map f xs) ≡ Option.map f (first xs)
first-map f [] = refl
first-map f (x ∷ xs) = refl

pub first_read : (xs : List Burst) (x : Burst) → x.writes ≡ false → first xs ≡ some x → find reads xs ≡ some x
first_read [] x w e = let z : ◌≡◌ {A = ℕ} 0 1 = cc in absurd (omega arith)
first_read (y ∷ ys) x w e = go y.writes (ap (λ (z : Burst). z.writes) (let same : y ≡ x = cc in same) ∙ w)
  where
    go : (v : Bool) → v ≡ false → cond (not v) (some y) (find reads ys) ≡ some x
    go true u = let z : ◌≡◌ {A = ℕ} 0 1 = cc in absurd (omega arith)
    go false u = e

module _ (s : Settings) (p : Part) (from t : ℕ) (l : from ≤ t) (c : Command) where
  given-cut : (x : Burst) → Given from x → Given (suc t) (cut_by s p t c x)
  given-cut x g =
      record {
        before = omega (arith, g.before);
        most = omega (arith, g.most, cut-lowers s p t c x);
        bank = g.bank;
      }

  ended-later : (x : Burst) → Ended from x → Ended (suc t) (cut_by s p t c x)
  ended-later x e = record { by = λ f. omega (arith, e.by f, cut-lowers s p t c x) }

  late-later : {xs : List Burst} → Late from xs → Late (suc t) (map (cut_by s p t c) xs)
  late-later nothing = nothing
  late-later (behind r) = behind (all_map (cut_by s p t c) ended-later r)

  latency-later : (m : ℕ) (o : Option Burst) → Latency from m o → Latency (suc t) m (Option.map (cut_by s p t c) o)
  latency-later m none y = y
  latency-later m (some x) (inl e) = inl e
  latency-later m (some x) (inr e) = inr (omega (arith, cut-lowers s p t c x))

  -- ---- reads

  abbrev banks : ℕ → Bank
  banks i = bank_after s p.mode t c i (p.banks i)

  -- one that is cut is over
  cut-over : (x : Burst) → Given from x → x.writes ≡ false → x.auto ≡ false → cuts p c x ≡ true → x.k + (cut_by s p t c x).n ≤ suc t
  cut-over x gx w a e =
      omega (
        arith,
        cut-until s p from t l c x gx (λ b. absurd (let z : ◌≡◌ {A = ℕ} 0 1 = cc in omega arith)) 0 e (read-calm s p c x w),
        lesser-second (x.k + 0 + x.n) (t + 0),
      )

  module _ (e : among (READ ∷ WRITE ∷ []) c ≡ false) where
    still_open : (i : ℕ) → closes c i (p.banks i) ≡ false → (p.banks i).opened ≡ true → (banks i).opened ≡ true
    still_open i f o = rw (e, f) (go (is ACTIVE c && eqb i c.bank))
      where
        go : (v : Bool) → (cond v (open_on c.address t (p.banks i)) (p.banks i)).opened ≡ true
        go true = refl
        go false = o

    running-later : (xs : List Burst) (x : Burst) → Given from x → Running from p.banks xs x →
        Running (suc t) banks (map (cut_by s p t c) xs) (cut_by s p t c x)
    running-later xs x gx z = record { by = λ w a. go w a (z.by w a) (closes c x.bank (p.banks x.bank)) refl }
      where
        go : x.writes ≡ false → x.auto ≡ false → (x.k + x.n ≤ from) ⊎ ((first xs ≡ some x) × ((p.banks x.bank).opened ≡ true)) →
            (v : Bool) → closes c x.bank (p.banks x.bank) ≡ v →
            (x.k + (cut_by s p t c x).n ≤ suc t)
            ⊎ ((first (map (cut_by s p t c) xs) ≡ some (cut_by s p t c x)) × ((banks x.bank).opened ≡ true))
        go w a (inl k) v f = inl (omega (arith, cut-lowers s p t c x))
        go w a (inr (k, o)) true f = inl (cut-over x gx w a (rw (w, f) (or-true (among (READ ∷ BURST-TERMINATE ∷ []) c))))
        go w a (inr (k, o)) false f =
            inr (first-map (cut_by s p t c) xs ∙ ap (Option.map (cut_by s p t c)) k, still_open x.bank f o)

module _ (s : Settings) (p : Part) (from t : ℕ) (l : from ≤ t) (g : Sound from p) where
  cut-given : (c : Command) → All (Given (suc t)) (map (cut_by s p t c) p.bursts)
  cut-given c = all_map (cut_by s p t c) (given-cut s p from t l c) g.bursts

  older : (o : Option ℕ) → Before from o → Before (suc t) o
  older none q = q
  older (some a) q = omega arith

  kept-banks : (c : Command) (i : ℕ) → Before (suc t) (bank_after s p.mode t c i (p.banks i)).last_active
  kept-banks c i =
      go (is ACTIVE c && eqb i c.bank) (among (READ ∷ WRITE ∷ []) c && (eqb i c.bank && c.A10)) (closes c i (p.banks i))
    where
      go : (u v w : Bool) →
          Before (suc t)
          (cond u (open_on c.address t (p.banks i))
          (cond v (idle_from (auto_precharge s p.mode t c (p.banks i)) (p.banks i)) (cond w (idle_from t (p.banks i)) (p.banks i)))).last_active
      go true v w = omega arith
      go false true w = older (p.banks i).last_active (g.banks i)
      go false false true = older (p.banks i).last_active (g.banks i)
      go false false false = older (p.banks i).last_active (g.banks i)

  found : (c : Command) → find reads (map (cut_by s p t c) p.bursts) ≡ Option.map (cut_by s p t c) (find reads p.bursts)
  found c = find-map reads (cut_by s p t c) (λ x. refl) p.bursts

  cut-latency : (c : Command) → Latency (suc t) p.mode (find reads (map (cut_by s p t c) p.bursts))
  cut-latency c =
      subst (λ (o : Option Burst). Latency (suc t) p.mode o) (sym (found c)) (latency-later s p from t l c p.mode (find reads p.bursts) g.latency)

  still-running : (c : Command) → among (READ ∷ WRITE ∷ []) c ≡ false →
      All (Running (suc t) (banks s p from t l c) (map (cut_by s p t c) p.bursts)) (map (cut_by s p t c) p.bursts)
  still-running c e = all-map₂ (cut_by s p t c) (running-later s p from t l c e p.bursts) g.bursts g.running

  -- a write that is the last burst, after a command that gives none
  still-standing : (c : Command) → among (READ ∷ WRITE ∷ []) c ≡ false → rule3 s p t c ≡ true → rule10 s p t c ≡ true → LastStays (suc t) (part_after s p t c)
  still-standing c e k₃ k₁₀ =
      subst (FirstStays (suc t) (part_after s p t c)) (sym none-given) (go p.bursts g.bursts g.standing)
    where
      none-given : (part_after s p t c).bursts ≡ map (cut_by s p t c) p.bursts
      none-given = rw e

      go : (xs : List Burst) → All (Given from) xs → FirstStays from p xs → FirstStays (suc t) (part_after s p t c) (map (cut_by s p t c) xs)
      go [] q z = tt
      go (x ∷ xs) (cons gx _) z = λ w. stays-later s p from t l c e k₃ k₁₀ g.bursts x w gx (z w)

  -- a command that gives no burst and leaves the mode
  pub kept-plain : (c : Command) → among (READ ∷ WRITE ∷ []) c ≡ false → is MODE-REGISTER-SET c ≡ false → rule3 s p t c ≡ true → rule10 s p t c ≡ true →
      Sound (suc t) (part_after s p t c)
  kept-plain c e m k₃ k₁₀ =
      record {
        bursts = rw e (cut-given c);
        banks = kept-banks c;
        late = rw e (late-later s p from t l c g.late);
        latency = rw (e, m) (cut-latency c);
        running = subst (λ (ys : List Burst). All (Running (suc t) (banks s p from t l c) ys) ys) (sym (rw e)) (still-running c e);
        standing = still-standing c e k₃ k₁₀;
      }

  -- a MODE REGISTER SET: the last read is over
  pub kept-mode : (b a : ℕ) (ten : Bool) → cleared (find reads p.bursts) ≤ t → rule3 s p t (does MODE-REGISTER-SET b a ten) ≡ true →
      Sound (suc t) (part_after s p t (does MODE-REGISTER-SET b a ten))
  kept-mode b a ten q k₃ =
      record {
        bursts = cut-given c;
        banks = kept-banks c;
        late = late-later s p from t l c g.late;
        latency = subst (λ (o : Option Burst). Latency (suc t) (cond (eqb b 0) a p.mode) o) (sym (found c)) (over (find reads p.bursts) q);
        running = still-running c refl;
        standing = still-standing c refl k₃ refl;
      }
    where
      c : Command
      c = does MODE-REGISTER-SET b a ten

      over : (o : Option Burst) → cleared o ≤ t → Latency (suc t) (cond (eqb b 0) a p.mode) (Option.map (cut_by s p t c) o)
      over none r = tt
      over (some x) r = inr (omega (arith, cut-lowers s p t c x))

  -- a READ: every earlier read is over, and its own bank is open unless it has auto precharge
  pub kept_read : (b a : ℕ) (ten : Bool) → b < 4 → (p.banks b).opened ≡ true → after_write s s.t_wtr (last_write p) t ≡ true →
      Sound (suc t) (part_after s p t (does READ b a ten))
  kept_read b a ten m o k₁₁ =
      record {
        bursts = cons {x = burst_given s p t c} (record { before = omega arith; most = le_refl (h p.mode); bank = m }) (cut-given c);
        banks = kept-banks c;
        late = behind (all-ended p.bursts refl g.late g.bursts);
        latency = inl refl;
        running = cons (record { by = λ w f. inr (refl, rw (f, and-false (eqb b b)) o) }) (all-map₂ (cut_by s p t c) cut g.bursts g.running);
        standing = λ w. absurd (let z : ◌≡◌ {A = ℕ} 0 1 = cc in omega arith);
      }
    where
      c : Command
      c = does READ b a ten

      cut : (x : Burst) → Given from x → Running from p.banks p.bursts x →
          Running (suc t) (banks s p from t l c) (burst_given s p t c ∷ map (cut_by s p t c) p.bursts) (cut_by s p t c x)
      cut x gx z = record { by = λ w f. inl (cut-over s p from t l c x gx w f (rw w)) }

      -- rule 11: the last write has ended, or is interrupted
      last-ended : (x : Burst) → x.writes ≡ true → last_write p ≡ some x → data_end (cut_by s p t c x) ≤ suc t
      last-ended x w f = go x.auto refl (newer s) refl
        where
          rests : rests_from s x + s.t_wtr ≤ t
          rests = leb-true (rests_from s x + s.t_wtr) t (sym (ap (λ (u : Option Burst). after_write s s.t_wtr u t) f) ∙ k₁₁)

          go : (u : Bool) → x.auto ≡ u → (v : Bool) → newer s ≡ v → data_end (cut_by s p t c x) ≤ suc t
          go true u v n =
              let late : rests_from s x ≡ data_end x = rw (u, and-false (newer s)) in
              omega (arith, rests, late, cut-lowers s p t c x)
          go false u true n =
              let early : rests_from s x ≡ x.k + 2 = rw (n, u) in
              let interrupted : interrupts s p c x ≡ true = rw (n, w, f) (eq-eqb x.k x.k refl) in
              omega (arith, rests, early, interrupted-until s p t c x u (rw w) interrupted (omega (arith, rests, early)))
          go false u false n =
              let late : rests_from s x ≡ data_end x = rw n in
              omega (arith, rests, late, cut-lowers s p t c x)

      all-ended : (xs : List Burst) → p.bursts ≡ xs → Late from xs → All (Given from) xs → All (Ended (suc t)) (map (cut_by s p t c) xs)
      all-ended [] e z q = nil
      all-ended (x ∷ xs) e (behind r) q =
          cons (record { by = λ w. last-ended x w (ap (find (λ y. y.writes)) e ∙ rw w) }) (all_map (cut_by s p t c) (ended-later s p from t l c) r)

  -- a WRITE: the last read is over
  pub kept-write : (b a : ℕ) (ten : Bool) → b < 4 → (p.banks b).opened ≡ true → cleared (find reads p.bursts) ≤ t →
      held_by (λ x. x.writes) p.bursts ≤ t → Sound (suc t) (part_after s p t (does WRITE b a ten))
  kept-write b a ten m o r q =
      record {
        bursts = cons {x = burst_given s p t c} (record { before = omega arith; most = le_refl (h p.mode); bank = m }) (cut-given c);
        banks = kept-banks c;
        late = behind (all-map₂ (cut_by s p t c) one g.bursts (held-over (λ x. x.writes) t p.bursts q));
        latency = cut-latency c;
        running = cons (record { by = λ w f. no_read w }) (all-map₂ (cut_by s p t c) over g.bursts g.running);
        standing = λ w. stays ten refl;
      }
    where
      c : Command
      c = does WRITE b a ten

      no_read : {A : Type 0} → true ≡ false → A
      no_read w = absurd (let z : ◌≡◌ {A = ℕ} 0 1 = cc in omega arith)

      one : (x : Burst) → Given from x → Over t (λ y. y.writes) x → Ended (suc t) (cut_by s p t c x)
      one x gx ox =
          record {
            by = λ f. omega (arith, cut-until s p from t l c x gx (ox.by f) 1 (rw f) (calm s p c x refl refl), lesser-second (x.k + 1 + x.n) (t + 1));
          }

      over : (x : Burst) → Given from x → Running from p.banks p.bursts x →
          Running (suc t) (banks s p from t l c) (burst_given s p t c ∷ map (cut_by s p t c) p.bursts) (cut_by s p t c x)
      over x gx z = record { by = λ w f. inl (go w (z.by w f)) }
        where
          go : x.writes ≡ false → {Open : Type 0} → (x.k + x.n ≤ from) ⊎ ((first p.bursts ≡ some x) × Open) → x.k + (cut_by s p t c x).n ≤ suc t
          go w (inl k) = omega (arith, cut-lowers s p t c x)
          go w (inr (k, o)) =
              let ends : cleared (some x) ≤ t = subst (λ (u : Option Burst). cleared u ≤ t) (first_read p.bursts x w k) r in
              omega (arith, cut-lowers s p t c x)

      -- its row is open, and it is the last write there
      stays : (v : Bool) → ten ≡ v → Stays (suc t) (part_after s p t c) (burst_given s p t c)
      stays true a = auto a refl
      stays false a = unshut a refl (rw (a, and-false (eqb b b)) o) (rw (a, eq-eqb b b refl, open_by s p from t l g (p.banks b).last_active (g.banks b)))

  -- behind a sound part an event cuts what its command cuts by itself
  pub same-cuts : (c : Command) → map (cut_by s p t c) p.bursts ≡ map (λ x. cut_alone s (standing p x) t c x) p.bursts
  same-cuts c = cuts-alone s p t c (all-spent p from t l g.running)
