-- The summary of the part after an event that breaks no rule is what a step makes of the summary before it.
use Prim.Native.Nat.{ℕ, ◌+◌, ◌%◌, ◌≤◌, ◌<◌}
use mathlib.Core.Bool.{Bool, true, false, cond, not, ◌&&◌, ◌||◌, and-false}
use mathlib.Core.List.{List, [], ◌∷◌, map}
use mathlib.Core.Logic.{◌⊎◌, inl, inr}
use mathlib.Core.Option
use mathlib.Core.Option.{Option, none, some}
use mathlib.Core.Path.{◌≡◌, refl, sym, ap, ◌∙◌, subst}
use native.Mathlib.Nat.{mod-eq_of_lt}
use native.Mathlib.Omega.{arith}
use lib.Dec.{leb, ltb, eqb, leb-zero}
use borrow.Author.Tests.{le-leb, lt-leb, lt-ltb, le-ltb, eqb-false, ne_eqb, not-true}
use Rattle.reading.specs.Search.{ever, find, lesser, later, or_zero}
use Rattle.reading.specs.Mode.{h, CL}
use Rattle.reading.specs.Settings.{Settings, newer}
use Rattle.reading.specs.RefreshClock.{clock_after_sleep}
use Rattle.reading.specs.Sleep.{sleep_after}
use Rattle.reading.specs.Rules.{rule14}
use Rattle.reading.specs.Commands.{Op, ACTIVE, READ, WRITE, BURST-TERMINATE, PRECHARGE, AUTO-REFRESH, MODE-REGISTER-SET, NOP, Command, is}
use Rattle.reading.specs.Bursts.{Burst, reads, data_end, rests_from}
use Rattle.reading.specs.Part.{Part, Bank, open_on, idle_from, cuts, cut_by, burst_given, clock_after, part_after, bank_write, last_bank_write}
use Rattle.reading.proofs.Laws.{both, either_way, lesser-low, lesser-add, later-low, later-high, later-add, later_first, later_second}
use Rattle.reading.proofs.Cuts.{All, nil, cons, auto-uncut, spent-uncut}
use Rattle.pins.proofs.Commands.{Quietly}
use Rattle.deadlines.specs.Deadlines.{LAST, at, pace_of, overdue_after, quiet_after, low_after, self_after, cut_write, new_write, plain_write, auto_write, rest_after, rest_all}
use Rattle.deadlines.specs.Deadlines.{active_after, read_after, write_after, cut_read, close_after, close_all_after, refresh_after, mode_set_after}
use Rattle.bridge.specs.Summary.{BankHeld, SleepHeld, Held, Timed, laid, summary, bank_held, write_held, sleep_held, from, ended, cleared, last_of, writer_of}
use Rattle.bridge.proofs.Laid.{same, same_read, same_write, banked, read_given, new_given, timed, rests_early}
use Rattle.bridge.proofs.Laid.{on_bank, activated, shut, written_till, auto_shut, closed, written_by, active-laid, auto-laid, auto-write-laid, plain-laid, cut-laid, new-laid, rest-laid}
use Rattle.bridge.proofs.Bursts.{uncut, calm, read-calm, rests-stay, find-same, find-map, held_cut, Given, Running, first, all-spent, Late, nothing, behind, Over, held-over}
use Rattle.bridge.proofs.Bursts.{find-all, find-holds}
use Rattle.bridge.proofs.Cut.{cut-until, Latency, same-latency, same-last}
use Rattle.bridge.proofs.LastWrite.{LastStays}
use Rattle.bridge.proofs.Rules.{does, does_low, as-nop}
use Rattle.bridge.proofs.Sleeping.{slept, stays-laid, quiet-laid, low-laid, self-laid, refresh-laid}

abbrev pub Before : ℕ → Option ℕ → Type 0
Before from none = Unit {0}
Before from (some c) = c < from

-- what holds of a part that was reached without a broken rule, the next event not before the cycle
pub record Sound (from : ℕ) (p : Part) : Type 0 where
  pub bursts : All (Given from) p.bursts
  pub banks : (b : ℕ) → Before from (p.banks b).last_active
  pub late : Late from p.bursts
  pub latency : Latency from p.mode (find reads p.bursts)
  pub running : All (Running from p.banks p.bursts) p.bursts
  pub standing : LastStays from p

map_same : (f : Burst → Burst) → ((x : Burst) → f x ≡ x) → (xs : List Burst) → map f xs ≡ xs
map_same f e [] = refl
map_same f e (x ∷ xs) = rw (e x, map_same f e xs)

-- no write to a bank since an ACTIVE that is given now
pub fresh : (from t i : ℕ) → from ≤ t → {xs : List Burst} → All (Given from) xs →
    find (λ x. x.writes && (eqb i x.bank && leb t x.k)) xs ≡ none
fresh from t i l nil = refl
fresh from t i l (cons {x = x} g r) =
    rw (lt-leb t x.k (omega (arith, g.before)), and-false (eqb i x.bank), and-false x.writes)
    (fresh from t i l r)

module _ (s : Settings) (p : Part) (from₀ t : ℕ) (l : from₀ ≤ t) (g : Sound from₀ p) where
  abbrev xs : List Burst
  xs = p.bursts

  abbrev X : Held
  X = summary s p

  abbrev after : Command → Held
  after c = summary s (part_after s p t c)

  -- a command that cuts nothing leaves the bursts alone
  whole : (c : Command) → ((x : Burst) → cuts p c x ≡ false) → is READ c ≡ false → is PRECHARGE c ≡ false → map (cut_by s p t c) xs ≡ xs
  whole c e f h = map_same (cut_by s p t c) (λ x. uncut s p t c x (e x) (calm s p c x f h)) xs

  abbrev is_write : Burst → Bool
  is_write x = x.writes

  -- the summary but for the bursts
  abbrev with_bursts : List Burst → Held
  with_bursts zs =
      summary s
      (record {
        banks = p.banks;
        mode = p.mode;
        last_refresh = p.last_refresh;
        last_mode_set = p.last_mode_set;
        clock = p.clock;
        sleep = p.sleep;
        bursts = zs;
      })

  unchanged : (c : Command) → ((x : Burst) → cuts p c x ≡ false) → is READ c ≡ false → is PRECHARGE c ≡ false → with_bursts (map (cut_by s p t c) xs) ≡ X
  unchanged c e f h = ap with_bursts (whole c e f h)

  -- NOP and DESELECT, with CKE high and low
  abbrev sleepy : Command → SleepHeld
  sleepy c = sleep_held s (clock_after s t c p.sleep p.clock) (sleep_after t c p.sleep)

  pub quiet_next : {o : Op} → Quietly o → (b a : ℕ) (ten : Bool) → Timed s t → rule14 s p t (does o b a ten) ≡ true →
      laid (after (does o b a ten)) ≡ quiet_after s (laid X) t
  quiet_next q b a ten early k =
      as-nop (λ o. laid (after (does o b a ten))) q refl
      ∙ ap (λ (y : Held). laid (slept (sleepy (does NOP b a ten)) y)) (unchanged (does NOP b a ten) (λ x. either_way x.writes false) refl refl)
      ∙ quiet-laid s t p.clock early p.sleep.asleep p.sleep.self p.sleep.left X k

  pub low-next : {o : Op} → Quietly o → (b a : ℕ) (ten : Bool) → Timed s t → rule14 s p t (does_low o b a ten) ≡ true →
      laid (after (does_low o b a ten)) ≡ low_after (laid X) t
  low-next q b a ten early k =
      as-nop (λ o. laid (after (does_low o b a ten))) q refl
      ∙ ap (λ (y : Held). laid (slept (sleepy (does_low NOP b a ten)) y)) (unchanged (does_low NOP b a ten) (λ x. either_way x.writes false) refl refl)
      ∙ low-laid s t p.clock early p.sleep.asleep p.sleep.self p.sleep.left X k

  pub self-next : (b a : ℕ) (ten : Bool) → p.sleep.asleep ≡ false → laid (after (does_low AUTO-REFRESH b a ten)) ≡ self_after (laid X)
  self-next b a ten e =
      ap (λ (y : Held). laid (slept (sleepy (does_low AUTO-REFRESH b a ten)) y)) (unchanged (does_low AUTO-REFRESH b a ten) (λ x. either_way x.writes false) refl refl)
      ∙ self-laid s t p.clock p.sleep.asleep p.sleep.self p.sleep.left X e

  -- the commands with CKE high come awake, and leave sleep alone
  awake-stays : p.sleep.asleep ≡ false →
      sleep_held s (cond ((p.sleep.asleep && true) && p.sleep.self) (clock_after_sleep s t) p.clock)
      (record { asleep = false; self = p.sleep.self; left = cond (p.sleep.asleep && true) (some t) p.sleep.left }) ≡ X.sleep
  awake-stays awake = stays-laid s t p.clock p.sleep.asleep p.sleep.self p.sleep.left awake

  pub refresh-next : 0 < s.t_refi → p.sleep.asleep ≡ false → (b a : ℕ) (ten : Bool) → X.busy ≤ t → laid (after (does AUTO-REFRESH b a ten)) ≡ refresh_after s (laid X) t
  unfolding refresh_after
  refresh-next ticks awake b a ten busy =
      let set = from p.last_mode_set s.t_mrd in
      let y : SleepHeld = record { overdue = overdue_after s t X.sleep.overdue; wake = X.sleep.wake; asleep = X.sleep.asleep; self = X.sleep.self } in
      ap (λ (z : Held). laid (timed (later (t + s.t_rfc) set) (sleepy (does AUTO-REFRESH b a ten)) z))
      (unchanged (does AUTO-REFRESH b a ten) (λ x. either_way x.writes false) refl refl)
      ∙ ap (λ (z : SleepHeld). laid (timed (later (t + s.t_rfc) set) z X))
      (refresh-laid s t p.clock ticks p.sleep.asleep p.sleep.self p.sleep.left awake)
      ∙ ap (λ (v : ℕ). laid (timed v y X)) (later-high (t + s.t_rfc) set (omega (arith, busy, later_second (from p.last_refresh s.t_rfc) set)))

  pub mode-next : p.sleep.asleep ≡ false → (b a : ℕ) (ten : Bool) → X.busy ≤ t → laid (after (does MODE-REGISTER-SET b a ten)) ≡ mode_set_after s (laid X) t
  unfolding mode_set_after
  mode-next awake b a ten busy =
      let refreshed = from p.last_refresh s.t_rfc in
      ap (λ (z : Held). laid (timed (later refreshed (t + s.t_mrd)) (sleepy (does MODE-REGISTER-SET b a ten)) z))
      (unchanged (does MODE-REGISTER-SET b a ten) (λ x. either_way x.writes false) refl refl)
      ∙ ap (λ (z : SleepHeld). laid (timed (later refreshed (t + s.t_mrd)) z X)) (awake-stays awake)
      ∙ ap (λ (v : ℕ). laid (timed v X.sleep X)) (later-low refreshed (t + s.t_mrd) (omega (arith, busy, later_first refreshed (from p.last_mode_set s.t_mrd))))

  pub active-next : p.sleep.asleep ≡ false → (b a : ℕ) (ten : Bool) → b < 4 → laid (after (does ACTIVE b a ten)) ≡ active_after s (laid X) t b
  active-next awake b a ten m = ap laid entries ∙ sym (active-laid s X t b m)
    where
      cut : map (cut_by s p t (does ACTIVE b a ten)) xs ≡ xs
      cut = whole (does ACTIVE b a ten) (λ x. either_way x.writes false) refl refl

      bank : (i : ℕ) (v : Bool) →
          let k = cond v (open_on a t (p.banks i)) (p.banks i) in
          bank_held s k (find (λ x. x.writes && (eqb i x.bank && ever k.last_active (λ c. leb c x.k))) xs) ≡
          activated s t v (X.banks i)
      bank i true = ap (bank_held s (open_on a t (p.banks i))) (fresh from₀ t i l g.bursts)
      bank i false = refl

      entries : after (does ACTIVE b a ten) ≡ banked (on_bank (activated s t) b X.banks) X
      entries = same (λ i. rw cut (bank i (eqb i b))) (rw cut) (rw cut) refl (awake-stays awake)

  -- ---- what a command that is no WRITE leaves of the writes

  -- what rules 10 and 11 wait for, of a write that was found
  rest-stays : (c : Command) → is WRITE c ≡ false → (o : Option Burst) → ((x : Burst) → o ≡ some x → x.writes ≡ true) → (w : ℕ) →
      ended s (Option.map (cut_by s p t c) o) w ≡ ended s o w
  rest-stays c e none f w = refl
  rest-stays c e (some x) f w = ap (λ (v : ℕ). v + w) (rests-stay s p t c x e (f x refl))

  writer-stays : (c : Command) (o : Option Burst) → writer_of (Option.map (cut_by s p t c) o) ≡ writer_of o
  writer-stays c none = refl
  writer-stays c (some x) = refl

  found-write : (c : Command) → find is_write (map (cut_by s p t c) xs) ≡ Option.map (cut_by s p t c) (find is_write xs)
  found-write c = find-map is_write (cut_by s p t c) (λ x. refl) xs

  end_stays : (c : Command) → is WRITE c ≡ false → ended s (find is_write (map (cut_by s p t c) xs)) s.t_wtr ≡ X.write.end
  end_stays c e = ap (λ (o : Option Burst). ended s o s.t_wtr) (found-write c) ∙ rest-stays c e (find is_write xs) (λ x f. find-holds is_write xs f) s.t_wtr

  same_writer : (c : Command) → writer_of (find is_write (map (cut_by s p t c) xs)) ≡ X.write.writer
  same_writer c = ap writer_of (found-write c) ∙ writer-stays c (find is_write xs)

  written-stays : (c : Command) → is WRITE c ≡ false → (i : ℕ) (o : Option ℕ) → o ≡ (p.banks i).last_active →
      ended s (find (λ x. x.writes && (eqb i x.bank && ever o (λ a. leb a x.k))) (map (cut_by s p t c) xs)) s.t_wr ≡ (X.banks i).written
  written-stays c e i o q =
      ap (λ (v : Option ℕ). ended s (find (λ x. x.writes && (eqb i x.bank && ever v (λ a. leb a x.k))) (map (cut_by s p t c) xs)) s.t_wr) q
      ∙ ap (λ (v : Option Burst). ended s v s.t_wr) (find-map (bank_write p i) (cut_by s p t c) (λ x. refl) xs)
      ∙ rest-stays c e (find (bank_write p i) xs) (λ x f. (both x.writes _ (find-holds (bank_write p i) xs f)).0) s.t_wr

  writes-left : (c : Command) → is WRITE c ≡ false → write_held s (map (cut_by s p t c) xs) ≡ X.write
  writes-left c e = same_write (held_cut is_write (λ n x. refl) s p t c xs) (end_stays c e) (same_writer c)

  -- a bank by the deadline of its last write
  abbrev bank_with : Bank → ℕ → BankHeld
  bank_with k written = written_till written true (bank_held s k none)

  -- a bank that becomes idle, or not, keeps its ACTIVE and its last write
  abbrev idled : ℕ → Bank → Bool → Bank
  idled c k v = cond v (idle_from c k) k

  keeps-active : (c : ℕ) (k : Bank) (v : Bool) → (idled c k v).last_active ≡ k.last_active
  keeps-active c k true = refl
  keeps-active c k false = refl

  bank-stays : (c : Command) → is WRITE c ≡ false → (e i : ℕ) (v : Bool) →
      let k = idled e (p.banks i) v in
      bank_held s k (find (λ x. x.writes && (eqb i x.bank && ever k.last_active (λ a. leb a x.k))) (map (cut_by s p t c) xs)) ≡ bank_held s k (last_bank_write p i)
  bank-stays c w e i v =
      let k = idled e (p.banks i) v in
      ap (bank_with k) (written-stays c w i k.last_active (keeps-active e (p.banks i) v))

  -- ---- auto precharge

  -- READ or WRITE of bank b: its bank is shut if it has auto precharge
  abbrev auto_banks : Bool → ℕ → ℕ → (ℕ → BankHeld) → ℕ → BankHeld
  auto_banks ten c b banks i = cond ten (on_bank (auto_shut c) b banks i) (banks i)

  abbrev idle_at : ℕ → Bank → ℕ
  idle_at c k = later (or_zero k.last_active + s.t_ras) c

  auto-bank : (k : Bank) (w : Option Burst) (c : ℕ) (v ten : Bool) →
      bank_held s (idled (idle_at c k) k (v && ten)) w ≡
      cond ten (auto_shut (c + s.t_rp) v (bank_held s k w)) (bank_held s k w)
  auto-bank k w c true true = ap (λ (r : ℕ). shut r true (bank_held s k w)) (sym (later-add s.t_rp (or_zero k.last_active + s.t_ras) c))
  auto-bank k w c true false = refl
  auto-bank k w c false true = refl
  auto-bank k w c false false = refl

  held_new : (auto : Bool) (c H : ℕ) → H ≤ c → later (cond auto c 0) H ≡ cond auto c H
  held_new true c H q = later-high c H q
  held_new false c H q = rw (leb-zero H)

  pub read_next : p.sleep.asleep ≡ false → (b a : ℕ) (ten : Bool) → b < 4 → X.read.reads ≤ t → laid (after (does READ b a ten)) ≡ read_after s (laid X) (pace_of p.mode) t b ten
  unfolding read_after
  read_next awake b a ten m q = ap laid entries ∙ stored ten
    where
      c : Command
      c = does READ b a ten

      over : ℕ
      over = t + h p.mode

      given : Bool → Held
      given v = read_given (record { bus = t + CL p.mode + h p.mode; reads = cond v over X.read.reads; last = cond v 4 b }) X

      stored : (v : Bool) → laid (banked (auto_banks v (over + s.t_rp) b X.banks) (given v)) ≡ read_after s (laid X) (pace_of p.mode) t b v
      stored true = sym (auto-laid (given true) (over + s.t_rp) b m)
      stored false = refl

      bank : (i : ℕ) → (after c).banks i ≡ auto_banks ten (over + s.t_rp) b X.banks i
      bank i =
          bank-stays c refl (idle_at over (p.banks i)) i (eqb i b && ten)
          ∙ auto-bank (p.banks i) (last_bank_write p i) over (eqb i b) ten

      entries : after c ≡ banked (auto_banks ten (over + s.t_rp) b X.banks) (given ten)
      entries =
          same bank
          (same_read refl (rw (held_cut reads (λ n x. refl) s p t c xs) (held_new ten over X.read.reads (omega (arith, q)))) refl)
          (same_write (rw (held_cut is_write (λ n x. refl) s p t c xs, leb-zero X.write.writes)) (end_stays c refl) (same_writer c))
          refl (awake-stays awake)

  -- ---- WRITE: every write's data now ends by t + 1; only the last one's could end later

  reads-stay : (c : Command) → ((x : Burst) → x.writes ≡ false → cuts p c x ≡ false) → find reads (map (cut_by s p t c) xs) ≡ find reads xs
  reads-stay c e =
      find-same reads (cut_by s p t c) (λ x. refl)
      (λ x h. uncut s p t c x (e x (not-true x.writes h)) (read-calm s p c x (not-true x.writes h))) xs

  write-end : (b a : ℕ) (ten : Bool) (x : Burst) → Given from₀ x → Over t is_write x → x.writes ≡ true →
      data_end (cut_by s p t (does WRITE b a ten) x) ≡ lesser (data_end x) (t + 1)
  write-end b a ten x gx ox w =
      cut-until s p from₀ t l (does WRITE b a ten) x gx (ox.by w) 1 (rw w) (calm s p (does WRITE b a ten) x refl refl)

  -- a bank's last write that is not the last of all has ended
  ended-other : {ys : List Burst} → Late from₀ ys → (i : ℕ) (x : Burst) → find (bank_write p i) ys ≡ some x →
      ((y : Burst) → find is_write ys ≡ some y → i ≡ y.bank → ⊥) → data_end x ≤ from₀
  ended-other nothing i x e n = let z : ◌≡◌ {A = ℕ} 0 1 = cc in absurd (omega arith)
  ended-other (behind {x = y} {xs = ys} r) i x e n = go y.writes refl
    where
      found : bank_write p i y ≡ false → find (bank_write p i) ys ≡ some x
      found f = rw f at e

      ended-there : find (bank_write p i) ys ≡ some x → data_end x ≤ from₀
      ended-there f = (find-all (bank_write p i) r f).by (both x.writes _ (find-holds (bank_write p i) ys f)).0

      go : (w : Bool) → y.writes ≡ w → data_end x ≤ from₀
      go false w = ended-there (found (rw w))
      go true w = ended-there (found (rw (ne_eqb i y.bank (n y (rw w)), and-false y.writes)))

  -- the bank of the last write, 0 if there is none
  abbrev written_bank : Option Burst → ℕ
  written_bank none = 0
  written_bank (some x) = x.bank

  writer-bank : X.write.writer % 4 ≡ written_bank (find is_write xs)
  writer-bank = go (find is_write xs) refl
    where
      bank-of : (a : Bool) (b : ℕ) → b < 4 → cond a (b + 4) b % 4 ≡ b
      bank-of true b m = omega arith
      bank-of false b m = mod-eq_of_lt m

      go : (o : Option Burst) → find is_write xs ≡ o → writer_of o % 4 ≡ written_bank o
      go none e = refl
      go (some x) e = bank-of x.auto x.bank (find-all is_write g.bursts e).bank

  -- the entry of bank i that is not written now
  cut-written : (b a : ℕ) (ten : Bool) → X.write.writes ≤ t → (i : ℕ) (o : Option Burst) → find (bank_write p i) xs ≡ o →
      ended s (Option.map (cut_by s p t (does WRITE b a ten)) o) s.t_wr ≡
      cond (eqb i (X.write.writer % 4)) (lesser (X.banks i).written (t + 1 + 0 + s.t_wr)) (X.banks i).written
  cut-written b a ten q i o e = rw writer-bank (go (eqb i (written_bank (find is_write xs))) refl o e)
    where
      c : Command
      c = does WRITE b a ten

      -- in the newer edition its first pair is past, and else it is cut
      rests-cut : (x : Burst) → find (bank_write p i) xs ≡ some x → rests_from s (cut_by s p t c x) ≡ lesser (rests_from s x) (t + 1)
      rests-cut x f = by (newer s && not x.auto)
        where
          gx : Given from₀ x
          gx = find-all (bank_write p i) g.bursts f

          by : (v : Bool) → cond v (x.k + 2) (data_end (cut_by s p t c x)) ≡ lesser (cond v (x.k + 2) (data_end x)) (t + 1)
          by true = sym (lesser-low (x.k + 2) (t + 1) (omega (arith, gx.before)))
          by false =
              write-end b a ten x gx (find-all (bank_write p i) (held-over is_write t xs q) f) (both x.writes _ (find-holds (bank_write p i) xs f)).0

      -- one that has ended is not cut
      rests-low : (x : Burst) → Given from₀ x → data_end x ≤ from₀ → rests_from s x ≤ t + 1
      rests-low x gx d = by (newer s && not x.auto)
        where
          by : (v : Bool) → cond v (x.k + 2) (data_end x) ≤ t + 1
          by true = omega (arith, gx.before)
          by false = omega arith

      go : (v : Bool) → eqb i (written_bank (find is_write xs)) ≡ v → (o : Option Burst) → find (bank_write p i) xs ≡ o →
          ended s (Option.map (cut_by s p t c) o) s.t_wr ≡ cond v (lesser (X.banks i).written (t + 1 + 0 + s.t_wr)) (X.banks i).written
      go true f none h =
          sym (ap (λ (u : Option Burst). lesser (ended s u s.t_wr) (t + 1 + 0 + s.t_wr)) h ∙ lesser-low 0 (t + 1 + 0 + s.t_wr) (omega arith))
      go true f (some x) h =
          ap (λ (u : ℕ). u + s.t_wr) (rests-cut x h) ∙ sym (lesser-add s.t_wr (rests_from s x) (t + 1))
          ∙ ap (λ (u : ℕ). lesser (rests_from s x + s.t_wr) (u + s.t_wr)) (omega arith)
          ∙ ap (λ (u : Option Burst). lesser (ended s u s.t_wr) (t + 1 + 0 + s.t_wr)) (sym h)
      go false f none h = ap (λ (u : Option Burst). ended s u s.t_wr) (sym h)
      go false f (some x) h =
          ap (λ (u : ℕ). u + s.t_wr) (rests-cut x h ∙ lesser-low (rests_from s x) (t + 1) (rests-low x (find-all (bank_write p i) g.bursts h) other))
          ∙ ap (λ (u : Option Burst). ended s u s.t_wr) (sym h)
        where
          other : data_end x ≤ from₀
          other = ended-other g.late i x h (λ y k. eqb-false i y.bank (sym (ap (λ (u : Option Burst). eqb i (written_bank u)) k) ∙ f))

  -- a row was opened before
  pub open_by : (o : Option ℕ) → Before from₀ o → ever o (λ a. leb a t) ≡ true
  open_by none q = refl
  open_by (some a) q = le-leb a t (omega arith)

  pub write-next : p.sleep.asleep ≡ false → (b a : ℕ) (ten : Bool) → b < 4 → X.write.writes ≤ t →
      laid (after (does WRITE b a ten)) ≡ write_after s (laid X) (pace_of p.mode) t b ten
  unfolding write_after
  write-next awake b a ten m q = ap laid (entries (newer s) refl) ∙ stored ten (newer s) refl
    where
      c : Command
      c = does WRITE b a ten

      pairs : ℕ
      pairs = h p.mode

      -- its data end there, and with auto precharge or in the old edition it is waited for from there
      over : ℕ
      over = t + 1 + pairs

      rests : Bool → Bool → ℕ
      rests early auto = cond (early && not auto) (t + 2) over

      -- the last write cut, and the new one
      cut : ℕ → BankHeld
      cut = on_bank (written_by (t + 1 + 0 + s.t_wr)) (X.write.writer % 4) X.banks

      W : Bool → Bool → ℕ → BankHeld
      W early auto = on_bank (written_till (rests early auto + s.t_wr)) b cut

      given : Bool → Bool → Held
      given early auto =
          new_given (over + 5)
          (record {
            writes = cond auto (t + pairs) X.write.writes;
            end = rests early auto + s.t_wtr;
            writer = cond auto (b + 4) b;
          })
          (banked (W early auto) X)

      -- before its bank is noted
      new : Held
      new =
          new_given (over + 5) (record { writes = X.write.writes; end = over + s.t_wtr; writer = X.write.writer })
          (banked (W false false) X)

      plain : Held
      plain = given false false

      new-stored : new_write s (cut_write s (laid X) t) t pairs b ≡ laid new
      new-stored = ap (λ (d : List ℕ). new_write s d t pairs b) (cut-laid s X t) ∙ new-laid s (banked cut X) t pairs b m

      closes : ℕ
      closes = over + s.t_wr + s.t_rp

      stored : (auto early : Bool) → newer s ≡ early → laid (banked (auto_banks auto closes b (W early auto)) (given early auto)) ≡ write_after s (laid X) (pace_of p.mode) t b auto
      stored true true e = sym (ap (λ (d : List ℕ). auto_write s d t pairs b) new-stored ∙ auto-write-laid s new t pairs b m)
      stored true false e = sym (ap (λ (d : List ℕ). auto_write s d t pairs b) new-stored ∙ auto-write-laid s new t pairs b m)
      stored false early e =
          early-stored early
          ∙ sym (ap (λ (d : List ℕ). plain_write s d t b) new-stored ∙ plain-laid s new t b m ∙ ap (λ (v : Bool). cond v (laid (rests_early s t b plain)) (laid plain)) e)
        where
          twice : (i : ℕ) → on_bank (written_till (t + 2 + s.t_wr)) b (W false false) i ≡ W true false i
          twice i = go (eqb i b)
            where
              go : (v : Bool) → written_till (t + 2 + s.t_wr) v (written_till (over + s.t_wr) v (cut i)) ≡ written_till (t + 2 + s.t_wr) v (cut i)
              go true = refl
              go false = refl

          early-stored : (v : Bool) → laid (given v false) ≡ cond v (laid (rests_early s t b plain)) (laid plain)
          early-stored true = ap laid (sym (same twice refl refl refl refl))
          early-stored false = refl

      reads_whole : find reads (map (cut_by s p t c) xs) ≡ find reads xs
      reads_whole = reads-stay c (λ x f. rw f)

      -- the last write to bank i since its ACTIVE, which is u
      last : ℕ → Option ℕ → Bool → Option Burst
      last i u v =
          cond (v && ever u (λ r. leb r t)) (some (burst_given s p t c))
          (find (λ x. x.writes && (eqb i x.bank && ever u (λ r. leb r x.k))) (map (cut_by s p t c) xs))

      written : (i : ℕ) (u : Option ℕ) → u ≡ (p.banks i).last_active → (v : Bool) →
          ended s (last i u v) s.t_wr ≡
          cond v (rests (newer s) ten + s.t_wr)
          (cond (eqb i (X.write.writer % 4)) (lesser (X.banks i).written (t + 1 + 0 + s.t_wr)) (X.banks i).written)
      written i u e true = rw (e, open_by (p.banks i).last_active (g.banks i))
      written i u e false =
          ap (λ (r : Option ℕ). ended s (find (λ x. x.writes && (eqb i x.bank && ever r (λ n. leb n x.k))) (map (cut_by s p t c) xs)) s.t_wr) e
          ∙ ap (λ (r : Option Burst). ended s r s.t_wr) (find-map (bank_write p i) (cut_by s p t c) (λ x. refl) xs)
          ∙ cut-written b a ten q i (find (bank_write p i) xs) refl

      bank : (i : ℕ) → (after c).banks i ≡ auto_banks ten closes b (W (newer s) ten) i
      bank i =
          let k = p.banks i in
          let idle = idle_at (over + s.t_wr) k in
          let active = (idled idle k (eqb i b && ten)).last_active in
          auto-bank k (last i active (eqb i b)) (over + s.t_wr) (eqb i b) ten
          ∙ ap (λ (n : ℕ). let y = written_till n true (X.banks i) in cond ten (auto_shut closes (eqb i b) y) y)
          (written i active (keeps-active idle k (eqb i b && ten)) (eqb i b))

      entries : (early : Bool) → newer s ≡ early → after c ≡ banked (auto_banks ten closes b (W early ten)) (given early ten)
      entries early e =
          same bank
          (same_read (rw reads_whole) (rw (held_cut reads (λ n x. refl) s p t c xs, leb-zero X.read.reads)) refl)
          (same_write (rw (held_cut is_write (λ n x. refl) s p t c xs) (held_new ten (t + pairs) X.write.writes (omega (arith, q)))) refl refl)
          refl (awake-stays awake)
          ∙ ap (λ (v : Bool). banked (auto_banks ten closes b (W v ten)) (given v ten)) e

  -- ---- cuts of reads

  read-given : (x : Burst) → find reads xs ≡ some x → Given from₀ x
  read-given x f = find-all reads g.bursts f

  -- the bus is free of a read that c cuts
  cut-clear : (c : Command) (x : Burst) → find reads xs ≡ some x → Latency from₀ p.mode (some x) → cuts p c x ≡ true →
      (x.auto ≡ true → x.k + h x.mode ≤ t) →
      cleared (some (cut_by s p t c x)) ≡ lesser (cleared (some x)) (t + CL p.mode)
  cut-clear c x f y u over =
      cut-until s p from₀ t l c x (read-given x f) over (CL x.mode) u (read-calm s p c x (not-true x.writes (find-holds reads xs f)))
      ∙ same-latency from₀ t p.mode l x y

  found-cut : (c : Command) → find reads (map (cut_by s p t c) xs) ≡ Option.map (cut_by s p t c) (find reads xs)
  found-cut c = find-map reads (cut_by s p t c) (λ x. refl) xs

  last-stays : (c : Command) → last_of (map (cut_by s p t c) xs) ≡ X.read.last
  last-stays c = same-last (λ x. (cut_by s p t c x).n) xs

  -- BURST TERMINATE cuts the last read, unless it has auto precharge and so is over
  bus-ends : (b a : ℕ) (ten : Bool) → X.read.reads ≤ t →
      cleared (find reads (map (cut_by s p t (does BURST-TERMINATE b a ten)) xs)) ≡ lesser X.read.bus (t + CL p.mode)
  bus-ends b a ten q = ap cleared (found-cut c) ∙ go (find reads xs) refl g.latency
    where
      c : Command
      c = does BURST-TERMINATE b a ten

      go : (o : Option Burst) → find reads xs ≡ o → Latency from₀ p.mode o →
          cleared (Option.map (cut_by s p t c) o) ≡ lesser (cleared o) (t + CL p.mode)
      go none f y = sym (lesser-low 0 (t + CL p.mode) (omega arith))
      go (some x) f y =
          cut-clear c x f y (rw (not-true x.writes (find-holds reads xs f)))
          (λ a. (find-all reads (held-over reads t xs q) f).by (find-holds reads xs f) a)

  pub terminate-next : p.sleep.asleep ≡ false → (b a : ℕ) (ten : Bool) → X.read.reads ≤ t → laid (after (does BURST-TERMINATE b a ten)) ≡ cut_read (laid X) (pace_of p.mode) t true
  unfolding cut_read
  terminate-next awake b a ten q = ap laid entries
    where
      c : Command
      c = does BURST-TERMINATE b a ten

      bank : (i : ℕ) → (after c).banks i ≡ X.banks i
      bank i = ap (bank_with (p.banks i)) (written-stays c refl i _ refl)

      entries : after c ≡ read_given (record { bus = lesser X.read.bus (t + CL p.mode); reads = X.read.reads; last = X.read.last }) X
      entries = same bank (same_read (bus-ends b a ten q) (held_cut reads (λ n x. refl) s p t c xs) (last-stays c)) (writes-left c refl) refl (awake-stays awake)

  -- PRECHARGE cuts the last read if that is the last burst, which shows its bank, and 4 for auto precharge, and that is a bank
  -- that it names; where that is idle there is nothing left to cut
  bus-closes : (b a : ℕ) (ten : Bool) (named : ℕ → Bool) → ((n : ℕ) → 4 ≤ n → named n ≡ false) →
      ((x : Burst) → find reads xs ≡ some x → (ten || eqb x.bank b) ≡ named x.bank) →
      cleared (find reads (map (cut_by s p t (does PRECHARGE b a ten)) xs)) ≡ cond (named X.read.last) (lesser X.read.bus (t + CL p.mode)) X.read.bus
  bus-closes b a ten named high e = ap cleared (found-cut c) ∙ by_last xs refl
    where
      c : Command
      c = does PRECHARGE b a ten

      cutting : (x : Burst) → find reads xs ≡ some x → cuts p c x ≡ ((p.banks x.bank).opened && named x.bank)
      cutting x f = rw (not-true x.writes (find-holds reads xs f)) (ap (λ (v : Bool). (p.banks x.bank).opened && v) (e x f))

      stays-whole : (x : Burst) → find reads xs ≡ some x → cuts p c x ≡ false → cleared (some (cut_by s p t c x)) ≡ cleared (some x)
      stays-whole x f u =
          ap (λ (r : Burst). cleared (some r)) (uncut s p t c x u (read-calm s p c x (not-true x.writes (find-holds reads xs f))))

      -- where the bank is idle the read's last pair is past
      idle : (x : Burst) → find reads xs ≡ some x → Latency from₀ p.mode (some x) → x.auto ≡ false → (p.banks x.bank).opened ≡ false →
          lesser (cleared (some x)) (t + CL p.mode) ≡ cleared (some x)
      idle x f y z o =
          let past = (find-all reads (all-spent p from₀ t l g.running) f).by (not-true x.writes (find-holds reads xs f)) z o in
          sym (same-latency from₀ t p.mode l x y) ∙ lesser-low (cleared (some x)) (t + CL x.mode) (omega (arith, past))

      by : (x : Burst) → find reads xs ≡ some x → Latency from₀ p.mode (some x) → (w : Bool) → x.auto ≡ w →
          (o : Bool) → (p.banks x.bank).opened ≡ o → (v : Bool) → named x.bank ≡ v →
          cleared (some (cut_by s p t c x)) ≡ cond (named (cond w 4 x.bank)) (lesser (cleared (some x)) (t + CL p.mode)) (cleared (some x))
      by x f y true z o i v u = rw (high 4 (omega arith)) (ap (λ (r : Burst). cleared (some r)) (auto-uncut s p t c x z))
      by x f y false z true i true u =
          rw u (cut-clear c x f y (cutting x f ∙ rw (i, u)) (λ r. absurd (let k : ◌≡◌ {A = ℕ} 0 1 = cc in omega arith)))
      by x f y false z false i true u = rw u (stays-whole x f (cutting x f ∙ rw i) ∙ sym (idle x f y z i))
      by x f y false z o i false u = rw u (stays-whole x f (cutting x f ∙ rw u (and-false (p.banks x.bank).opened)))

      nothing-cut : (v : Bool) → 0 ≡ cond v (lesser 0 (t + CL p.mode)) 0
      nothing-cut true = sym (lesser-low 0 (t + CL p.mode) (omega arith))
      nothing-cut false = refl

      -- a read that is not the last burst has nothing left to lose
      behind-write : (y : Burst) → first xs ≡ some y → y.writes ≡ true → (x : Burst) → find reads xs ≡ some x → cut_by s p t c x ≡ x
      behind-write y f w x k = go x.auto refl
        where
          reading : x.writes ≡ false
          reading = not-true x.writes (find-holds reads xs k)

          other : first xs ≡ some x → ⊥
          other u = let z : y ≡ x = cc in let v : true ≡ false = sym w ∙ ap (λ (r : Burst). r.writes) z ∙ reading in let n : ◌≡◌ {A = ℕ} 0 1 = cc in omega arith

          past : x.auto ≡ false → {Open : Type 0} → (x.k + x.n ≤ from₀) ⊎ ((first xs ≡ some x) × Open) → x.k + x.n ≤ t
          past a (inl r) = omega arith
          past a (inr (u, o)) = absurd (other u)

          go : (a : Bool) → x.auto ≡ a → cut_by s p t c x ≡ x
          go true a = auto-uncut s p t c x a
          go false a = spent-uncut s p t c x reading a (past a ((find-all reads g.running k).by reading a))

      not_named : (o : Option Burst) → ((x : Burst) → o ≡ some x → cut_by s p t c x ≡ x) → (v : Bool) → v ≡ false →
          cleared (Option.map (cut_by s p t c) o) ≡ cond v (lesser (cleared o) (t + CL p.mode)) (cleared o)
      not_named none f v u = nothing-cut v
      not_named (some x) f v u = ap (λ (r : Burst). cleared (some r)) (f x refl) ∙ rw u

      by_last : (ys : List Burst) → xs ≡ ys → cleared (Option.map (cut_by s p t c) (find reads xs)) ≡ cond (named (last_of xs)) (lesser X.read.bus (t + CL p.mode)) X.read.bus
      by_last [] k = not_named (find reads xs) (λ x f. absurd (nowhere x (sym f ∙ ap (find reads) k))) (named (last_of xs)) (high (last_of xs) (omega (arith, ap last_of k)))
        where
          nowhere : (x : Burst) → some x ≡ none → ⊥
          nowhere x q = let n : ◌≡◌ {A = ℕ} 0 1 = cc in omega arith
      by_last (y ∷ ys) k = go y.writes refl
        where
          found : y.writes ≡ false → find reads xs ≡ some y
          found w = ap (find reads) k ∙ rw w

          go : (w : Bool) → y.writes ≡ w →
              cleared (Option.map (cut_by s p t c) (find reads xs)) ≡ cond (named (last_of xs)) (lesser X.read.bus (t + CL p.mode)) X.read.bus
          go true w =
              let whole : last_of (y ∷ ys) ≡ y.k + 1 + h y.mode + 5 = rw w in
              not_named (find reads xs) (behind-write y (ap first k) w) (named (last_of xs)) (high (last_of xs) (omega (arith, ap last_of k, whole)))
          go false w =
              let f = found w in
              let shown : last_of (y ∷ ys) ≡ cond y.auto 4 y.bank = rw w in
              ap (λ (o : Option Burst). cleared (Option.map (cut_by s p t c) o)) f
              ∙ by y f (subst (λ (o : Option Burst). Latency from₀ p.mode o) f g.latency) y.auto refl (p.banks y.bank).opened refl (named y.bank) refl
              ∙ (λ i. cond (named (sym (ap last_of k ∙ shown) i)) (lesser (cleared (sym f i)) (t + CL p.mode)) (cleared (sym f i)))

  -- a bank that a PRECHARGE names, where it is open
  close-bank : (o : Bool) (row : ℕ) (active precharged : Option ℕ) (w : Option Burst) (v : Bool) →
      let k : Bank = record { opened = o; row = row; last_active = active; precharge_cycle = precharged } in
      bank_held s (cond (o && v) (idle_from t k) k) w ≡ closed (t + s.t_rp) v (bank_held s k w)
  close-bank true row active precharged w true = refl
  close-bank true row active precharged w false = refl
  close-bank false row active precharged w true = refl
  close-bank false row active precharged w false = refl

  closed_is : (b a : ℕ) (ten : Bool) (i : ℕ) (v : Bool) →
      let k = idled t (p.banks i) ((p.banks i).opened && v) in
      let found = find (λ x. x.writes && (eqb i x.bank && ever k.last_active (λ r. leb r x.k))) (map (cut_by s p t (does PRECHARGE b a ten)) xs) in
      bank_held s k found ≡ closed (t + s.t_rp) v (X.banks i)
  closed_is b a ten i v =
      let k = p.banks i in
      bank-stays (does PRECHARGE b a ten) refl t i (k.opened && v)
      ∙ close-bank k.opened k.row k.last_active k.precharge_cycle (last_bank_write p i) v

  pub close-next : p.sleep.asleep ≡ false → (b a : ℕ) → b < 4 → laid (after (does PRECHARGE b a false)) ≡ close_after s (laid X) (pace_of p.mode) t b
  unfolding close_after cut_read
  close-next awake b a m =
      ap laid entries
      ∙ sym (ap (λ (d : List ℕ). cut_read d (pace_of p.mode) t (eqb (at d LAST) b)) (rest-laid X (t + s.t_rp) b m))
    where
      c : Command
      c = does PRECHARGE b a false

      bus : ℕ
      bus = cond (eqb X.read.last b) (lesser X.read.bus (t + CL p.mode)) X.read.bus

      entries : after c ≡
          read_given (record { bus = bus; reads = X.read.reads; last = X.read.last })
          (banked (on_bank (closed (t + s.t_rp)) b X.banks) X)
      entries =
          same (λ i. closed_is b a false i (eqb i b))
          (same_read (bus-closes b a false (λ i. eqb i b) (λ n k. ne_eqb n b (λ e. omega arith)) (λ x f. refl)) (held_cut reads (λ n x. refl) s p t c xs) (last-stays c))
          (writes-left c refl) refl (awake-stays awake)

  pub close-all-next : p.sleep.asleep ≡ false → (b a : ℕ) → laid (after (does PRECHARGE b a true)) ≡ close_all_after s (laid X) (pace_of p.mode) t
  unfolding close_all_after cut_read rest_all rest_after
  close-all-next awake b a = ap laid entries
    where
      c : Command
      c = does PRECHARGE b a true

      small : (x : Burst) → find reads xs ≡ some x → true ≡ ltb x.bank 4
      small x f = sym (lt-ltb x.bank 4 (read-given x f).bank)

      bus : ℕ
      bus = cond (ltb X.read.last 4) (lesser X.read.bus (t + CL p.mode)) X.read.bus

      entries : after c ≡
          read_given (record { bus = bus; reads = X.read.reads; last = X.read.last }) (banked (λ i. closed (t + s.t_rp) true (X.banks i)) X)
      entries =
          same (λ i. closed_is b a true i true)
          (same_read (bus-closes b a true (λ i. ltb i 4) (λ n k. le-ltb n 4 k) small) (held_cut reads (λ n x. refl) s p t c xs) (last-stays c))
          (writes-left c refl) refl (awake-stays awake)
