-- A NOP put between two events changes nothing but rule 14: what the NOPs of an export make of a verdict.
use Prim.Native.Nat.{ℕ, zero, suc, ◌+◌, ◌-◌, ◌/◌, ◌≤◌, ◌<◌}
use mathlib.Core.Bool.{Bool, true, false, cond, not, ◌&&◌, and-false}
use mathlib.Core.List.{List, [], ◌∷◌, ◌++◌, map}
use mathlib.Core.Logic.{◌⊎◌, inl, inr}
use mathlib.Core.Option.{Option, none, some}
use mathlib.Core.Path.{◌≡◌, refl, sym, ap, ◌∙◌}
use native.Mathlib.Nat.{add-zero, add-suc, zero-add, div-zero, div-mul-le_self, le-div_iff_mul-le}
use native.Mathlib.Omega.{arith}
use borrow.Author.Tests.{leb-true, le-leb}
use lib.Dec.{ltb}
use lib.ListN.{length}
use Rattle.reading.specs.Search.{find, count}
use Rattle.reading.specs.Settings.{Settings, newer}
use Rattle.reading.specs.Capture.{Event}
use Rattle.reading.specs.Commands.{Command, NOP, command_of, pins_of}
use Rattle.reading.specs.Sleep.{Sleep, sleep_after}
use Rattle.reading.specs.Bursts.{Burst, with_pairs, whole_end}
use Rattle.reading.specs.RefreshClock.{Clock, owed, in_time}
use Rattle.reading.specs.Part.{Part, at_most, interrupted_to, cut_by, clock_after, start, step}
use Rattle.reading.specs.Rules.{rule14, rules, broken_by}
use Rattle.reading.specs.Verdict.{Verdict, clean, broken, broken_or, judge_from, verdict_of, judge_by, verdict_by}
use Rattle.reading.specs.Export.{nop_at, nop, between, nops, bridged_from, bridged, added_from, added_before, last_before, late_nop, late_or}
use Rattle.reading.proofs.Found.{member-at}
use Rattle.reading.proofs.Meaning.{Keeps, Unbroken, BrokenAt, event_of, part_before, none-broken, lowest-broken, verdict-clean, verdict-broken}

-- ---- one NOP

abbrev nop-command : Command
nop-command = command_of (pins_of NOP 0 0)

module _ (s : Settings) (p : Part) (t : ℕ) where
  -- it cuts nothing
  uncut : (x : Burst) → cut_by s p t nop-command x ≡ x
  uncut x = ap (λ (n : ℕ). with_pairs n x) (go x.auto x.writes (newer s))
    where
      go : (auto writes new : Bool) →
          at_most
          (cond auto none
          (cond (cond writes false false && ltb t (whole_end x)) (some (t - x.k))
          (cond ((new && writes) && false) (some (interrupted_to s t nop-command x)) none)))
          x.n
          ≡ x.n
      go true w n = refl
      go false true n = rw (and-false (n && true))
      go false false n = rw (and-false (n && false))

  all-uncut : (xs : List Burst) → map (cut_by s p t nop-command) xs ≡ xs
  all-uncut [] = refl
  all-uncut (x ∷ xs) = λ i. uncut x i ∷ all-uncut xs i

  module _ (awake : p.sleep.asleep ≡ false) where
    same-sleep : sleep_after t nop-command p.sleep ≡ p.sleep
    same-sleep = go p.sleep.asleep awake
      where
        go : (v : Bool) → v ≡ false →
            ◌≡◌ {A = Sleep}
            (record { asleep = false; self = p.sleep.self; left = cond (v && true) (some t) p.sleep.left })
            (record { asleep = v; self = p.sleep.self; left = p.sleep.left })
        go true e = let z : ◌≡◌ {A = ℕ} 0 1 = cc in absurd (omega arith)
        go false e = refl

    same-clock : clock_after s t nop-command p.sleep p.clock ≡ p.clock
    same-clock = rw awake

    -- a part that is awake is as it was
    pub nop-step : step s p (nop_at t) ≡ p
    nop-step i =
        record {
          banks = p.banks;
          mode = p.mode;
          last_refresh = p.last_refresh;
          last_mode_set = p.last_mode_set;
          clock = same-clock i;
          sleep = same-sleep i;
          bursts = all-uncut p.bursts i;
        }

    -- and it breaks rule 14 at most
    pub nop-breaks : broken_by s p (nop_at t) ≡ cond {A = Option ℕ} (in_time s p.clock t) none (some 14)
    nop-breaks = rw awake (go (in_time s p.clock t))
      where
        go : (v : Bool) → ◌≡◌ {A = Option ℕ} (cond (not v) (some 14) none) (cond v none (some 14))
        go true = refl
        go false = refl

-- ---- what is in time was in time before

div-le : (a b k : ℕ) → a ≤ b → a / k ≤ b / k
div-le a b zero l = omega (arith, div-zero a, div-zero b)
div-le a b (suc k) l = (le-div_iff_mul-le {k = suc k} (omega arith)).1 (omega (arith, div-mul-le_self a (suc k)))

pub early-before : (s : Settings) (k : Clock) (u t : ℕ) → u ≤ t → in_time s k t ≡ true → in_time s k u ≡ true
early-before s k u t l e =
    le-leb (owed s k u) 8
    (omega (arith, leb-true (owed s k t) 8 e, div-le (u - k.origin) (t - k.origin) s.t_refi (omega arith)))

-- ---- the NOPs before an event

in-time-from : (s : Settings) (c : Clock) (last t : ℕ) → in_time s c t ≡ true → (k n : ℕ) → k + n ≤ between last t →
    find (λ j. not (in_time s c (nop last j).cycle)) (count k n) ≡ none
in-time-from s c last t e k zero l = refl
in-time-from s c last t e k (suc n) l =
    rw (early-before s c (nop last k).cycle t (omega arith) e) (in-time-from s c last t e (suc k) n (omega arith))

-- where the event is in time, so are they
pub in-time-none : (s : Settings) (c : Clock) (last t : ℕ) → in_time s c t ≡ true → late_nop s c last t ≡ none
in-time-none s c last t e = in-time-from s c last t e 0 (between last t) (omega arith)

module _ (s : Settings) (p : Part) (awake : p.sleep.asleep ≡ false) (last : ℕ) (rest : List Event) (m : ℕ) where
  late : ℕ → Bool
  late j = not (in_time s p.clock (nop last j).cycle)

  nops-judged : (k n : ℕ) →
      judge_from s p (m + k) (map (nop last) (count k n) ++ rest) ≡
      late_or (find late (count k n)) last m (judge_from s p (m + k + n) rest)
  unfolding judge_by late
  nops-judged k zero = ap (λ (i : ℕ). judge_from s p i rest) (omega arith)
  nops-judged k (suc n) =
      rw (nop-breaks s p (nop last k).cycle awake, nop-step s p (nop last k).cycle awake)
      (go (in_time s p.clock (nop last k).cycle)
      (ap (λ (i : ℕ). judge_from s p i behind) (sym (add-suc m k)) ∙ nops-judged (suc k) n
      ∙ ap (λ (i : ℕ). late_or (find late (count (suc k) n)) last m (judge_from s p i rest)) (omega arith)))
    where
      behind : List Event
      behind = map (nop last) (count (suc k) n) ++ rest

      go : (v : Bool) → judge_from s p (suc (m + k)) behind ≡ late_or (find late (count (suc k) n)) last m (judge_from s p (m + k + suc n) rest) →
          broken_or (cond {A = Option ℕ} v none (some 14)) (m + k) (nop last k).cycle (judge_from s p (suc (m + k)) behind)
          ≡ late_or (cond (not v) (some k) (find late (count (suc k) n))) last m (judge_from s p (m + k + suc n) rest)
      go true e = e
      go false e = refl

  -- the first that is late is reported, if one is
  pub nops-late : (t : ℕ) →
      judge_from s p m (nops last t ++ rest) ≡ late_or (late_nop s p.clock last t) last m (judge_from s p (m + between last t) rest)
  unfolding nops late
  nops-late t =
      ap (λ (i : ℕ). judge_from s p i (nops last t ++ rest)) (sym (add-zero m)) ∙ nops-judged 0 (between last t)
      ∙ ap (λ (i : ℕ). late_or (late_nop s p.clock last t) last m (judge_from s p (i + between last t) rest)) (add-zero m)

  pub nops-pass : (t : ℕ) → in_time s p.clock t ≡ true →
      judge_from s p m (nops last t ++ rest) ≡ judge_from s p (m + between last t) rest
  nops-pass t e =
      nops-late t
      ∙ ap (λ (o : Option ℕ). late_or o last m (judge_from s p (m + between last t) rest)) (in-time-none s p.clock last t e)

-- what is found among the first n numbers is below n
counted-below : (f : ℕ → Bool) (k n j : ℕ) → find f (count k n) ≡ some j → j < k + n
counted-below f k zero j e = let z : ◌≡◌ {A = ℕ} 0 1 = cc in absurd (omega arith)
counted-below f k (suc n) j e = go (f k) e (counted-below f (suc k) n j)
  where
    go : (v : Bool) → cond v (some k) (find f (count (suc k) n)) ≡ some j → (find f (count (suc k) n) ≡ some j → j < suc k + n) → j < k + suc n
    go true w ih = let z : k ≡ j = cc in omega arith
    go false w ih = omega (arith, ih w)

-- ---- a list of events, CKE high at each

abbrev pub High : List Event → Type 0
High [] = Unit {0}
High (e ∷ es) = ((command_of e.pins).low ≡ false) × High es

module _ (s : Settings) where
  awake-before : (p : Part) → p.sleep.asleep ≡ false → (es : List Event) → High es → (i : ℕ) → (part_before s p es i).sleep.asleep ≡ false
  awake-before p a es h zero = a
  awake-before p a [] h (suc i) = a
  awake-before p a (e ∷ es) h (suc i) = awake-before (step s p e) h.0 es h.1 i

  -- awake, rule 14 asks whether the event is in time
  asked-awake : (p : Part) → p.sleep.asleep ≡ false → (t : ℕ) (c : Command) → rule14 s p t c ≡ in_time s p.clock t
  asked-awake p awake t c = rw awake

  in-time : (p : Part) → p.sleep.asleep ≡ false → (e : Event) → Keeps s p e → in_time s p.clock e.cycle ≡ true
  in-time p awake e k = sym (asked-awake p awake e.cycle (command_of e.pins)) ∙ k 14 (member-at 0 rules 12 (omega arith))

  -- one that breaks none is passed, and what is behind it is judged
  module _ (p : Part) (awake : p.sleep.asleep ≡ false) (last m : ℕ) (e : Event) (es : List Event) (kept : Keeps s p e) where
    passed : judge_from s p m (bridged_from last (e ∷ es)) ≡
        judge_from s (step s p e) (suc (m + between last e.cycle)) (bridged_from e.cycle es)
    unfolding bridged_from judge_by
    passed =
        nops-pass s p awake last (e ∷ bridged_from e.cycle es) m e.cycle (in-time p awake e kept) ∙ rw ((none-broken s p e).1 kept)

  bridged-clean : (p : Part) → p.sleep.asleep ≡ false → (last m : ℕ) (es : List Event) → High es → Unbroken s p es (length es) →
      judge_from s p m (bridged_from last es) ≡ clean
  unfolding bridged_from judge_by
  bridged-clean p awake last m [] h u = refl
  bridged-clean p awake last m (e ∷ es) h u =
      passed p awake last m e es (u 0 (omega arith))
      ∙ bridged-clean (step s p e) h.0 e.cycle (suc (m + between last e.cycle)) es h.1 (λ i l. u (suc i) (omega arith))

  -- what is reported where event x, at t, is the first to break a rule, r: it, or the first of the NOPs before it that is late
  abbrev reported : (p : Part) (last m : ℕ) (es : List Event) (x r t : ℕ) → Verdict
  reported p last m es x r t =
      let before = last_before last es x in
      late_or (late_nop s (part_before s p es x).clock before t) before (m + x + added_from last es x - between before t)
      (broken r (m + x + added_from last es x) t)

  broken-first : (p : Part) → p.sleep.asleep ≡ false → (last m : ℕ) (e : Event) (es : List Event) (r t : ℕ) → BrokenAt s p (e ∷ es) 0 r t →
      judge_from s p m (bridged_from last (e ∷ es)) ≡ reported p last m (e ∷ es) 0 r t
  unfolding bridged_from judge_by
  broken-first p awake last m e es r t b =
      nops-late s p awake last (e ∷ bridged_from e.cycle es) m e.cycle
      ∙ ap (λ (o : Option ℕ). late_or (late_nop s p.clock last e.cycle) last m (broken_or o (m + k) e.cycle behind))
      ((lowest-broken s p e r).1 b.breaks)
      ∙ same b.cycle
    where
      k : ℕ
      k = between last e.cycle

      behind : Verdict
      behind = judge_from s (step s p e) (suc (m + k)) (bridged_from e.cycle es)

      same : {t : ℕ} → e.cycle ≡ t → late_or (late_nop s p.clock last e.cycle) last m (broken r (m + k) e.cycle) ≡
          late_or (late_nop s p.clock last t) last (m + 0 + k - between last t) (broken r (m + 0 + k) t)
      same {t} q =
          let at : m + between last t ≡ m + 0 + between last t = omega arith in
          let from : m ≡ m + 0 + between last t - between last t = omega arith in
          rw q (λ i. late_or (late_nop s p.clock last t) last (from i) (broken r (at i) t))

  bridged-broken : (p : Part) → p.sleep.asleep ≡ false → (last m : ℕ) (es : List Event) → High es → (x r t : ℕ) → BrokenAt s p es x r t →
      judge_from s p m (bridged_from last es) ≡ reported p last m es x r t
  bridged-broken p awake last m [] h x r t b = absurd (omega (arith, b.there))
  bridged-broken p awake last m (e ∷ es) h zero r t b = broken-first p awake last m e es r t b
  bridged-broken p awake last m (e ∷ es) h (suc x) r t b =
      let k = between last e.cycle in
      let a = added_from e.cycle es x in
      let n : suc (m + k) + x + a ≡ m + suc x + (k + a) = omega arith in
      let before = last_before e.cycle es x in
      let late = late_nop s (part_before s (step s p e) es x).clock before t in
      passed p awake last m e es (b.before 0 (omega arith))
      ∙ bridged-broken (step s p e) h.0 e.cycle (suc (m + k)) es h.1 x r t
      (record {
        there = omega (arith, b.there);
        before = λ i l. b.before (suc i) (omega arith);
        breaks = b.breaks;
        cycle = b.cycle;
      })
      ∙ (λ i. late_or late before (n i - between before t) (broken r (n i) t))

  -- ---- the verdict

  module _ (es : List Event) (high : High es) where
    pub still-clean : verdict_of s es ≡ clean → verdict_of s (bridged es) ≡ clean
    unfolding verdict_by
    still-clean c = bridged-clean (start s) refl 0 0 es high ((verdict-clean s es).0 c)

    module _ (r x t : ℕ) (c : verdict_of s es ≡ broken r x t) where
      -- the clock that the reported event finds, the cycle of the event before it, and how many events come before its NOPs
      abbrev clock : Clock
      clock = (part_before s (start s) es x).clock

      abbrev before : ℕ
      before = last_before 0 es x

      abbrev first : ℕ
      first = x + added_before es x - between before t

      -- exactly what is reported
      pub moved : verdict_of s (bridged es) ≡ late_or (late_nop s clock before t) before first (broken r (x + added_before es x) t)
      unfolding verdict_by
      moved =
          bridged-broken (start s) refl 0 0 es high x r t ((verdict-broken s es r x t).0 c)
          ∙ ap (λ (i : ℕ). late_or (late_nop s clock before t) before (i + added_before es x - between before t) (broken r (i + added_before es x) t)) (zero-add x)

      -- where it keeps rule 14 it is reported, moved up by the NOPs before it
      pub moved_up : rule14 s (part_before s (start s) es x) t (command_of (event_of es x).pins) ≡ true →
          verdict_of s (bridged es) ≡ broken r (x + added_before es x) t
      moved_up k =
          let asked = asked-awake (part_before s (start s) es x) (awake-before (start s) refl es high x) t (command_of (event_of es x).pins) in
          moved
          ∙ ap (λ (o : Option ℕ). late_or o before first (broken r (x + added_before es x) t)) (in-time-none s clock before t (sym asked ∙ k))

      -- else it is, or one of the NOPs between it and the event before is, by rule 14
      pub moved-or-late : (verdict_of s (bridged es) ≡ broken r (x + added_before es x) t) ⊎
          ((j : ℕ) × (j < between before t) × (verdict_of s (bridged es) ≡ broken 14 (first + j) (nop before j).cycle))
      moved-or-late = go (late_nop s clock before t) refl moved
        where
          go : (o : Option ℕ) → late_nop s clock before t ≡ o →
              verdict_of s (bridged es) ≡ late_or o before first (broken r (x + added_before es x) t) →
              (verdict_of s (bridged es) ≡ broken r (x + added_before es x) t) ⊎
              ((j : ℕ) × (j < between before t) × (verdict_of s (bridged es) ≡ broken 14 (first + j) (nop before j).cycle))
          go none f e = inl e
          go (some j) f e = inr (j, omega (arith, counted-below _ 0 (between before t) j f), e)
