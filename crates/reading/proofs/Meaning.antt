-- What a verdict means.
use Prim.Native.Nat.{ℕ, zero, suc, ◌+◌, ◌<◌}
use mathlib.Core.Bool.{Bool, true, false, not}
use mathlib.Core.List.{List, [], ◌∷◌, Memᴰ}
use mathlib.Core.Logic.{◌↔◌}
use mathlib.Core.Option.{Option, none, some}
use mathlib.Core.Path.{◌≡◌, refl, ap}
use lib.ListN.{length, take, get_or}
use borrow.Author.Tests.{not-true, not-false}
use native.Mathlib.Nat.{zero-add, add-zero, add-suc, suc-add}
use native.Mathlib.Omega.{arith}
use Rattle.reading.specs.Settings.{Settings}
use Rattle.reading.specs.Capture.{Event}
use Rattle.reading.specs.Commands.{Command, command_of}
use Rattle.reading.specs.Part.{Part, start, step, run}
use Rattle.reading.specs.Rules.{keeps_rule, rules, lowest_broken, broken_by}
use Rattle.reading.specs.Verdict.{clean, broken, broken_or, judge_from, verdict_of, judged_of, judge_by, verdict_by}
use Rattle.reading.proofs.Found.{Rising, find_none, none-find, find-some, find-lowest, lowest-find}

-- ---- one event: the rules by their numbers

-- of some rules, none of which a command breaks, it keeps each
pub each-kept : (rs : List ℕ) (s : Settings) (p : Part) (t : ℕ) (c : Command) → lowest_broken rs s p t c ≡ none →
    (r : ℕ) → Memᴰ r rs → keeps_rule r s p t c ≡ true
each-kept rs s p t c e r m = not-false (keeps_rule r s p t c) (find_none (λ q. not (keeps_rule q s p t c)) rs e r m)

-- an event breaks no rule
abbrev pub Keeps : Settings → Part → Event → Type 0
Keeps s p e = (r : ℕ) → Memᴰ r rules → keeps_rule r s p e.cycle (command_of e.pins) ≡ true

-- it breaks r, and no lower rule
pub record Breaks (s : Settings) (p : Part) (e : Event) (r : ℕ) : Type 0 where
  pub rule : Memᴰ r rules
  pub breaks : keeps_rule r s p e.cycle (command_of e.pins) ≡ false
  pub lowest : (q : ℕ) → Memᴰ q rules → q < r → keeps_rule q s p e.cycle (command_of e.pins) ≡ true

rules-rise : Rising 1 rules
rules-rise = omega arith

module _ (s : Settings) (p : Part) (e : Event) where
  bad : ℕ → Bool
  bad r = not (keeps_rule r s p e.cycle (command_of e.pins))

  pub none-broken : broken_by s p e ≡ none ↔ Keeps s p e
  unfolding bad
  none-broken = (
    each-kept rules s p e.cycle (command_of e.pins),
    λ k. none-find bad rules (λ r m. ap not (k r m)),
  )

  pub lowest-broken : (r : ℕ) → broken_by s p e ≡ some r ↔ Breaks s p e r
  unfolding bad
  lowest-broken r = (
    λ h.
        record {
          rule = (find-some bad rules r h).member;
          breaks = not-true (keeps_rule r s p e.cycle (command_of e.pins)) (find-some bad rules r h).holds;
          lowest = λ q m l. not-false (keeps_rule q s p e.cycle (command_of e.pins)) (find-lowest bad 1 rules rules-rise r h q m l);
        },
    λ b. lowest-find bad 1 rules rules-rise r b.rule (ap not b.breaks) (λ q m l. ap not (b.lowest q m l)),
  )

-- ---- a list of events

-- event i of the list, and the part after the events before it
abbrev nothing : Event
nothing = record { cycle = 0; pins = 0 }

abbrev pub event_of : List Event → ℕ → Event
event_of es i = get_or es i nothing

abbrev pub part_before : Settings → Part → List Event → ℕ → Part
part_before s p es i = run s p (take i es)

-- the first n events break no rule, each after those before it
abbrev pub Unbroken : Settings → Part → List Event → ℕ → Type 0
Unbroken s p es n = (i : ℕ) → i < n → Keeps s (part_before s p es i) (event_of es i)

-- event i is the first to break a rule, and r the lowest that it breaks
pub record BrokenAt (s : Settings) (p : Part) (es : List Event) (i r t : ℕ) : Type 0 where
  pub there : i < length es
  pub before : Unbroken s p es i
  pub breaks : Breaks s (part_before s p es i) (event_of es i) r
  pub cycle : (event_of es i).cycle ≡ t

module _ (s : Settings) where
  more : (p : Part) (e : Event) (es : List Event) (n : ℕ) → Keeps s p e → Unbroken s (step s p e) es n → Unbroken s p (e ∷ es) (suc n)
  more p e es n h f zero l = h
  more p e es n h f (suc i) l = f i (omega arith)

  less : (p : Part) (e : Event) (es : List Event) (n : ℕ) → Unbroken s p (e ∷ es) (suc n) → Unbroken s (step s p e) es n
  less p e es n f i l = f (suc i) (omega arith)

  clean-means : (p : Part) (j : ℕ) (es : List Event) → judge_from s p j es ≡ clean → Unbroken s p es (length es)
  unfolding judge_by
  clean-means p j [] h = λ i l. absurd (omega arith)
  clean-means p j (e ∷ es) h = go (broken_by s p e) refl h (clean-means (step s p e) (suc j) es)
    where
      go : (o : Option ℕ) → broken_by s p e ≡ o → broken_or o j e.cycle (judge_from s (step s p e) (suc j) es) ≡ clean →
          (judge_from s (step s p e) (suc j) es ≡ clean → Unbroken s (step s p e) es (length es)) →
          Unbroken s p (e ∷ es) (suc (length es))
      go none q v ih = more p e es (length es) ((none-broken s p e).0 q) (ih v)
      go (some r) q v ih = let z : ◌≡◌ {A = ℕ} 0 1 = cc in absurd (omega arith)

  means-clean : (p : Part) (j : ℕ) (es : List Event) → Unbroken s p es (length es) → judge_from s p j es ≡ clean
  unfolding judge_by
  means-clean p j [] f = refl
  means-clean p j (e ∷ es) f =
      rw ((none-broken s p e).1 (f 0 (omega arith))) (means-clean (step s p e) (suc j) es (less p e es (length es) f))

  broken-means : (p : Part) (j : ℕ) (es : List Event) (r i t : ℕ) → judge_from s p j es ≡ broken r i t →
      (k : ℕ) × (i ≡ j + k) × BrokenAt s p es k r t
  unfolding judge_by
  broken-means p j [] r i t h = let z : ◌≡◌ {A = ℕ} 0 1 = cc in absurd (omega arith)
  broken-means p j (e ∷ es) r i t h = go (broken_by s p e) refl h (broken-means (step s p e) (suc j) es r i t)
    where
      q : Part
      q = step s p e

      go : (o : Option ℕ) → broken_by s p e ≡ o → broken_or o j e.cycle (judge_from s q (suc j) es) ≡ broken r i t →
          (judge_from s q (suc j) es ≡ broken r i t → (k : ℕ) × (i ≡ suc j + k) × BrokenAt s q es k r t) →
          (k : ℕ) × (i ≡ j + k) × BrokenAt s p (e ∷ es) k r t
      go none w v ih =
          let (k, l, b) = ih v in (
            suc k,
            omega arith,
            record {
              there = omega (arith, b.there);
              before = more p e es k ((none-broken s p e).0 w) b.before;
              breaks = b.breaks;
              cycle = b.cycle;
            },
          )
      go (some x) w v ih =
          let a : x ≡ r = cc in
          let b : j ≡ i = cc in
          let c : e.cycle ≡ t = cc in (
            zero,
            omega arith,
            record {
              there = omega arith;
              before = λ n l. absurd (omega arith);
              breaks = (lowest-broken s p e r).0 (rw (← a) w);
              cycle = c;
            },
          )

  means-broken : (p : Part) (j : ℕ) (es : List Event) (r k t : ℕ) → BrokenAt s p es k r t → judge_from s p j es ≡ broken r (j + k) t
  unfolding judge_by
  means-broken p j [] r k t b = absurd (omega (arith, b.there))
  means-broken p j (e ∷ es) r zero t b = rw ((lowest-broken s p e r).1 b.breaks, add-zero j, b.cycle)
  means-broken p j (e ∷ es) r (suc k) t b =
      rw ((none-broken s p e).1 (b.before 0 (omega arith)), add-suc j k, ← suc-add j k)
      (means-broken (step s p e) (suc j) es r k t
      (record {
        there = omega (arith, b.there);
        before = less p e es k b.before;
        breaks = b.breaks;
        cycle = b.cycle;
      }))

  -- clean exactly when every event, after the events before it, breaks no rule
  pub verdict-clean : (es : List Event) → verdict_of s es ≡ clean ↔ Unbroken s (start s) es (length es)
  unfolding verdict_by
  verdict-clean es = (clean-means (start s) 0 es, means-clean (start s) 0 es)

  -- broken exactly when event i is the first to break a rule, and r the lowest that it breaks
  pub verdict-broken : (es : List Event) (r i t : ℕ) → verdict_of s es ≡ broken r i t ↔ BrokenAt s (start s) es i r t
  unfolding verdict_by
  verdict-broken es r i t = (
    λ h. let (k, e, b) = broken-means (start s) 0 es r i t h in rw (e, zero-add k) b,
    λ b. rw (zero-add i) at (means-broken (start s) 0 es r i t b),
  )

  -- judged is N, or the number of events before the broken one, which are fewer
  pub judged-clean : (es : List Event) → verdict_of s es ≡ clean → judged_of (length es) (verdict_of s es) ≡ length es
  judged-clean es h = ap (judged_of (length es)) h

  pub judged-broken : (es : List Event) (r i t : ℕ) → verdict_of s es ≡ broken r i t →
      (judged_of (length es) (verdict_of s es) ≡ i) × (i < length es)
  judged-broken es r i t h = (ap (judged_of (length es)) h, ((verdict-broken es r i t).0 h).there)
