-- The walk over the events: what holds before event i, and what the verdict is where it stops.
use Prim.Native.Nat.{ℕ, suc, ◌+◌, ◌-◌, ◌≤◌, ◌<◌, zero-le}
use mathlib.Core.Bool.{Bool, true, false, cond, not}
use mathlib.Core.List.{List}
use mathlib.Core.Option.{Option, none, some}
use mathlib.Core.Path.{◌≡◌, refl, sym, ap, ◌∙◌}
use native.Mathlib.Numerals.{add-one}
use native.Mathlib.Omega.{arith}
use lib.Dec.{eqb}
use lib.ListN.{drop}
use borrow.Author.Tests.{eqb-true, eqb-false, eq-eqb, ne_eqb, not-true}
use Rattle.reading.specs.Settings.{Settings, settings_of}
use Rattle.reading.specs.Capture.{Event, event_at}
use Rattle.reading.specs.Commands.{command_of}
use Rattle.reading.specs.Part.{Part, start, step}
use Rattle.reading.specs.Rules.{keeps_rule, rules, broken_by}
use Rattle.reading.specs.Verdict as is
use Rattle.reading.specs.Verdict.{broken, broken_or, judge_from, verdict_of, judged_of, judge_by, verdict_by}
use Rattle.reading.proofs.Found.{found-as-all}
use Rattle.capture.proofs.Accepted.{cycle-fits, cycle-rises}
use Rattle.deadlines.specs.Deadlines.{pace_of}
use Rattle.std.specs.Prelude.{⊤, Result, Ok, Err}
use Rattle.rules.specs.declared.Rule.{Rule}
use Rattle.rules.specs.Rule.{number_of}
use Rattle.part.specs.Means.{means}
use Rattle.steps.specs.Steps.{rule_of, left_by, step_breaks, step_after, pace_after}
use Rattle.bridge.specs.Summary.{Timed, laid, summary}
use Rattle.bridge.proofs.Tests.{num}
use Rattle.bridge.proofs.Next.{Sound}
use Rattle.bridge.proofs.Turn.{Turned, turned-event, start-laid, start-sound}
use Rattle.judge.specs.declared.Verdict.{Verdict}
use Rattle.judge.specs.declared.Verdict.TheVariants.{Clean, Broken}
use Rattle.judge.specs.Meaning.{report_of, Fit, Started, events_in, said, report_on, part_at, judged_part, deadlines_on, pace_on}
use Rattle.judge.proofs.Events.{next_of, none_of, part-next}

-- no rule has the number 0
pub positive : (s : Settings) (p : Part) (e : Event) (r : ℕ) → broken_by s p e ≡ some r → r ≡ 0 → ⊥
positive s p e r q =
    let breaks : ℕ → Bool = λ k. not (keeps_rule k s p e.cycle (command_of e.pins)) in
    eqb-false r 0 (not-true (eqb r 0) (found-as-all breaks (λ k. not (eqb k 0)) rules refl r q))

-- the number that an answer stands for
zero_of : (r : ℕ) → none ≡ rule_of r → r ≡ 0
zero_of r e = go (eqb r 0) refl e
  where
    go : (v : Bool) → eqb r 0 ≡ v → none ≡ cond v none (some r) → r ≡ 0
    go true f k = eqb-true r 0 f
    go false f k = let z : ◌≡◌ {A = ℕ} 0 1 = cc in absurd (omega arith)

record Breaks (k r : ℕ) : Type 0 where
  pub same : k ≡ r
  pub some-rule : r ≡ 0 → ⊥

broken-of : (k r : ℕ) → some k ≡ rule_of r → Breaks k r
broken-of k r e = go (eqb r 0) refl e
  where
    go : (v : Bool) → eqb r 0 ≡ v → some k ≡ cond v none (some r) → Breaks k r
    go true f q = let z : ◌≡◌ {A = ℕ} 0 1 = cc in absurd (omega arith)
    go false f q = record { same = cc; some-rule = eqb-false r 0 f }

-- what an event leaves that keeps, or breaks, a rule
moved : (r : ℕ) → r ≡ 0 → (after before : List ℕ) → left_by r after before ≡ after
moved r z after before = rw (eq-eqb r 0 z)

left : (r : ℕ) → (r ≡ 0 → ⊥) → (after before : List ℕ) → left_by r after before ≡ before
left r z after before = rw (ne_eqb r 0 z)

module _ (settings bytes : List ℕ) (n : ℕ) where
  abbrev s : Settings
  s = settings_of settings

  abbrev es : List Event
  es = events_in bytes n

  -- before event i the deadlines are the summary of a part, from which the rest decides the verdict
  pub record Before (d pace : List ℕ) (i : ℕ) : Type 0 where
    pub reached : Part
    pub after : reached ≡ part_at s bytes i
    pub from : ℕ
    pub sound : Sound from reached
    pub deadlines : d ≡ laid (summary s reached)
    pub paced : pace ≡ pace_of reached.mode
    pub in-range : i ≤ n
    pub above : i < n → from ≤ (event_at bytes i).cycle
    pub decides : verdict_of s es ≡ judge_from s reached i (drop i es)

  pub begins : {d pace : List ℕ} → Started s d pace → Before d pace 0
  unfolding verdict_by
  begins z =
      record {
        reached = start s;
        after = refl;
        from = 0;
        sound = start-sound s;
        deadlines = z.deadlines ∙ start-laid s;
        paced = z.paced;
        in-range = zero-le;
        above = λ l. zero-le;
        decides = refl;
      }

  module _ (fit : Fit settings bytes n) (d pace : List ℕ) (i : ℕ) (b : Before d pace i) (l : i < n) where
    abbrev t : ℕ
    t = (event_at bytes i).cycle

    abbrev w : ℕ
    w = (event_at bytes i).pins

    timed : Timed s t
    timed = record { early = omega (arith, cycle-fits bytes i (fit.events i l)); ticks = fit.ticks }

    turn : Turned s fit.rows b.reached b.from t (b.above l) timed b.sound w (command_of w)
    turn = turned-event s fit.rows b.reached b.from (event_at bytes i).cycle (b.above l) timed b.sound (event_at bytes i).pins

    -- the step's answer is the reading's
    pub breaks-is : step_breaks s d t w ≡ num (broken_by s b.reached (event_at bytes i))
    breaks-is = ap (λ (k : List ℕ). step_breaks s k t w) b.deadlines ∙ turn.breaks

    pub unfolds : verdict_of s es ≡ broken_or (broken_by s b.reached (event_at bytes i)) i t (judge_from s (step s b.reached (event_at bytes i)) (suc i) (drop (suc i) es))
    unfolding judge_by
    unfolds = b.decides ∙ ap (judge_from s b.reached i) (next_of (event_at bytes) n i l)

    -- the next event's place
    pub goes_on : step_breaks s d t w ≡ 0 → Before (step_after s d pace t w) (pace_after pace w) (i + 1)
    goes_on z = go (broken_by s b.reached (event_at bytes i)) refl
      where
        onwards : broken_by s b.reached (event_at bytes i) ≡ none → Before (step_after s d pace t w) (pace_after pace w) (i + 1)
        onwards e =
            let k = turn.onward e in
            record {
              reached = step s b.reached (event_at bytes i);
              after =
                  ap (λ (p : Part). step s p (event_at bytes i)) b.after
                  ∙ sym (part-next s bytes i);
              from = suc t;
              sound = k.sound;
              deadlines = rw (b.deadlines, b.paced) k.leaves;
              paced = rw b.paced k.sets;
              in-range = omega arith;
              above = λ m. let q : i + 1 - 1 ≡ i = omega arith in rw q at (cycle-rises bytes (i + 1) (fit.events (i + 1) m) (omega arith));
              decides =
                  unfolds ∙ ap (λ (o : Option ℕ). broken_or o i t (judge_from s (step s b.reached (event_at bytes i)) (suc i) (drop (suc i) es))) e
                  ∙ ap (λ (k : ℕ). judge_from s (step s b.reached (event_at bytes i)) k (drop k es)) (sym (add-one i));
            }

        go : (o : Option ℕ) → broken_by s b.reached (event_at bytes i) ≡ o → Before (step_after s d pace t w) (pace_after pace w) (i + 1)
        go none e = onwards e
        go (some r) e = absurd (positive s b.reached (event_at bytes i) r e (sym (ap num e) ∙ sym breaks-is ∙ z))

    -- the verdict at a broken rule
    stops : (step_breaks s d t w ≡ 0 → ⊥) → verdict_of s es ≡ broken (step_breaks s d t w) i t
    stops z = go (broken_by s b.reached (event_at bytes i)) refl
      where
        go : (o : Option ℕ) → broken_by s b.reached (event_at bytes i) ≡ o → verdict_of s es ≡ broken (step_breaks s d t w) i t
        go none e = absurd (z (breaks-is ∙ ap num e))
        go (some r) e =
            unfolds ∙ ap (λ (o : Option ℕ). broken_or o i t (judge_from s (step s b.reached (event_at bytes i)) (suc i) (drop (suc i) es))) e
            ∙ sym (ap (λ (k : ℕ). broken k i t) (breaks-is ∙ ap num e))

  -- where the walk ends: what it says, and what it leaves
  abbrev pub Ended : Verdict → List ℕ → List ℕ → Type 0
  Ended v d pace = (report_of v ≡ report_on s bytes n) × ((d ≡ deadlines_on s bytes n) × (pace ≡ pace_on s bytes n))

  ended : {d pace : List ℕ} {i : ℕ} → Before d pace i → (v : is.Verdict) → verdict_of s es ≡ v → judged_of n v ≡ i → (w : Verdict) → report_of w ≡ said n v → Ended w d pace
  unfolding report_on judged_part
  ended {d} {pace} {i} b v e f w g =
      let judged : judged_of n (verdict_of s es) ≡ i = ap (judged_of n) e ∙ f in
      let there : b.reached ≡ part_at s bytes (judged_of n (verdict_of s es)) =
      b.after ∙ ap (part_at s bytes) (sym judged) in (
        g ∙ sym (ap (said n) e),
        (
          b.deadlines ∙ ap (λ (p : Part). laid (summary s p)) there,
          b.paced ∙ ap (λ (p : Part). pace_of p.mode) there,
        ),
      )

  -- no event is left
  pub ends : {d pace : List ℕ} {i : ℕ} → Before d pace i → n ≤ i → Ended (Clean n n) d pace
  unfolding judge_by
  ends {d} {pace} {i} b l =
      ended b is.clean (b.decides ∙ ap (judge_from s b.reached i) (none_of (event_at bytes) n i l)) (omega (arith, b.in-range)) (Clean n n) refl

  -- by what a step answered and left
  module _ (fit : Fit settings bytes n) {d pace : List ℕ} {i cycle pins : ℕ} (b : Before d pace i) (l : i < n)
      (e : cycle ≡ (event_at bytes i).cycle) (f : pins ≡ (event_at bytes i).pins) where
    abbrev rule : ℕ
    rule = step_breaks s d cycle pins

    there : rule ≡ step_breaks s d (event_at bytes i).cycle (event_at bytes i).pins
    there = rw (e, f)

    module _ (a : Result ⊤ Rule) {d' pace' : List ℕ} (told : means a ≡ rule_of rule)
        (g : d' ≡ left_by rule (step_after s d pace cycle pins) d) (h : pace' ≡ left_by rule (pace_after pace pins) pace) where
      pub kept_on : {done : ⊤} → a ≡ Ok done → Before d' pace' (i + 1)
      kept_on k =
          let z : rule ≡ 0 = zero_of rule (sym (ap means k) ∙ told) in
          rw (g ∙ moved rule z _ d, h ∙ moved rule z _ pace, e, f) (goes_on fit d pace i b l (sym there ∙ z))

      pub broke-at : {named : Rule} → a ≡ Err named → Ended (Broken n i named i cycle) d' pace'
      broke-at {named} k =
          let z = broken-of (number_of named) rule (sym (ap means k) ∙ told) in
          let so = stops fit d pace i b l (λ y. z.some-rule (there ∙ y)) in
          let same : broken _ i (event_at bytes i).cycle ≡ broken (number_of named) i cycle =
          λ u. broken ((sym there ∙ sym z.same) u) i (sym e u) in
          rw (g ∙ left rule z.some-rule _ d, h ∙ left rule z.some-rule _ pace)
          (ended b (broken (number_of named) i cycle) (so ∙ same) refl (Broken n i named i cycle) refl)
