-- The refusals of a question, in their order.
use Prim.Native.Nat.{ℕ, ◌≤◌, ◌<◌}
use mathlib.Core.Bool.{Bool, true, false, not, ◌&&◌, and-false, and-eq-true_iff}
use mathlib.Core.Logic.{◌⊎◌, inl, inr}
use mathlib.Core.List.{List}
use mathlib.Core.Option.{Option, none, some}
use mathlib.Core.Path.{◌≡◌, refl, sym, ap, ◌∙◌}
use native.Mathlib.Omega.{arith}
use borrow.Author.Tests.{le-leb, lt-leb, lt-ltb, le-ltb, leb-true, ltb-true, ltb-false}
use lib.Dec.{leb, ltb}
use lib.ListN.{length}
use Rattle.reading.specs.Search.{given}
use Rattle.reading.specs.Capture.{most_events, event_count}
use Rattle.reading.specs.Verdict.{Verdict, clean, broken}
use Rattle.reading.specs.Answers.{Answer, refused, answered, unless, accepted, Report, verdict_in, judge_answer, judge_answer_to, not_clean}
use Rattle.reading.specs.Openings.{Record}
use Rattle.reading.specs.OpenRow.{index_in, row_in, question_fits, open_row_answer, over}
use Rattle.capture.proofs.Outcome.{follow}
use Rattle.capture.proofs.Accepted.{followed}
use Rattle.banks.specs.Banks.{told_of}
use Rattle.asking.specs.Asked.{clean_said, question_said}

-- ---- 1 to 4 and 8, by the judge's answer

abbrev pub clean_by : Answer Report → Answer (Unit {0})
clean_by (refused number place) = refused number place
clean_by (answered r) = unless 8 (not_clean r.verdict) (answered tt)

module _ (capture : List ℕ) where
  pub by-judge : clean_by (judge_answer capture) ≡ clean_said capture
  unfolding judge_answer_to clean_said
  by-judge = ap clean_by (followed most_events capture _) ∙ (go (accepted capture (answered tt)) _ ∙ sym (followed most_events capture _))
    where
      go : (a : Answer (Unit {0})) (r : Report) → clean_by (follow a (answered r)) ≡ follow a (unless 8 (not_clean r.verdict) (answered tt))
      go (refused number place) r = refl
      go (answered u) r = refl

  -- ---- none of them: accepted and clean

  accepted-then : (a : Answer (Unit {0})) (o : Option ℕ) → follow a (unless 8 o (answered (tt {0}))) ≡ answered tt → (a ≡ answered tt) × (o ≡ none)
  accepted-then (refused number place) o e = let z : ◌≡◌ {A = ℕ} 0 1 = cc in absurd (omega arith)
  accepted-then (answered tt) none e = (refl, refl)
  accepted-then (answered tt) (some place) e = let z : ◌≡◌ {A = ℕ} 0 1 = cc in absurd (omega arith)

  none-unclean : (v : Verdict) → not_clean v ≡ none → v ≡ clean
  none-unclean clean e = refl
  none-unclean (broken r i t) e = let z : ◌≡◌ {A = ℕ} 0 1 = cc in absurd (omega arith)

  pub clean-so : clean_said capture ≡ answered tt → (accepted capture (answered (tt {0})) ≡ answered tt) × (verdict_in capture ≡ clean)
  unfolding clean_said
  clean-so e =
      let both = accepted-then (accepted capture (answered tt)) (not_clean (verdict_in capture)) (sym (followed most_events capture _) ∙ e) in
      (both.0, none-unclean (verdict_in capture) both.1)

-- ---- 13, and 7 for the records

module _ (n bank event records : ℕ) where
  bad : {y : Bool} → (leb bank 3 && ltb event n) ≡ y → question_said n bank event records ≡ unless 13 (given 0 (not y)) (unless 7 (given 4 (ltb records 4)) (answered tt))
  unfolding question_said
  bad e = ap (λ (y : Bool). unless 13 (given 0 (not y)) (unless 7 (given 4 (ltb records 4)) (answered tt))) e

  pub bad-question : (3 < bank) ⊎ (n ≤ event) → refused 13 0 ≡ question_said n bank event records
  bad-question (inl l) = sym (bad {y = false} (rw (lt-leb bank 3 l)))
  bad-question (inr m) = sym (bad {y = false} (rw (le-ltb event n m, and-false (leb bank 3))))

  module _ (l : bank ≤ 3) (m : event < n) where
    good : question_said n bank event records ≡ unless 7 (given 4 (ltb records 4)) (answered tt)
    good = bad {y = true} (rw (le-leb bank 3 l, lt-ltb event n m))

    pub bad-records : records < 4 → refused 7 4 ≡ question_said n bank event records
    bad-records k = sym (good ∙ ap (λ (z : Bool). unless 7 (given 4 z) (answered (tt {0}))) (lt-ltb records 4 k))

    pub good-question : 4 ≤ records → answered tt ≡ question_said n bank event records
    good-question k = sym (good ∙ ap (λ (z : Bool). unless 7 (given 4 z) (answered (tt {0}))) (le-ltb records 4 k))

  asked-within : (y z : Bool) → unless 13 (given 0 (not y)) (unless 7 (given 4 z) (answered (tt {0}))) ≡ answered tt → (y ≡ true) × (z ≡ false)
  asked-within true false e = (refl, refl)
  asked-within true true e = let z : ◌≡◌ {A = ℕ} 0 1 = cc in absurd (omega arith)
  asked-within false z e = let z : ◌≡◌ {A = ℕ} 0 1 = cc in absurd (omega arith)

  pub fits-so : question_said n bank event records ≡ answered tt → (bank ≤ 3) × (event < n) × (4 ≤ records)
  unfolding question_said
  fits-so e =
      let parts = asked-within (leb bank 3 && ltb event n) (ltb records 4) e in
      let both = (and-eq-true_iff (leb bank 3) (ltb event n)).0 parts.0 in
      (leb-true bank 3 both.0, ltb-true event n both.1, ltb-false records 4 parts.1)

-- ---- all of them

module _ (capture : List ℕ) (bank event records words : ℕ) where
  abbrev needed : ℕ
  needed = length (index_in capture)

  -- the answer, if the index is long enough
  abbrev rest : Answer (Option ℕ)
  rest = unless 7 (given needed (ltb words needed)) (answered (row_in capture bank event))

  abbrev asked : Answer (Unit {0})
  asked = question_said (event_count capture) bank event records

  in_parts : open_row_answer capture bank event records words ≡ follow (clean_said capture) (follow asked rest)
  unfolding open_row_answer clean_said question_said
  in_parts =
      followed most_events capture _
      ∙ (go (accepted capture (answered tt)) (not_clean (verdict_in capture)) (given 0 (not (question_fits capture bank event))) (given 4 (ltb records 4)) rest
      ∙ ap (λ (a : Answer (Unit {0})). follow a (follow asked rest)) (sym (followed most_events capture _)))
    where
      go : (a : Answer (Unit {0})) (x y z : Option ℕ) (last : Answer (Option ℕ)) → follow a (unless 8 x (unless 13 y (unless 7 z last))) ≡
          follow (follow a (unless 8 x (answered tt))) (follow (unless 13 y (unless 7 z (answered tt))) last)
      go (refused number place) x y z last = refl
      go (answered u) (some p) y z last = refl
      go (answered u) none (some p) z last = refl
      go (answered u) none none (some p) last = refl
      go (answered u) none none none last = refl

  pub unclean : {number place : ℕ} → clean_said capture ≡ refused number place → open_row_answer capture bank event records words ≡ refused number place
  unclean e = in_parts ∙ ap (λ (a : Answer (Unit {0})). follow a (follow asked rest)) e

  module _ (e : clean_said capture ≡ answered tt) where
    pub unfit : {number place : ℕ} → question_said (event_count capture) bank event records ≡ refused number place →
        open_row_answer capture bank event records words ≡ refused number place
    unfit f = in_parts ∙ (ap (λ (a : Answer (Unit {0})). follow a (follow asked rest)) e ∙ ap (λ (a : Answer (Unit {0})). follow a rest) f)

    module _ (f : question_said (event_count capture) bank event records ≡ answered tt) where
      rest-so : open_row_answer capture bank event records words ≡ rest
      rest-so = in_parts ∙ (ap (λ (a : Answer (Unit {0})). follow a (follow asked rest)) e ∙ ap (λ (a : Answer (Unit {0})). follow a rest) f)

      pub short : words < needed → open_row_answer capture bank event records words ≡ refused 7 needed
      short l = rest-so ∙ ap (λ (y : Bool). unless 7 (given needed y) (answered (row_in capture bank event))) (lt-ltb words needed l)

      pub enough : needed ≤ words → open_row_answer capture bank event records words ≡ answered (row_in capture bank event)
      enough l = rest-so ∙ ap (λ (y : Bool). unless 7 (given needed y) (answered (row_in capture bank event))) (le-ltb words needed l)

-- ---- a refusal as it is told

pub refused-told : {number place : ℕ} {a : Answer (Option ℕ)} (records : List Record) (new index : List ℕ) → a ≡ refused number place →
    (refused number place ≡ told_of a records) × (index ≡ over a new index)
refused-told records new index e =
    (ap (λ (b : Answer (Option ℕ)). told_of b records) (sym e), ap (λ (b : Answer (Option ℕ)). over b new index) (sym e))
