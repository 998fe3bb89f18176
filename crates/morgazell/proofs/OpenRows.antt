-- From what was told of a bank to the reading's outcome.
use Prim.Native.Nat.{ℕ, ◌≤◌}
use mathlib.Core.Bool.{Bool, true, false, not}
use mathlib.Core.List.{List, map}
use mathlib.Core.Option.{Option, none, some}
use mathlib.Core.Path.{◌≡◌, refl, sym, ap, ◌∙◌}
use native.Mathlib.Omega.{arith}
use borrow.Author.Tests.{ltb-false}
use lib.Dec.{ltb}
use lib.ListN.{length, length-map}
use Rattle.reading.specs.Search.{given, lesser}
use Rattle.reading.specs.Capture.{most_events}
use Rattle.reading.specs.Answers.{Answer, refused, answered, unless, accepted, verdict_in, not_clean}
use Rattle.reading.specs.Openings.{Record, records_of}
use Rattle.reading.specs.OpenRow.{RowOutcome, index_in, records_in, row_in, question_fits, open_row_answer, open_row_outcome, over}
use Rattle.capture.proofs.Outcome.{follow}
use Rattle.capture.proofs.Accepted.{followed}
use Rattle.banks.specs.declared.Bank.{Bank}
use Rattle.banks.specs.declared.Told.{Told}
use Rattle.std.specs.Prelude.{Result, Ok, Err}
use Rattle.refusal.specs.declared.Refusal.{Refusal}
use Rattle.refusal.specs.Refusal.{told}
use Rattle.banks.specs.Banks.{means, bank_of, record_of, found, told_of, filled_from}
use Rattle.banks.proofs.Filling.{all-filled}
use Rattle.morgazell.specs.Packing.{packed, row_told}

-- what was told means the answer
row_of : Answer (Option ℕ × List Record) → Answer (Option ℕ)
row_of (refused number place) = refused number place
row_of (answered x) = answered x.0

told-means : (r : Result Told Refusal) (a : Answer (Option ℕ)) (records : List Record) → told found r ≡ told_of a records → means r ≡ a
unfolding row_of
told-means r a records e = of-result r ∙ ap row_of e ∙ of-answer a
  where
    of-result : (r : Result Told Refusal) → means r ≡ row_of (told found r)
    of-result (Ok t) = refl
    of-result (Err why) = refl

    of-answer : (a : Answer (Option ℕ)) → row_of (told_of a records) ≡ a
    of-answer (refused number place) = refl
    of-answer (answered row) = refl

-- an answer is given where there are four records
pub four-lent : (capture : List ℕ) (bank event records words : ℕ) (row : Option ℕ) → open_row_answer capture bank event records words ≡ answered row →
    4 ≤ records
unfolding open_row_answer
four-lent capture bank event records words row e =
    ltb-false records 4
    (go (accepted capture (answered tt)) (not_clean (verdict_in capture)) (given 0 (not (question_fits capture bank event))) (ltb records 4)
    (unless 7 (given (length (index_in capture)) (ltb words (length (index_in capture)))) (answered (row_in capture bank event)))
    (sym (followed most_events capture _) ∙ e))
  where
    go : (a : Answer (Unit {0})) (x y : Option ℕ) (v : Bool) (rest : Answer (Option ℕ)) →
        follow a (unless 8 x (unless 13 y (unless 7 (given 4 v) rest))) ≡ answered row → v ≡ false
    go (refused number place) x y v rest f = let z : ◌≡◌ {A = ℕ} 0 1 = cc in absurd (omega arith)
    go (answered u) (some p) y v rest f = let z : ◌≡◌ {A = ℕ} 0 1 = cc in absurd (omega arith)
    go (answered u) none (some p) v rest f = let z : ◌≡◌ {A = ℕ} 0 1 = cc in absurd (omega arith)
    go (answered u) none none true rest f = let z : ◌≡◌ {A = ℕ} 0 1 = cc in absurd (omega arith)
    go (answered u) none none false rest f = refl

module _ (capture : List ℕ) (bank event : ℕ) (records : List Bank) (index : List ℕ) where
  -- the answer, and the outcome
  abbrev pub said : Answer (Option ℕ)
  said = open_row_answer capture bank event (length records) (length index)

  abbrev pub outcome : RowOutcome
  outcome = open_row_outcome capture bank event (map record_of records) index

  same : open_row_answer capture bank event (length (map record_of records)) (length index) ≡ said
  same = ap (λ (n : ℕ). open_row_answer capture bank event n (length index)) (length-map records record_of)

  four-records : length (records_in capture) ≡ 4
  unfolding records_in records_of
  four-records = refl

  module _ (r : Result Told Refusal) (e : told found r ≡ told_of said (records_in capture)) where
    pub answer-so : {k : ℕ} → k ≡ packed (row_told (means r)) → k ≡ packed (row_told outcome.answer)
    unfolding open_row_outcome
    answer-so f = f ∙ ap (λ (a : Answer (Option ℕ)). packed (row_told a)) (told-means r said (records_in capture) e ∙ sym same)

    pub records-so : {left : List Bank} → left ≡ filled_from r records 0 (lesser (length records) 4) → left ≡ map bank_of outcome.records
    unfolding open_row_outcome
    records-so f =
        f
        ∙ all-filled r said (records_in capture) records e four-records (four-lent capture bank event (length records) (length index))
        ∙ ap (λ (a : Answer (Option ℕ)). map bank_of (over a (records_in capture) (map record_of records))) (sym same)

  pub index-so : {left : List ℕ} → left ≡ over said (index_in capture) index → left ≡ outcome.index
  unfolding open_row_outcome
  index-so f = f ∙ ap (λ (a : Answer (Option ℕ)). over a (index_in capture) index) (sym same)
