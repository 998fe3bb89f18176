-- Answers as one number: bits 56-63 the refusal, bits 48-55 the broken rule or 1 for an open row, bits 0-31 the place, the event,
-- the count or the row.
use Rattle.std.specs.Prelude.{ℕ, ◌+◌, ◌*◌, ◌/◌, ◌%◌, ◌^◌, cond, List, eqb}
use Rattle.std.proofs.Math.Option.{Option, none, some}
use Rattle.reading.specs.Capture.{event_count, event_bytes, event_at}
use Rattle.reading.specs.Verdict as is
use Rattle.reading.specs.Answers.{Answer, Report, refused, answered}

-- what one number tells
pub data Told : Type 0 where
  -- number and place
  refusal : ℕ → ℕ → Told
  -- events judged, cells written, bytes written
  count : ℕ → Told
  -- the lowest rule and the event; or 1 and the row that is open
  breach : ℕ → ℕ → Told

abbrev pub word : ℕ → ℕ → ℕ → ℕ
word number rule value = 2 ^ 56 * number + 2 ^ 48 * rule + value

abbrev pub packed : Told → ℕ
packed (refusal number place) = word number 0 place
packed (count n) = word 0 0 n
packed (breach rule event) = word 0 rule event

-- ---- what is told of document 01's answers

-- of a broken capture the rule and the event; its events and the cycle stand in the capture
abbrev pub verdict_told : ℕ → is.Verdict → Told
verdict_told judged is.clean = count judged
verdict_told judged (is.broken rule event cycle) = breach rule event

abbrev pub judge_told : Answer Report → Told
judge_told (refused number place) = refusal number place
judge_told (answered r) = verdict_told r.judged r.verdict

abbrev pub count_told : Answer ℕ → Told
count_told (refused number place) = refusal number place
count_told (answered n) = count n

-- a row that is open, or 0 for idle
abbrev pub row_told : Answer (Option ℕ) → Told
row_told (refused number place) = refusal number place
row_told (answered none) = count 0
row_told (answered (some row)) = breach 1 row

-- ---- and back

abbrev pub told : ℕ → ℕ → ℕ → Told
told number rule value = cond (eqb number 0) (cond (eqb rule 0) (count value) (breach rule value)) (refusal number value)

abbrev pub number_in : ℕ → ℕ
number_in w = w / 2 ^ 56

abbrev pub rule_in : ℕ → ℕ
rule_in w = w / 2 ^ 48 % 2 ^ 8

abbrev pub value_in : ℕ → ℕ
value_in w = w % 2 ^ 32

unfoldable pub unpacked : ℕ → Told
unpacked w = told (number_in w) (rule_in w) (value_in w)

-- the judge's whole answer, from what is told and the capture itself
abbrev pub judge_answer_of : List ℕ → Told → Answer Report
judge_answer_of capture (refusal number place) = refused number place
judge_answer_of capture (count n) = answered (record { events = n; judged = n; verdict = is.clean })
judge_answer_of capture (breach rule event) =
    answered
    (record {
      events = event_count capture;
      judged = event;
      verdict = is.broken rule event (event_at (event_bytes capture) event).cycle;
    })

abbrev pub count_answer_of : Told → Answer ℕ
count_answer_of (refusal number place) = refused number place
count_answer_of (count n) = answered n
count_answer_of (breach rule event) = answered 0

abbrev pub row_answer_of : Told → Answer (Option ℕ)
row_answer_of (refusal number place) = refused number place
row_answer_of (count n) = answered none
row_answer_of (breach one row) = answered (some row)
