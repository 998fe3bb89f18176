-- The call that asks which row was open: refusals, the answer, what it leaves in the lent records and in the lent index; and
-- the index alone, asked.
use Rattle.std.specs.Prelude.{ℕ, ◌+◌, ◌*◌, Bool, not, ◌&&◌, List, ◌++◌, length, drop, get_or, leb, ltb}
use Rattle.std.proofs.Math.Option.{Option, none, some}
use Rattle.reading.specs.Search.{count, find, given}
use Rattle.reading.specs.Capture.{event_count, events_of}
use Rattle.reading.specs.Answers.{Answer, refused, answered, unless, accepted, settings_in, verdict_in, not_clean}
use Rattle.reading.specs.Openings.{Opening, Record, row_after, openings_of, index_of, records_of}

-- of a capture
unfoldable pub openings_in : List ℕ → ℕ → List Opening
openings_in capture b = openings_of (settings_in capture) (events_of capture) b

unfoldable pub index_in : List ℕ → List ℕ
index_in capture = index_of (settings_in capture) (events_of capture)

unfoldable pub records_in : List ℕ → List Record
records_in capture = records_of (settings_in capture) (events_of capture)

unfoldable pub row_in : List ℕ → ℕ → ℕ → Option ℕ
row_in capture bank event = row_after (settings_in capture) (events_of capture) bank event

-- bank 0 to 3, and an event below N
abbrev pub question_fits : List ℕ → ℕ → ℕ → Bool
question_fits capture bank event = leb bank 3 && ltb event (event_count capture)

-- the row, or idle; where so many records and so many words of an index are lent
unfoldable pub open_row_answer : List ℕ → ℕ → ℕ → ℕ → ℕ → Answer (Option ℕ)
open_row_answer capture bank event records index =
    accepted capture
    (unless 8 (not_clean (verdict_in capture))
    (unless 13 (given 0 (not (question_fits capture bank event)))
    (unless 7 (given 4 (ltb records 4))
    (unless 7 (given (length (index_in capture)) (ltb index (length (index_in capture))))
    (answered (row_in capture bank event))))))

-- a refused call leaves a buffer as it was; else what lies behind what was written stays
abbrev pub over : {A B : Type 0} → Answer A → List B → List B → List B
over (refused number place) new old = old
over (answered a) new old = new ++ drop (length new) old

pub record RowOutcome : Type 0 where
  pub answer : Answer (Option ℕ)
  pub records : List Record
  pub index : List ℕ

unfoldable pub open_row_outcome : List ℕ → ℕ → ℕ → List Record → List ℕ → RowOutcome
open_row_outcome capture bank event records index =
    let answer = open_row_answer capture bank event (length records) (length index) in
    record {
      answer = answer;
      records = over answer (records_in capture) records;
      index = over answer (index_in capture) index;
    }

-- ---- the index alone, asked: opening k of it, and the one among a bank's own in which the event lies

abbrev pub opening_at : List ℕ → ℕ → Opening
opening_at index k = record { row = get_or index (3 * k) 0; first = get_or index (3 * k + 1) 0; last = get_or index (3 * k + 2) 0 }

abbrev pub holds : List ℕ → ℕ → ℕ → Bool
holds index event k = leb (opening_at index k).first event && leb event (opening_at index k).last

abbrev pub row_found : List ℕ → Option ℕ → Option ℕ
row_found index none = none
row_found index (some k) = some (opening_at index k).row

unfoldable pub looked_up : Record → List ℕ → ℕ → Option ℕ
looked_up r index event = row_found index (find (holds index event) (count r.before r.count))
