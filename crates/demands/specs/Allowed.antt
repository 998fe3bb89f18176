-- What the contracts of the public functions allow: a result and, where a buffer is lent, its contents afterwards.
use Rattle.std.specs.Prelude.{ℕ, List, map, ◌≡◌, Result}
use Rattle.reading.specs.Capture.{most_events, most_recorded}
use Rattle.reading.specs.Verdict.{clean, broken}
use Rattle.reading.specs.Answers.{Answer, Report, refused, answered, judge_answer_to, cells_outcome, schedule_outcome}
use Rattle.reading.specs.Blank.{blank_outcome}
use Rattle.reading.specs.OpenRow.{open_row_outcome}
use Rattle.reading.specs.Player.{PlayOutcome, play_outcome}
use Rattle.capture.specs.Calls.{Meets}
use Rattle.refusal.specs.declared.Refusal.{Refusal}
use Rattle.refusal.specs.Refusal.{told}
use Rattle.judge.specs.declared.Verdict.{Verdict}
use Rattle.judge.specs.Meaning.{report_of}
use Rattle.reading.specs.Export.{read_outcome, write_outcome}
use Rattle.banks.specs.declared.Bank.{Bank}
use Rattle.banks.specs.Banks.{bank_of, record_of}
use Rattle.reading.specs.Month.{line_of}
use Rattle.monthly.specs.declared.Line.{Line}
use Rattle.monthly.specs.declared.Totals.{Totals}
use Rattle.monthly.specs.Meaning.{line_means, totals_mean, added}
use Rattle.morgazell.specs.Packing.{packed, row_told}

-- what the judge answers, and a call that says how many elements it wrote
abbrev pub Judged : Type 0
Judged = Result Verdict Refusal

abbrev pub Counted : Type 0
Counted = Result ℕ Refusal

abbrev pub says : Judged → Answer Report
says r = told report_of r

abbrev pub counts : Counted → Answer ℕ
counts r = told (λ n. n) r

-- clean, or broken: so many events, so many of them judged
abbrev pub tells_clean : ℕ → ℕ → Answer Report
tells_clean events judged = answered (record { events = events; judged = judged; verdict = clean })

abbrev pub tells_broken : ℕ → ℕ → ℕ → ℕ → ℕ → Answer Report
tells_broken events judged rule event cycle =
    answered (record { events = events; judged = judged; verdict = broken rule event cycle })

-- a call is refused with this number and this place
abbrev pub Refuses : Counted → ℕ → ℕ → Type 0
Refuses r number place = counts r ≡ refused number place

-- by `judge::judge_to`, where there may be so many events
abbrev pub JudgesTo : ℕ → List ℕ → Judged → Type 0
JudgesTo most capture r = says r ≡ judge_answer_to most capture

-- by `judge::judge`, of a capture
abbrev pub Judges : List ℕ → Judged → Type 0
Judges = JudgesTo most_events

-- of a recording
abbrev pub Records : List ℕ → Judged → Type 0
Records = JudgesTo most_recorded

-- by `cells::burst_cells`, lent `out`, which holds `left` afterwards
abbrev pub Lists : List ℕ → List ℕ → Counted → List ℕ → Type 0
Lists capture out r left = Meets (counts r) left (cells_outcome capture out)

-- by `schedule::schedule`, lent `out`, which holds `left` afterwards
abbrev pub Schedules : List ℕ → List ℕ → ℕ → List ℕ → Counted → List ℕ → Type 0
Schedules ws qs policy out r left = Meets (counts r) left (schedule_outcome ws qs policy out)

-- by `hidden::blank`, lent `out`, which holds `left` afterwards
abbrev pub Blanks : List ℕ → List ℕ → Counted → List ℕ → Type 0
Blanks capture out r left = Meets (counts r) left (blank_outcome capture out)

-- by `exports::read`, lent `out`, which holds `left` afterwards
abbrev pub ReadsExport : List ℕ → List ℕ → ℕ → List ℕ → Counted → List ℕ → Type 0
ReadsExport x ws edition out r left = Meets (counts r) left (read_outcome x ws edition out)

-- by `exports::write`, lent `out`, which holds `left` afterwards
abbrev pub WritesExport : List ℕ → List ℕ → Counted → List ℕ → Type 0
WritesExport capture out r left = Meets (counts r) left (write_outcome capture out)

-- by `morgazell::morgazell_open_row`, lent records and an index, which hold `left` and `words` afterwards
abbrev pub Tells : List ℕ → ℕ → ℕ → List Bank → List ℕ → ℕ → List Bank → List ℕ → Type 0
Tells capture bank event records index r left words =
    (r ≡ packed (row_told (open_row_outcome capture bank event (map record_of records) index).answer))
    × (left ≡ map bank_of (open_row_outcome capture bank event (map record_of records) index).records)
    × (words ≡ (open_row_outcome capture bank event (map record_of records) index).index)

-- by `monthly::told`, of bytes as a capture
abbrev pub TellsLine : List ℕ → Line → Type 0
TellsLine capture r = line_means r ≡ line_of capture

-- by `monthly::add`
abbrev pub AddsUp : Totals → Line → Totals → Type 0
AddsUp t x r = totals_mean r ≡ added (totals_mean t) (line_means x)

-- by `player::play`, lent a window and words to read to, which hold `left` and `words` afterwards
abbrev pub Ends : Counted → List ℕ → List ℕ → PlayOutcome → Type 0
Ends r left words o = (counts r ≡ o.answer) × ((left ≡ o.window) × (words ≡ o.reads))

abbrev pub Plays : List ℕ → ℕ → List ℕ → List ℕ → List ℕ → Counted → List ℕ → List ℕ → Type 0
Plays capture first window writes reads r left words = Ends r left words (play_outcome capture first window writes reads)

-- by every call that is asked about a capture: it is refused so, and what was lent is left as it was
pub record RefusedByAll (capture : List ℕ) (number place : ℕ) : Type 0 where
  pub judge : (r : Judged) → Judges capture r → says r ≡ refused number place
  pub list : (out : List ℕ) (r : Counted) (left : List ℕ) → Lists capture out r left → Refuses r number place × (left ≡ out)
  pub export : (out : List ℕ) (r : Counted) (left : List ℕ) → WritesExport capture out r left → Refuses r number place × (left ≡ out)
  pub blank : (out : List ℕ) (r : Counted) (left : List ℕ) → Blanks capture out r left → Refuses r number place × (left ≡ out)
  pub play : (first : ℕ) (window writes reads : List ℕ) (r : Counted) (left words : List ℕ) → Plays capture first window writes reads r left words →
      Refuses r number place × ((left ≡ window) × (words ≡ reads))
