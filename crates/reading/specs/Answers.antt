-- What each call answers: the table of refusals in its order, and else the result; and what it leaves in a lent buffer.
use Rattle.std.specs.Prelude.{ℕ, not, List, ◌++◌, length, drop, ltb, eqb}
use Rattle.std.proofs.Math.Option.{Option, none, some}
use Rattle.reading.specs.Search.{given}
use Rattle.reading.specs.Settings.{Settings, settings_count, settings_of, in_edition, bad_setting}
use Rattle.reading.specs.Capture.{Event, event_count, edition_in, setting_words, event_bytes, events_of, most_events, most_recorded, length_fits_to, header_fits_to, pin_limit, bad_event}
use Rattle.reading.specs.Verdict.{Verdict, clean, broken, verdict_of, judged_of}
use Rattle.reading.specs.Cells.{bursts_of, cells_of}
use Rattle.reading.specs.Schedule.{Schedule, planned, late, policy_fits, bad_request, schedule_of, capture_of}

pub data Answer (A : Type 0) : Type 0 where
  -- number and place
  refused : ℕ → ℕ → Answer A
  answered : A → Answer A

-- "tried in this order; the first that applies is given, and in no other case"
abbrev pub unless : {A : Type 0} → ℕ → Option ℕ → Answer A → Answer A
unless number none rest = rest
unless number (some place) rest = refused number place

-- ---- the capture, whose settings and events every call on one reads; its edition counts with its settings

abbrev pub settings_in : List ℕ → Settings
settings_in capture = in_edition (edition_in capture) (settings_of (setting_words capture))

-- where there may be so many events
unfoldable pub accepted_to : {A : Type 0} → ℕ → List ℕ → Answer A → Answer A
accepted_to most capture rest =
    unless 1 (given 0 (not (length_fits_to most capture)))
    (unless 2 (given 0 (not (header_fits_to most capture)))
    (unless 3 (bad_setting (setting_words capture))
    (unless 4 (bad_event (pin_limit capture) (event_bytes capture) (event_count capture)) rest)))

abbrev pub accepted : {A : Type 0} → List ℕ → Answer A → Answer A
accepted capture rest = accepted_to most_events capture rest

-- ---- judging

pub record Report : Type 0 where
  pub events : ℕ
  pub judged : ℕ
  pub verdict : Verdict

unfoldable pub verdict_in : List ℕ → Verdict
verdict_in capture = verdict_of (settings_in capture) (events_of capture)

unfoldable pub judge_answer_to : ℕ → List ℕ → Answer Report
judge_answer_to most capture =
    accepted_to most capture
    (answered
    (record {
      events = event_count capture;
      judged = judged_of (event_count capture) (verdict_in capture);
      verdict = verdict_in capture;
    }))

abbrev pub judge_answer : List ℕ → Answer Report
judge_answer = judge_answer_to most_events

-- of a recording: the same bytes, the same rules, and no limit but what a word can state
abbrev pub recording_answer : List ℕ → Answer Report
recording_answer = judge_answer_to most_recorded

-- ---- calls that fill a lent buffer from its front; the answer is how many elements were written

pub record Outcome : Type 0 where
  pub answer : Answer ℕ
  pub buffer : List ℕ

-- a refused call leaves the buffer as it was; else what lies behind what was written stays
abbrev pub leaves : Answer (List ℕ) → List ℕ → Outcome
leaves (refused number place) buffer = record { answer = refused number place; buffer = buffer }
leaves (answered out) buffer = record { answer = answered (length out); buffer = out ++ drop (length out) buffer }

-- the lent buffer is shorter than the answer; the place is the length needed
abbrev pub fitting : List ℕ → List ℕ → Answer (List ℕ)
fitting buffer out = unless 7 (given (length out) (ltb (length buffer) (length out))) (answered out)

-- ---- burst cells

abbrev pub not_clean : Verdict → Option ℕ
not_clean clean = none
not_clean (broken r i t) = some i

unfoldable pub cells_in : List ℕ → List ℕ
cells_in capture = cells_of (settings_in capture) (bursts_of (settings_in capture) (events_of capture))

unfoldable pub cells_outcome : List ℕ → List ℕ → Outcome
cells_outcome capture buffer =
    leaves (accepted capture (unless 8 (not_clean (verdict_in capture)) (fitting buffer (cells_in capture)))) buffer

-- ---- schedules

abbrev pub when_planned : Schedule → (List Event → Answer (List ℕ)) → Answer (List ℕ)
when_planned (planned es) f = f es
when_planned (late i) f = refused 6 i

unfoldable pub schedule_outcome : List ℕ → List ℕ → ℕ → List ℕ → Outcome
schedule_outcome settings requests policy buffer =
    leaves
    (unless 2 (given 0 (not (eqb (length settings) settings_count)))
    (unless 3 (bad_setting settings)
    (unless 10 (given 0 (not (policy_fits policy)))
    (unless 5 (bad_request (settings_of settings) requests)
    (when_planned (schedule_of (settings_of settings) policy requests) (λ es. fitting buffer (capture_of settings es)))))))
    buffer
