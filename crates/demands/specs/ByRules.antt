-- What each call answers where events are judged, or commands placed, by any rules, listed by their numbers. By the rules of
-- the reading these are its answers.
use Rattle.std.specs.Prelude.{ℕ, not, List, length, eqb}
use Rattle.reading.specs.Search.{given}
use Rattle.reading.specs.Settings.{settings_count, settings_of, bad_setting}
use Rattle.reading.specs.Capture.{event_count, events_of}
use Rattle.reading.specs.Verdict.{Verdict, verdict_by, judged_of}
use Rattle.reading.specs.Schedule.{policy_fits, closes_rows, bad_request, schedule_by, capture_of}
use Rattle.reading.specs.Answers.{Answer, answered, Report, Outcome, unless, accepted, settings_in, not_clean, cells_in, fitting, leaves, when_planned}

module _ (rs : List ℕ) where
  abbrev pub verdict_in_by : List ℕ → Verdict
  verdict_in_by capture = verdict_by rs (settings_in capture) (events_of capture)

  abbrev pub judge_answer_by : List ℕ → Answer Report
  judge_answer_by capture =
      accepted capture
      (answered
      (record {
        events = event_count capture;
        judged = judged_of (event_count capture) (verdict_in_by capture);
        verdict = verdict_in_by capture;
      }))

  abbrev pub cells_outcome_by : List ℕ → List ℕ → Outcome
  cells_outcome_by capture buffer =
      leaves (accepted capture (unless 8 (not_clean (verdict_in_by capture)) (fitting buffer (cells_in capture)))) buffer

  abbrev pub schedule_outcome_by : List ℕ → List ℕ → ℕ → List ℕ → Outcome
  schedule_outcome_by settings requests policy buffer =
      leaves
      (unless 2 (given 0 (not (eqb (length settings) settings_count)))
      (unless 3 (bad_setting settings)
      (unless 10 (given 0 (not (policy_fits policy)))
      (unless 5 (bad_request (settings_of settings) requests)
      (when_planned (schedule_by rs (settings_of settings) (closes_rows policy) requests) (λ es. fitting buffer (capture_of settings es)))))))
      buffer
