-- The answers about captures with 8,000 written into every test, for the theorem that the reading's parameter at 8,000 gives these.
use Rattle.std.specs.Prelude.{ℕ, Bool, not, ◌&&◌, List, leb, eqb, length}
use Rattle.reading.specs.Search.{given}
use Rattle.reading.specs.Settings.{bad_setting}
use Rattle.reading.specs.Capture.{header_word, count_in, event_count, edition_in, settings_start, events_start, capture_size, newest_edition, setting_words, event_bytes, pin_limit, bad_event}
use Rattle.reading.specs.Verdict.{judged_of}
use Rattle.reading.specs.Answers.{Answer, answered, unless, Report, Outcome, leaves, fitting, verdict_in, not_clean, cells_in}
use Rattle.reading.specs.Blank.{blanked}

module _ (capture : List ℕ) where
  abbrev pub limited_length_fits : Bool
  limited_length_fits =
      leb (capture_size (count_in capture) 0) (length capture)
      && leb (length capture) (capture_size (count_in capture) 8000)
      && eqb (header_word capture 0) (length capture)

  abbrev pub limited_header_fits : Bool
  limited_header_fits =
      eqb (header_word capture 1) (count_in capture)
      && eqb (header_word capture 2) settings_start
      && leb (event_count capture) 8000
      && eqb (header_word capture 4) (events_start (count_in capture))
      && leb (edition_in capture) newest_edition
      && eqb (header_word capture 0) (capture_size (count_in capture) (event_count capture))

  abbrev pub limited_accepted : {A : Type 0} → Answer A → Answer A
  limited_accepted rest =
      unless 1 (given 0 (not limited_length_fits))
      (unless 2 (given 0 (not limited_header_fits))
      (unless 3 (bad_setting (setting_words capture))
      (unless 4 (bad_event (pin_limit capture) (event_bytes capture) (event_count capture)) rest)))

  abbrev pub limited_judge_answer : Answer Report
  limited_judge_answer =
      limited_accepted
      (answered
      (record {
        events = event_count capture;
        judged = judged_of (event_count capture) (verdict_in capture);
        verdict = verdict_in capture;
      }))

  abbrev pub limited_cells_outcome : List ℕ → Outcome
  limited_cells_outcome buffer = leaves (limited_accepted (unless 8 (not_clean (verdict_in capture)) (fitting buffer (cells_in capture)))) buffer

  abbrev pub limited_blank_outcome : List ℕ → Outcome
  limited_blank_outcome buffer = leaves (limited_accepted (fitting buffer (blanked capture))) buffer
