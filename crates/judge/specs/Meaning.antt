-- What this crate's verdicts mean in document 01, and what is known of events that are walked.
use Rattle.std.specs.Prelude.{ℕ, ◌*◌, ◌≤◌, ◌<◌, true, List, map, ◌≡◌, length}
use Rattle.reading.specs.Search.{count}
use Rattle.reading.specs.Settings as reading
use Rattle.reading.specs.Capture as capture
use Rattle.reading.specs.Capture.{event_at, cycle_fits}
use Rattle.reading.specs.Part.{Part, start, run}
use Rattle.reading.specs.Verdict as is
use Rattle.reading.specs.Answers.{Report}
use Rattle.deadlines.specs.Deadlines.{start_of, pace_of}
use Rattle.bridge.specs.Summary.{laid, summary}
use Rattle.rules.specs.Rule.{number_of}
use Rattle.judge.specs.declared.Verdict.{Verdict}
use Rattle.judge.specs.declared.Verdict.TheVariants.{Clean, Broken}

-- document 01's report
abbrev pub report_of : Verdict → Report
report_of (Clean events judged) = record { events = events; judged = judged; verdict = is.clean }
report_of (Broken events judged rule event cycle) =
    record { events = events; judged = judged; verdict = is.broken (number_of rule) event cycle }

-- the first n events of the part from byte 80 on
abbrev pub events_in : List ℕ → ℕ → List capture.Event
events_in bytes n = map (event_at bytes) (count 0 n)

-- n events fit, and so do the settings
pub record Fit (settings bytes : List ℕ) (n : ℕ) : Type 0 where
  pub long : 8 * n ≤ length bytes
  pub rows : (reading.settings_of settings).row_bits < 32
  pub ticks : 0 < (reading.settings_of settings).t_refi
  pub events : (i : ℕ) → i < n → cycle_fits bytes i ≡ true

-- the deadlines, and h and CL, of a part at its start
pub record Started (s : reading.Settings) (d pace : List ℕ) : Type 0 where
  pub deadlines : d ≡ start_of s
  pub paced : pace ≡ pace_of s.mode

abbrev pub said : ℕ → is.Verdict → Report
said n v = record { events = n; judged = is.judged_of n v; verdict = v }

unfoldable pub report_on : reading.Settings → List ℕ → ℕ → Report
report_on s bytes n = said n (is.verdict_of s (events_in bytes n))

-- the part before event i
abbrev pub part_at : reading.Settings → List ℕ → ℕ → Part
part_at s bytes i = run s (start s) (events_in bytes i)

-- that after the events that were judged, and what is kept of it
unfoldable pub judged_part : reading.Settings → List ℕ → ℕ → Part
judged_part s bytes n = part_at s bytes (is.judged_of n (is.verdict_of s (events_in bytes n)))

abbrev pub deadlines_on : reading.Settings → List ℕ → ℕ → List ℕ
deadlines_on s bytes n = laid (summary s (judged_part s bytes n))

abbrev pub pace_on : reading.Settings → List ℕ → ℕ → List ℕ
pace_on s bytes n = pace_of (judged_part s bytes n).mode
