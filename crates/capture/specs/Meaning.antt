-- What this crate asks of an event, and of what the front of a capture is written from.
use Rattle.std.specs.Prelude.{ℕ, ◌≤◌, Bool, ◌&&◌, List, ◌≡◌, leb, ltb, length}
use Rattle.reading.specs.Settings.{settings_count}
use Rattle.reading.specs.Capture.{last_cycle, events_start, most_events}

-- an event's words, where pin words are below a limit and next is the first cycle that is above the one before
unfoldable pub fits_from : ℕ → ℕ → ℕ → ℕ → Bool
fits_from limit next cycle pins = ltb pins limit && (leb cycle last_cycle && leb next cycle)

-- fourteen settings, n events, and room for header and settings
pub record Fronted (settings : List ℕ) (n : ℕ) (out : List ℕ) : Type 0 where
  pub fourteen : length settings ≡ settings_count
  pub few : n ≤ most_events
  pub room : events_start settings_count ≤ length out
