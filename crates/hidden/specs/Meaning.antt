-- The events of a capture, blanked, and what is asked of a buffer for them.
use Rattle.std.specs.Prelude.{ℕ, ◌+◌, ◌*◌, ◌≤◌, ◌<◌, List, map, length}
use Rattle.reading.specs.Search.{count}
use Rattle.reading.specs.Words.{bytes_of}
use Rattle.reading.specs.Settings.{Settings, settings_of}
use Rattle.reading.specs.Capture.{event_at}
use Rattle.reading.specs.Schedule.{event_words}
use Rattle.reading.specs.Blank.{blank_event}

-- n events from event i on, blanked, as bytes
unfoldable pub blanked_from : Settings → List ℕ → ℕ → ℕ → List ℕ
blanked_from s bytes i n = bytes_of (event_words (map (blank_event s) (map (event_at bytes) (count i n))))

abbrev pub blanked_events : Settings → List ℕ → ℕ → List ℕ
blanked_events s bytes n = blanked_from s bytes 0 n

-- there is room for n events
pub record Writable (settings : List ℕ) (n : ℕ) (out : List ℕ) (at : ℕ) : Type 0 where
  pub rows : (settings_of settings).row_bits < 32
  pub room : at + 8 * n ≤ length out
