-- What is handed out of an accepted capture.
use Rattle.std.specs.Prelude.{ℕ, List, ◌≡◌}
use Rattle.reading.specs.Capture.{event_count, edition_in, setting_words, event_bytes}
use Rattle.settings.specs.Meaning.{held}
use Rattle.capture.specs.declared.held.Opened.{Opened}

-- its settings with its edition, the bytes of its events, and how many there are
pub record Holds (capture : List ℕ) (o : Opened) : Type 0 where
  pub settings-are : o.settings ≡ held (edition_in capture) (setting_words capture)
  pub bytes-are : o.events.bytes.now ≡ event_bytes capture
  pub count-is : o.events.count ≡ event_count capture
