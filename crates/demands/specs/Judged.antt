-- The first events of a capture, as a capture of their own: with its settings, of its edition.
use Rattle.std.specs.Prelude.{ℕ, List, take}
use Rattle.reading.specs.Capture.{edition_in, setting_words, events_of}
use Rattle.reading.specs.Schedule.{capture_in}

abbrev pub first_events : ℕ → List ℕ → List ℕ
first_events k capture = capture_in (edition_in capture) (setting_words capture) (take k (events_of capture))
