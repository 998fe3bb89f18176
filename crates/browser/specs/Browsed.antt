-- What a reader sees at a position.
use Rattle.std.specs.Prelude.{ℕ, ◌-◌, cond, List, map, ltb, Option, Some, None}
use Rattle.reading.specs.Search.{count}
use Rattle.reading.specs.Capture as reading
use Rattle.reading.specs.Capture.{event_count, event_bytes, event_at}
use Rattle.browser.specs.declared.Event.{Event}
use Rattle.browser.specs.declared.Reader.{Reader}

-- an event as it is seen
abbrev pub event_seen : reading.Event → Event
event_seen e = record { cycle = e.cycle; pins = e.pins }

-- event i of n in these bytes
unfoldable pub seen_among : List ℕ → ℕ → ℕ → Option Event
seen_among bytes n i = cond (ltb i n) (Some (event_seen (event_at bytes i))) None

-- and of a capture
abbrev pub seen_at : List ℕ → ℕ → Option Event
seen_at capture i = seen_among (event_bytes capture) (event_count capture) i

-- n of them from event i on, and those from where a reader stands
unfoldable pub seen_from : List ℕ → ℕ → ℕ → List Event
seen_from bytes i n = map (λ j. event_seen (event_at bytes j)) (count i n)

abbrev pub events_left : Reader → List Event
events_left r = seen_from (event_bytes r.capture.now) r.at (event_count r.capture.now - r.at)
