-- The capture: header, settings, events; and what is wrong with one that is refused.
use Rattle.std.specs.Prelude.{ℕ, ◌+◌, ◌-◌, ◌*◌, ◌^◌, Bool, cond, not, ◌&&◌, ◌||◌, List, map, length, drop, leb, ltb, eqb}
use Rattle.std.proofs.Math.Option.{Option}
use Rattle.reading.specs.Search.{count, lowest}
use Rattle.reading.specs.Words.{word_at}
use Rattle.reading.specs.Settings.{settings_count, sleeping_count}

-- an event is a cycle and a pin word
pub record Event : Type 0 where
  pub cycle : ℕ
  pub pins : ℕ

-- header words, by number: total bytes, settings count, settings offset, events count N, events offset, edition
abbrev pub header_word : List ℕ → ℕ → ℕ
header_word capture k = word_at capture (4 * k)

abbrev pub event_count : List ℕ → ℕ
event_count capture = header_word capture 3

abbrev pub edition_in : List ℕ → ℕ
edition_in capture = header_word capture 5

-- ---- the layout: settings follow the header, events follow the settings

abbrev pub settings_start : ℕ
settings_start = 24

abbrev pub events_start : ℕ → ℕ
events_start settings = settings_start + 4 * settings

-- the bytes of a capture of so many settings and n events
abbrev pub capture_size : ℕ → ℕ → ℕ
capture_size settings n = events_start settings + 8 * n

-- a capture has at most so many events; a recording has as many as a word can count, if a word can state its bytes
abbrev pub most_events : ℕ
most_events = 8000

abbrev pub most_recorded : ℕ
most_recorded = 2 ^ 32 - 1

abbrev pub newest_edition : ℕ
newest_edition = 1

-- how many settings a capture holds: with those of sleep, where it says so
abbrev pub count_in : List ℕ → ℕ
count_in capture = cond (eqb (header_word capture 1) sleeping_count) sleeping_count settings_count

unfoldable pub setting_words : List ℕ → List ℕ
setting_words capture = map (λ i. word_at capture (settings_start + 4 * i)) (count 0 (count_in capture))

-- the bytes from where events start; event i stands at 8 i in them
abbrev pub event_bytes : List ℕ → List ℕ
event_bytes capture = drop (events_start (count_in capture)) capture

abbrev pub event_at : List ℕ → ℕ → Event
event_at bytes i = record { cycle = word_at bytes (8 * i); pins = word_at bytes (8 * i + 4) }

unfoldable pub events_of : List ℕ → List Event
events_of capture = map (event_at (event_bytes capture)) (count 0 (event_count capture))

-- at least as long as without events, at most as long as with the most, and as long as the first header word says
unfoldable pub length_fits_to : ℕ → List ℕ → Bool
length_fits_to most capture =
    leb (capture_size (count_in capture) 0) (length capture)
    && leb (length capture) (capture_size (count_in capture) most)
    && eqb (header_word capture 0) (length capture)

-- every other header word is as it should be, and the total is that of N events
unfoldable pub header_fits_to : ℕ → List ℕ → Bool
header_fits_to most capture =
    eqb (header_word capture 1) (count_in capture)
    && eqb (header_word capture 2) settings_start
    && leb (event_count capture) most
    && eqb (header_word capture 4) (events_start (count_in capture))
    && leb (edition_in capture) newest_edition
    && eqb (header_word capture 0) (capture_size (count_in capture) (event_count capture))

-- of a capture
abbrev pub length_fits : List ℕ → Bool
length_fits = length_fits_to most_events

abbrev pub header_fits : List ℕ → Bool
header_fits = header_fits_to most_events

abbrev pub last_cycle : ℕ
last_cycle = 2000000000

-- pin words are below this: bits above the pins are zero, and CKE is a pin where there is sleep
abbrev pub pin_limit : List ℕ → ℕ
pin_limit capture = cond (eqb (header_word capture 1) sleeping_count) (2 ^ 21) (2 ^ 20)

-- the cycle is not too large and above the one before
abbrev pub cycle_fits : List ℕ → ℕ → Bool
cycle_fits bytes i = leb (event_at bytes i).cycle last_cycle && (eqb i 0 || ltb (event_at bytes (i - 1)).cycle (event_at bytes i).cycle)

unfoldable pub event_fits : ℕ → List ℕ → ℕ → Bool
event_fits limit bytes i = ltb (event_at bytes i).pins limit && cycle_fits bytes i

-- the lowest of n events that does not fit
unfoldable pub bad_event : ℕ → List ℕ → ℕ → Option ℕ
bad_event limit bytes n = lowest (λ i. not (event_fits limit bytes i)) n
