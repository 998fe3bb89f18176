-- What this crate's answers mean in the reading, and what its functions ask of each other.
use Rattle.std.specs.Prelude.{◌≡◌, ℕ, ◌+◌, ◌-◌, ◌*◌, ◌^◌, ◌<◌, ◌≤◌, Bool, cond, not, ◌||◌, List, ◌++◌, map, length, nat_lt, Result, Ok, Err}
use Rattle.std.proofs.lemmas.List.Edits.{sets}
use Rattle.reading.specs.Search.{count}
use Rattle.reading.specs.Words.{bytes_of}
use Rattle.reading.specs.Settings.{settings_count}
use Rattle.reading.specs.Capture.{Event, event_at, capture_size, most_events, last_cycle}
use Rattle.reading.specs.Schedule.{event_words, header_of}
use Rattle.reading.specs.Export.{record_size, most_records, record_pins, record_of, reach, bridged, export_of, first_cycle}
use Rattle.refusal.specs.declared.Refusal.{Refusal}
use Rattle.refusal.specs.declared.Refusal.TheVariants.{Room}

-- ---- from an export to a capture

-- n records are there
pub record Held (records : List ℕ) (n : ℕ) : Type 0 where
  pub few : n ≤ most_records
  pub there : record_size * n ≤ length records

-- record i has pins that there are not
abbrev pub too_high : List ℕ → ℕ → Bool
too_high records i = not (nat_lt (record_pins records i) (2 ^ 20))

-- n of them from record i on, as the bytes of events
unfoldable pub records_from : List ℕ → ℕ → ℕ → List ℕ
records_from records i n = bytes_of (event_words (map (record_of records) (count i n)))

abbrev pub records_in : List ℕ → ℕ → List ℕ
records_in records n = records_from records 0 n

-- and there is room for them as events
pub record Readable (records : List ℕ) (n : ℕ) (out : List ℕ) : Type 0 where
  pub held : Held records n
  pub room : capture_size settings_count n ≤ length out

pub record Fillable (records settings : List ℕ) (n : ℕ) : Type 0 where
  pub held : Held records n
  pub fourteen : length settings ≡ settings_count

-- the capture, if the buffer holds it
unfoldable pub filled : List ℕ → ℕ → Result ℕ Refusal
filled out n = let bytes = capture_size settings_count n in cond (nat_lt (length out) bytes) (Err (Room bytes)) (Ok bytes)

unfoldable pub filling : List ℕ → List ℕ → ℕ → ℕ → List ℕ → List ℕ
filling records settings edition n out =
    cond (nat_lt (length out) (capture_size settings_count n)) out
    (sets out 0 (bytes_of (header_of edition (length settings) n ++ settings) ++ records_in records n))

-- ---- from a capture to an export

-- n events are there, none too late; a clause and no type: `Events` says the last two, and how few they are is said where a capture
-- is opened
pub record Given (bytes : List ℕ) (n : ℕ) : Type 0 where
  pub few : n ≤ most_events
  pub there : 8 * n ≤ length bytes
  pub early : (i : ℕ) → i < n → (event_at bytes i).cycle ≤ last_cycle

-- of n events those from event i on, and all of them
abbrev pub events_from : List ℕ → ℕ → ℕ → List Event
events_from bytes n i = map (event_at bytes) (count i (n - i))

abbrev pub events_in : List ℕ → ℕ → List Event
events_in bytes n = map (event_at bytes) (count 0 n)

-- and there is room for their records
pub record Writable (bytes : List ℕ) (n : ℕ) (out : List ℕ) : Type 0 where
  pub given : Given bytes n
  pub room : record_size * length (bridged (events_in bytes n)) ≤ length out

-- room for k NOPs behind cycle `last`, which end before the last cycle
pub record Bridging (last k : ℕ) (out : List ℕ) (at : ℕ) : Type 0 where
  pub early : last + reach * k ≤ last_cycle
  pub room : at + record_size * k ≤ length out

-- first too late, or too many records
abbrev pub too_far : List Event → Bool
too_far es = nat_lt reach (first_cycle es) || nat_lt most_records (length (bridged es))

-- the export, if the buffer holds it
unfoldable pub stored : List ℕ → ℕ → Result ℕ Refusal
stored out records =
    let bytes = record_size * records in cond (nat_lt (length out) bytes) (Err (Room bytes)) (Ok bytes)

unfoldable pub storing : List Event → ℕ → List ℕ → List ℕ
storing es records out = cond (nat_lt (length out) (record_size * records)) out (sets out 0 (export_of (bridged es)))
