-- Captures with the addresses blanked: the pins that may be hidden, captures that differ in such pins alone, and a capture
-- with these pins at 0.
use Rattle.std.specs.Prelude.{ℕ, ◌+◌, ◌*◌, ◌/◌, ◌^◌, ◌<◌, Bool, true, cond, ◌&&◌, List, [], ◌∷◌, ◌++◌, map, ◌≡◌, length, take, ltb}
use Rattle.reading.specs.Words.{bytes_of, bit}
use Rattle.reading.specs.Settings.{Settings}
use Rattle.reading.specs.Capture.{Event, events_start, count_in, event_count, event_bytes, event_at, events_of}
use Rattle.reading.specs.Commands.{ACTIVE, READ, WRITE, is, among, command_of}
use Rattle.reading.specs.Schedule.{event_words}
use Rattle.reading.specs.Answers.{Outcome, accepted, settings_in, fitting, leaves}

-- ---- one event, with CKE high or low

-- READ and WRITE name a column
abbrev pub names_column : ℕ → Bool
names_column w = among (READ ∷ WRITE ∷ []) (command_of w)

-- ACTIVE names a row, here one that the part has
abbrev pub names_row : Settings → ℕ → Bool
names_row s w = is ACTIVE (command_of w) && ltb (command_of w).address (2 ^ s.row_bits)

-- the pins above A13: bank, command and CKE
abbrev pub above : ℕ → ℕ
above w = w / 2 ^ 14

-- two pin words that differ at most in pins that may be hidden
pub data Alike (s : Settings) (v w : ℕ) : Type 0 where
  -- all pins are the same
  same : v ≡ w → Alike s v w
  -- READ or WRITE: all but A0-A9 and A11-A13 are
  columns : names_column v ≡ true → above v ≡ above w → bit 10 v ≡ bit 10 w → Alike s v w
  -- ACTIVE: all but A0-A13 are, and the part has both rows
  rows : names_row s v ≡ true → names_row s w ≡ true → above v ≡ above w → Alike s v w

-- a pin word with the pins at 0 that may be hidden: A10 stays, and so does a row that the part does not have
unfoldable pub blank_pins : Settings → ℕ → ℕ
blank_pins s w =
    cond (names_column w) (2 ^ 14 * above w + 2 ^ 10 * bit 10 w)
    (cond (names_row s w) (2 ^ 14 * above w) w)

-- ---- a capture

-- two captures that differ only so: as long, with the same header, settings and cycles, and each event's pins alike
pub record OnlyAddressesDiffer (a b : List ℕ) : Type 0 where
  pub size : length a ≡ length b
  pub front : take (events_start (count_in a)) a ≡ take (events_start (count_in a)) b
  pub cycles : (i : ℕ) → i < event_count a → (event_at (event_bytes a) i).cycle ≡ (event_at (event_bytes b) i).cycle
  pub pins : (i : ℕ) → i < event_count a → Alike (settings_in a) (event_at (event_bytes a) i).pins (event_at (event_bytes b) i).pins

abbrev pub blank_event : Settings → Event → Event
blank_event s e = record { cycle = e.cycle; pins = blank_pins s e.pins }

-- header and settings as they stand, and the events behind them
unfoldable pub blanked : List ℕ → List ℕ
blanked capture =
    take (events_start (count_in capture)) capture
    ++ bytes_of (event_words (map (blank_event (settings_in capture)) (events_of capture)))

-- refusals 1 to 4, then 7
unfoldable pub blank_outcome : List ℕ → List ℕ → Outcome
blank_outcome capture buffer = leaves (accepted capture (fitting buffer (blanked capture))) buffer
