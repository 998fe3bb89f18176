-- What is kept behind a list of events: the deadlines of the part, and where the schedule stands.
use Rattle.std.specs.Prelude.{ℕ, cond, List, [], ◌∷◌, length}
use Rattle.std.proofs.Math.Option.{Option, none, some}
use Rattle.reading.specs.Settings.{Settings}
use Rattle.reading.specs.Capture.{Event}
use Rattle.reading.specs.Bursts.{Burst, whole_end}
use Rattle.reading.specs.Part.{Part, start, run, last_read, last_write}
use Rattle.reading.specs.Schedule.{free_from}
use Rattle.bridge.specs.Summary.{laid, summary}

abbrev pub part_of : Settings → List Event → Part
part_of s es = run s (start s) es

unfoldable pub deadlines_of : Settings → List Event → List ℕ
deadlines_of s es = laid (summary s (part_of s es))

-- ---- beside the deadlines: the row that each bank was opened on, until when the last read and the last write can be cut,
-- the next free cycle, and how many events there are

abbrev pub ROW : ℕ
ROW = 0

abbrev pub READ-END : ℕ
READ-END = 4

abbrev pub WRITE-END : ℕ
WRITE-END = 5

abbrev pub FREE : ℕ
FREE = 6

abbrev pub EVENTS : ℕ
EVENTS = 7

-- k + h of a burst, and 0 of one that nothing cuts
abbrev pub cut_end : Option Burst → ℕ
cut_end none = 0
cut_end (some x) = cond x.auto 0 (whole_end x)

-- in the order of the places
abbrev pub stood : (ℕ → ℕ) → ℕ → ℕ → ℕ → ℕ → List ℕ
stood row read_end write_end free events = row 0 ∷ row 1 ∷ row 2 ∷ row 3 ∷ read_end ∷ write_end ∷ free ∷ events ∷ []

unfoldable pub standing_of : Settings → List Event → List ℕ
standing_of s es =
    stood (λ b. ((part_of s es).banks b).row) (cut_end (last_read (part_of s es))) (cut_end (last_write (part_of s es))) (free_from 0 es) (length es)
