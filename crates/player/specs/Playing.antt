-- What this crate's answers mean in document 01, and what its functions make of the words of a window.
use Rattle.std.specs.Prelude.{ℕ, zero, suc, ◌+◌, ◌-◌, ◌*◌, ◌%◌, ◌^◌, cond, List, ◌≡◌, eqb, get_or, set}
use Rattle.std.specs.Prelude.{map}
use Rattle.std.proofs.Math.Option as option
use Rattle.reading.specs.Search.{count}
use Rattle.reading.specs.Words.{bit}
use Rattle.reading.specs.Settings.{Settings}
use Rattle.reading.specs.Capture.{Event}
use Rattle.reading.specs.Bursts.{Burst, beat_column, reads}
use Rattle.reading.specs.Cells.{beats_by}
use Rattle.reading.specs.Memory.{Datum, lane_of, with_lane, merged}
use Rattle.reading.specs.Answers.{Answer, answered, unless}
use Rattle.beats.specs.declared.Burst as held
use Rattle.reading.specs.Player.{unplayable, event_of_burst}

-- ---- words

abbrev pub datum : ℕ → ℕ → Datum
datum word mask = record { word = word; mask = mask }

-- lane i of a new word, where bit i of the mask is 0
abbrev pub laned : ℕ → ℕ → ℕ → ℕ → ℕ
laned i old word mask = cond (eqb (bit i mask) 0) (with_lane i (lane_of i word) old) old

-- the lanes of a word, by the lane code
abbrev pub lanes_by : ℕ → ℕ
lanes_by lane = cond (eqb lane 1) 2 4

-- ---- the window, by the places of its words

-- the cell of a beat, in the row that begins with cell `row`
abbrev pub cell_in : ℕ → ℕ → ℕ → ℕ → ℕ
cell_in row mode column beat = row + beat_column mode column beat

-- those of a burst, by beat, and of its beats
abbrev pub cell_of : held.Burst → ℕ → ℕ
cell_of x = cell_in x.first x.mode x.column

abbrev pub cells_of : held.Burst → List ℕ
cells_of x = map (cell_of x) (count 0 (2 * x.pairs))

-- `left` beats from beat j on stored, each at the cell that `cell` says
unfoldable pub stored_from : ℕ → ℕ → (ℕ → ℕ) → (ℕ → Datum) → ℕ → ℕ → List ℕ → List ℕ
stored_from lanes first cell word zero j window = window
stored_from lanes first cell word (suc left) j window =
    stored_from lanes first cell word left (suc j)
    (set window (cell j - first) (merged lanes (word j) (get_or window (cell j - first) 0)))

-- what is read of the window at a cell
abbrev pub shown_at : ℕ → ℕ → List ℕ → ℕ → ℕ
shown_at lane first window cell = get_or window (cell - first) 0 % 2 ^ (8 * lanes_by lane)

-- the words that bursts read
abbrev pub words_read : List Burst → ℕ
words_read xs = beats_by reads xs

-- ---- the capture

-- the lane code is one of a part
abbrev pub Coded : Settings → Type 0
Coded s = lanes_by s.lane ≡ 2 * s.lane

-- the first burst that cannot be played, and else the words that are read, where some were counted before
unfoldable pub tried : Settings → List Event → ℕ → ℕ → ℕ → ℕ → List Burst → Answer ℕ
tried s es first size left read xs =
    unless 15 (option.map (event_of_burst es) (unplayable s first size left xs)) (answered (read + words_read xs))
