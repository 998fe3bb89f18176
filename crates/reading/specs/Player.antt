-- The bench player: a clean capture played against a window of lent cells.
use Rattle.std.specs.Prelude.{ℕ, suc, ◌+◌, ◌-◌, ◌*◌, ◌/◌, Bool, cond, not, ◌&&◌, List, [], ◌∷◌, ◌++◌, map, length, get_or, drop, leb, ltb, eqb}
use Rattle.std.proofs.Math.Option
use Rattle.std.proofs.Math.Option.{Option, none, some}
use Rattle.reading.specs.Search.{count, every, given}
use Rattle.reading.specs.Mode.{BL}
use Rattle.reading.specs.Settings.{Settings}
use Rattle.reading.specs.Capture.{Event, events_of}
use Rattle.reading.specs.Bursts.{Burst, cell_number, burst_cells}
use Rattle.reading.specs.Cells.{bursts_of}
use Rattle.reading.specs.Memory.{Contents, Datum, Run, replay}
use Rattle.reading.specs.Answers.{Answer, refused, answered, unless, accepted, settings_in, verdict_in, not_clean}

-- ---- the window

abbrev pub most_window : ℕ
most_window = 16384

-- not too large, and all of it cells of the part, which has four banks
abbrev pub window_fits : Settings → ℕ → ℕ → Bool
window_fits s first size = leb size most_window && leb (first + size) (cell_number s 4 0 0)

abbrev pub in_window : ℕ → ℕ → ℕ → Bool
in_window first size cell = leb first cell && ltb cell (first + size)

-- the contents of a part of which only the window is known
abbrev pub windowed : ℕ → List ℕ → Contents
windowed first window cell = get_or window (cell - first) 0

-- ---- words to be written, each followed by its mask; a word without one is none

abbrev pub datum_at : List ℕ → ℕ → Datum
datum_at writes j = record { word = get_or writes (2 * j) 0; mask = get_or writes (2 * j + 1) 0 }

unfoldable pub data_of : List ℕ → List Datum
data_of writes = map (datum_at writes) (count 0 (length writes / 2))

-- a WRITE takes BL of them, kept or not
abbrev pub takes : Burst → ℕ
takes x = cond x.writes (BL x.mode) 0

-- ---- refusal 15

-- its kept beats are in the window, and there is a word and a mask for each beat of a WRITE
abbrev pub playable : Settings → ℕ → ℕ → ℕ → Burst → Bool
playable s first size left x = every (in_window first size) (burst_cells s x) && leb (takes x) left

-- the first burst that cannot be played
unfoldable pub unplayable : Settings → ℕ → ℕ → ℕ → List Burst → Option Burst
unplayable s first size left [] = none
unplayable s first size left (x ∷ xs) =
    cond (playable s first size left x) (unplayable s first size (left - takes x) xs) (some x)

-- the number of the event that gave a burst: each has a cycle of its own
unfoldable pub event_of_burst : List Event → Burst → ℕ
event_of_burst [] x = 0
event_of_burst (e ∷ es) x = cond (eqb e.cycle x.k) 0 (suc (event_of_burst es x))

-- ---- the play: the part replayed, its cells those of the window

unfoldable pub played_on : Settings → List Event → ℕ → List ℕ → List ℕ → Run
played_on s es first window writes =
    replay s es (record { contents = windowed first window; supply = data_of writes; returned = [] })

-- the window is tried first, then the lowest event decides, then there has to be room for the words that are read
unfoldable pub playing : Settings → List Event → ℕ → List ℕ → List ℕ → ℕ → Answer Run
playing s es first window writes room =
    let size = length window in
    let r = played_on s es first window writes in
    unless 15 (given 0 (not (window_fits s first size)))
    (unless 15 (Option.map (event_of_burst es) (unplayable s first size (length (data_of writes)) (bursts_of s es)))
    (unless 7 (given (length r.returned) (ltb room (length r.returned))) (answered r)))

pub record PlayOutcome : Type 0 where
  pub answer : Answer ℕ
  pub window : List ℕ
  pub reads : List ℕ

-- a refused call leaves both buffers; else the window holds what its cells hold, and what lies behind the words read stays
abbrev pub plays : ℕ → List ℕ → List ℕ → Answer Run → PlayOutcome
plays first window reads (refused number place) = record { answer = refused number place; window = window; reads = reads }
plays first window reads (answered r) =
    record {
      answer = answered (length r.returned);
      window = map r.contents (count first (length window));
      reads = r.returned ++ drop (length r.returned) reads;
    }

unfoldable pub play_outcome : List ℕ → ℕ → List ℕ → List ℕ → List ℕ → PlayOutcome
play_outcome capture first window writes reads =
    plays first window reads
    (accepted capture
    (unless 8 (not_clean (verdict_in capture))
    (playing (settings_in capture) (events_of capture) first window writes (length reads))))
