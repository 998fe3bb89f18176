-- The cells of a burst in its row, and the first cells of the banks' rows.
use Rattle.std.specs.Prelude.{ℕ, ◌+◌, ◌*◌, ◌%◌, ◌^◌, ◌≤◌, ◌<◌, Bool, cond, List, [], ◌∷◌, map, eqb, set}
use Rattle.std.specs.Int.Bits.{bit_xor}
use Rattle.reading.specs.Search.{count}
use Rattle.reading.specs.Settings.{Settings}
use Rattle.reading.specs.Bursts.{beat_column}
use Rattle.pins.specs.Pins.{code_of, bank_of, address_of}

-- the bits that a part of this kind may have. It is asked as a clause and no type has it: settings are a plain array, which every crate
-- indexes by place, and a type round it would be taken apart at each of these
pub record Sized (s : Settings) : Type 0 where
  pub rows : s.row_bits ≤ 14
  pub columns : s.column_bits ≤ 11

-- a burst in a row of such a part, of at most the pairs that a mode word can ask for
pub record InRow (first column pairs : ℕ) : Type 0 where
  pub cell : first < 2 ^ 27
  pub low : column < 2048
  pub short : pairs ≤ 64

-- a burst in a block of such a row, whose first cell is `block`
pub record InBlock (block length column pairs : ℕ) : Type 0 where
  pub cell : block < 2 ^ 28
  pub some : 0 < length
  pub most : length ≤ 128
  pub low : column < 2048
  pub short : pairs ≤ 64

-- the place of a beat in a block of some length
abbrev pub place_in : Bool → ℕ → ℕ → ℕ → ℕ
place_in interleaved length column beat = cond interleaved (bit_xor (column % length) beat) ((column + beat) % length)

-- the number of a row's first cell
abbrev pub first_in_row : Settings → ℕ → ℕ → ℕ
first_in_row s bank row = (bank * 2 ^ s.row_bits + row) * 2 ^ s.column_bits

-- those of the four banks, by their rows
abbrev pub first_cells : Settings → ℕ → ℕ → ℕ → ℕ → List ℕ
first_cells s a b c d = first_in_row s 0 a ∷ first_in_row s 1 b ∷ first_in_row s 2 c ∷ first_in_row s 3 d ∷ []

-- the same after the pins' command: ACTIVE opens its bank on its row
abbrev pub cells_opened : Settings → List ℕ → ℕ → List ℕ
cells_opened s firsts w = cond (eqb (code_of w) 12) (set firsts (bank_of w) (first_in_row s (bank_of w) (address_of w))) firsts

-- the cells of the first beats of a burst, in the block that begins with cell `block`
abbrev pub block_cells : Bool → ℕ → ℕ → ℕ → ℕ → List ℕ
block_cells interleaved block length column beats = map (λ j. block + place_in interleaved length column j) (count 0 beats)

-- the same, in the row that begins with cell `first`
unfoldable pub beat_cells : ℕ → ℕ → ℕ → ℕ → List ℕ
beat_cells first mode column beats = map (λ j. first + beat_column mode column j) (count 0 beats)
