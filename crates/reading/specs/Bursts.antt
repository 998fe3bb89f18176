-- Bursts: their columns and cells, the pairs they keep, when they are over.
use Rattle.std.specs.Prelude.{ℕ, ◌+◌, ◌*◌, ◌/◌, ◌%◌, ◌^◌, Bool, cond, not, ◌&&◌, List, map, eqb}
use Rattle.std.specs.Int.Bits.{bit_xor}
use Rattle.reading.specs.Search.{count}
use Rattle.reading.specs.Words.{bit}
use Rattle.reading.specs.Mode.{BL, h, CL, interleaved}
use Rattle.reading.specs.Settings.{Settings, newer}

-- A0-A9, cut to the column bits; with 11 column bits, A11 is column bit 10
abbrev pub column_of : Settings → ℕ → ℕ
column_of s address =
    address % 2 ^ 10 % 2 ^ s.column_bits + cond (eqb s.column_bits 11) (2 ^ 10 * bit 11 address) 0

-- the place of beat j in the aligned block of BL columns that holds c, and its column
unfoldable pub place : ℕ → ℕ → ℕ → ℕ
place m c j = cond (interleaved m) (bit_xor (c % BL m) j) ((c + j) % BL m)

unfoldable pub beat_column : ℕ → ℕ → ℕ → ℕ
beat_column m c j = c / BL m * BL m + place m c j

abbrev pub cell_number : Settings → ℕ → ℕ → ℕ → ℕ
cell_number s bank row column = (bank * 2 ^ s.row_bits + row) * 2 ^ s.column_bits + column

-- a burst given at cycle k in the mode of then, with the n pairs kept so far
pub record Burst : Type 0 where
  pub writes : Bool
  pub bank : ℕ
  pub row : ℕ
  pub column : ℕ
  pub mode : ℕ
  pub k : ℕ
  pub n : ℕ
  pub auto : Bool

abbrev pub reads : Burst → Bool
reads x = not x.writes

unfoldable pub beat_cell : Settings → Burst → ℕ → ℕ
beat_cell s x j = cell_number s x.bank x.row (beat_column x.mode x.column j)

-- the cells of its kept beats, in beat order
unfoldable pub burst_cells : Settings → Burst → List ℕ
burst_cells s x = map (beat_cell s x) (count 0 (2 * x.n))

abbrev pub with_pairs : ℕ → Burst → Burst
with_pairs pairs x =
    record {
      writes = x.writes;
      bank = x.bank;
      row = x.row;
      column = x.column;
      mode = x.mode;
      k = x.k;
      n = pairs;
      auto = x.auto;
    }

-- ---- when a burst is over

-- with all its pairs
abbrev pub whole_end : Burst → ℕ
whole_end x = x.k + h x.mode

-- the data of a read have left the bus
abbrev pub read_end : Burst → ℕ
read_end x = x.k + CL x.mode + x.n

-- the data of a write have been taken
abbrev pub data_end : Burst → ℕ
data_end x = x.k + 1 + x.n

-- what rules 10 and 11 count from: a write's data, of which in the newer edition its first pair, unless it has auto precharge
abbrev pub rests_from : Settings → Burst → ℕ
rests_from s x = cond (newer s && not x.auto) (x.k + 2) (data_end x)
