-- A request that fits a part of these settings.
use Rattle.std.specs.Prelude.{ℕ, ◌+◌, ◌%◌, ◌^◌, ◌<◌, Bool, true, cond, List, ◌≡◌, ltb, length, get_or}
use Rattle.reading.specs.Settings.{Settings}
use Rattle.reading.specs.Commands.{READ, WRITE, pins_of}
use Rattle.reading.specs.Schedule.{request_fits}
use Rattle.memory.specs.Serving.{Sized}

-- A clause and no type: the settings are the scheduler's, and a request that held them too would need a clause that both are the
-- same.
pub record Asked (s : Settings) (q : ℕ) : Type 0 where
  pub sized : Sized s
  pub fits : request_fits s q ≡ true

-- WRITE or READ on the command pins
abbrev pub burst_code : Bool → ℕ
burst_code write = pins_of (cond write WRITE READ) 0 0

-- the cells of a part of four banks, and whether a request is for one of so many
abbrev pub cell_count : Settings → ℕ
cell_count s = 2 ^ (2 + s.column_bits + s.row_bits)

abbrev pub below : ℕ → ℕ → Bool
below cells q = ltb (q % 2 ^ 31) cells

abbrev pub EachBelow : ℕ → List ℕ → Type 0
EachBelow cells qs = (i : ℕ) → i < length qs → below cells (get_or qs i 0) ≡ true
