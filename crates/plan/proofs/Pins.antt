-- The pin words of a schedule's commands have no bit above the pins; the banks and rows that they name are the part's.
use Prim.Native.Nat.{ℕ, ◌/◌, ◌^◌, ◌<◌}
use mathlib.Core.Bool.{Bool, true, cond}
use mathlib.Core.Path.{◌≡◌}
use native.Mathlib.Nat.{mod-lt}
use native.Mathlib.Omega.{arith}
use lib.Pow.{pow_pos, pow_mono}
use Rattle.reading.specs.Settings.{Settings}
use Rattle.reading.specs.Commands.{ACTIVE, READ, WRITE, PRECHARGE}
use Rattle.reading.specs.Schedule.{asks_write, first_cell, cell_bank, cell_row, cell_column, request_fits, active_pins, column_pins, burst_pins, close_pins, close_all_pins, refresh_pins}
use Rattle.pins.proofs.Carried.{pins-small}
use Rattle.memory.proofs.Pins.{bank-small, column-small, column-pins-low}
use Rattle.plan.proofs.Ranged.{Ranged}

pub close-all-small : close_all_pins < 2 ^ 20
close-all-small = omega arith

pub refresh-small : refresh_pins < 2 ^ 20
refresh-small = omega arith

-- a request that fits
module _ (s : Settings) (g : Ranged s) (q : ℕ) (fits : request_fits s q ≡ true) where
  abbrev bank : ℕ
  bank = cell_bank s (first_cell q)

  abbrev row : ℕ
  row = cell_row s (first_cell q)

  abbrev column : ℕ
  column = cell_column s (first_cell q)

  pub row_low : row < 2 ^ s.row_bits
  row_low = mod-lt (first_cell q / 2 ^ s.column_bits) (pow_pos s.row_bits)

  pub active-small : active_pins s q < 2 ^ 20
  active-small = pins-small ACTIVE bank row (bank-small s g.sized q fits) (omega (arith, row_low, pow_mono g.sized.rows))

  pub close-small : close_pins s q < 2 ^ 20
  close-small = pins-small PRECHARGE bank 0 (bank-small s g.sized q fits) (omega arith)

  pub burst-small : (A10 : Bool) → burst_pins A10 s q < 2 ^ 20
  burst-small A10 =
      let l : column < 2 ^ 11 = omega (arith, column-small s g.sized q, pow_mono g.sized.columns) in
      pins-small (cond (asks_write q) WRITE READ) bank (column_pins A10 column) (bank-small s g.sized q fits) (column-pins-low A10 column l)
