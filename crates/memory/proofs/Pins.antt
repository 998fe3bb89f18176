-- The pins of a schedule's commands carry them, and the column pins carry the column.
use Prim.Native.Nat.{ℕ, ◌+◌, ◌*◌, ◌/◌, ◌%◌, ◌^◌, ◌≤◌, ◌<◌}
use mathlib.Core.Bool.{Bool, true, false, cond, and-eq-true_iff}
use mathlib.Core.Path.{◌≡◌, refl, ap, ◌∙◌}
use native.Mathlib.Nat.{mod-lt, mod-eq_of_lt}
use native.Mathlib.Omega.{arith}
use lib.Dec.{ltb, eqb}
use lib.Pow.{pow_pos, pow_mono}
use borrow.Author.Tests.{ltb-true, eqb-true, eqb-false}
use Rattle.reading.specs.Words.{bit}
use Rattle.reading.specs.Settings.{Settings}
use Rattle.reading.specs.Commands.{ACTIVE, READ, WRITE, PRECHARGE, AUTO-REFRESH, Command, command_of}
use Rattle.reading.specs.Bursts.{column_of}
use Rattle.reading.specs.Schedule.{asks_write, first_cell, cell_bank, cell_row, cell_column, request_fits, active_pins, column_pins, burst_pins, close_pins, close_all_pins, refresh_pins}
use Rattle.pins.proofs.Carried.{command, pins-carry}
use Rattle.memory.specs.Serving.{Sized}

-- ---- the column: neither A10 nor a pin above it disturbs it, and with 11 bits A11 is its bit 10

column-carried : (A10 : Bool) (n c : ℕ) → n ≤ 11 → c < 2 ^ n →
    column_pins A10 c % 2 ^ 10 % 2 ^ n + cond (eqb n 11) (2 ^ 10 * bit 11 (column_pins A10 c)) 0 ≡ c
column-carried A10 n c l f = go (eqb n 11) refl
  where
    small : (v : Bool) → cond v (2 ^ 10) 0 % 2 ^ 10 ≡ 0
    small true = refl
    small false = refl

    most : (v : Bool) → cond v (2 ^ 10) 0 ≤ 2 ^ 10
    most true = omega arith
    most false = omega arith

    low : column_pins A10 c % 2 ^ 10 ≡ c % 2 ^ 10
    low = omega (arith, small A10)

    eleven : c < 2 ^ 11 → column_pins A10 c % 2 ^ 10 % 2 ^ 11 + 2 ^ 10 * bit 11 (column_pins A10 c) ≡ c
    eleven g =
        let A11 : bit 11 (column_pins A10 c) ≡ c / 2 ^ 10 = omega (arith, most A10) in
        rw (low, A11) (omega arith)

    go : (b : Bool) → eqb n 11 ≡ b → column_pins A10 c % 2 ^ 10 % 2 ^ n + cond b (2 ^ 10 * bit 11 (column_pins A10 c)) 0 ≡ c
    go true e = rw (eqb-true n 11 e) (eleven (rw (eqb-true n 11 e) at f))
    go false e =
        let g : n ≤ 10 = omega (arith, eqb-false n 11 e) in
        let m : 2 ^ n ≤ 2 ^ 10 = pow_mono g in
        let k : c % 2 ^ 10 ≡ c = omega arith in
        rw (low, k, mod-eq_of_lt f) (omega arith)

A10-asked : (A10 : Bool) (c : ℕ) → eqb (bit 10 (column_pins A10 c)) 1 ≡ A10
A10-asked true c = let z : bit 10 (column_pins true c) ≡ 1 = omega arith in ap (λ (b : ℕ). eqb b 1) z
A10-asked false c = let z : bit 10 (column_pins false c) ≡ 0 = omega arith in ap (λ (b : ℕ). eqb b 1) z

pub column-pins-low : (A10 : Bool) (c : ℕ) → c < 2 ^ 11 → column_pins A10 c < 2 ^ 14
column-pins-low true c l = omega arith
column-pins-low false c l = omega arith

-- ---- the commands of a schedule

pub refresh-carried : command_of refresh_pins ≡ command AUTO-REFRESH 0 0
refresh-carried = pins-carry AUTO-REFRESH 0 0 (omega arith) (omega arith)

pub close-all-carried : command_of close_all_pins ≡ command PRECHARGE 0 (2 ^ 10)
close-all-carried = pins-carry PRECHARGE 0 (2 ^ 10) (omega arith) (omega arith)

abbrev pub close_command : Settings → ℕ → Command
close_command s q = command PRECHARGE (cell_bank s (first_cell q)) 0

abbrev pub active_command : Settings → ℕ → Command
active_command s q = command ACTIVE (cell_bank s (first_cell q)) (cell_row s (first_cell q))

-- with or without auto precharge
abbrev pub burst_command : Settings → ℕ → ℕ → Bool → Command
burst_command s q address auto =
    record { op = cond (asks_write q) WRITE READ; bank = cell_bank s (first_cell q); address = address; A10 = auto; low = false }

module _ (s : Settings) (f : Sized s) where
  pub column-back : (A10 : Bool) (c : ℕ) → c < 2 ^ s.column_bits → column_of s (column_pins A10 c) ≡ c
  column-back A10 c l = column-carried A10 s.column_bits c f.columns l

  module _ (q : ℕ) where
    pub column-small : cell_column s (first_cell q) < 2 ^ s.column_bits
    column-small = mod-lt (first_cell q) (pow_pos s.column_bits)

    module _ (fits : request_fits s q ≡ true) where
      pub bank-small : cell_bank s (first_cell q) < 4
      unfolding request_fits
      bank-small =
          ltb-true (cell_bank s (first_cell q)) 4
          ((and-eq-true_iff (eqb (q / 2 ^ 27 % 2 ^ 4) 0) (ltb (cell_bank s (first_cell q)) 4)).0 fits).1

      pub active-carried : command_of (active_pins s q) ≡ active_command s q
      active-carried =
          pins-carry ACTIVE (cell_bank s (first_cell q)) (cell_row s (first_cell q)) bank-small
          (omega (arith, mod-lt (first_cell q / 2 ^ s.column_bits) (pow_pos s.row_bits), pow_mono f.rows))

      pub close-carried : command_of (close_pins s q) ≡ close_command s q
      close-carried = pins-carry PRECHARGE (cell_bank s (first_cell q)) 0 bank-small (omega arith)

      pub burst-carried : (A10 : Bool) → command_of (burst_pins A10 s q) ≡ burst_command s q (column_pins A10 (cell_column s (first_cell q))) A10
      burst-carried A10 =
          let c = cell_column s (first_cell q) in
          let l : c < 2 ^ 11 = omega (arith, column-small, pow_mono f.columns) in
          pins-carry (cond (asks_write q) WRITE READ) (cell_bank s (first_cell q)) (column_pins A10 c) bank-small (column-pins-low A10 c l)
          ∙ (λ i. burst_command s q (column_pins A10 c) (A10-asked A10 c i))
