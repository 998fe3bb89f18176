-- The kinds of events whose last one is listed however long ago it was.
use Rattle.std.specs.Prelude.{ℕ, cond, eqb}
use Rattle.pins.specs.Pins.{code_of, bank_of, low_of}

-- ACTIVE of bank 0 to 3, AUTO REFRESH 4, MODE REGISTER SET 5, any other 8
abbrev pub command_kind_of : ℕ → ℕ
command_kind_of w =
    cond (eqb (code_of w) 12) (bank_of w)
    (cond (eqb (code_of w) 8) 4
    (cond (eqb (code_of w) 0) 5 8))

-- CKE falls 6, CKE rises 7, by the event before
abbrev pub kind_of : ℕ → ℕ → ℕ
kind_of before w = cond (low_of w) (cond (low_of before) 8 6) (cond (low_of before) 7 (command_kind_of w))
