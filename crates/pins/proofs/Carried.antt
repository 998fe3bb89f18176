-- The pins of a command carry it, and have no bit above the pins.
use Prim.Native.Nat.{ℕ, ◌+◌, ◌*◌, ◌/◌, ◌%◌, ◌^◌, ◌<◌}
use mathlib.Core.Bool.{false}
use mathlib.Core.Path.{◌≡◌, refl}
use native.Mathlib.Omega.{arith}
use lib.Dec.{eqb}
use lib.Pow.{high}
use Rattle.reading.specs.Words.{bit}
use Rattle.reading.specs.Commands.{Op, ACTIVE, READ, WRITE, BURST-TERMINATE, PRECHARGE, AUTO-REFRESH, MODE-REGISTER-SET, NOP, DESELECT, Command, code, op_of, command_of, pins_of}

abbrev pub command : Op → ℕ → ℕ → Command
command o bank address = record { op = o; bank = bank; address = address; A10 = eqb (bit 10 address) 1; low = false }

op-back : (o : Op) → op_of (8 * bit 3 (code o) + 4 * bit 2 (code o) + 2 * bit 1 (code o) + bit 0 (code o)) ≡ o
op-back ACTIVE = refl
op-back READ = refl
op-back WRITE = refl
op-back BURST-TERMINATE = refl
op-back PRECHARGE = refl
op-back AUTO-REFRESH = refl
op-back MODE-REGISTER-SET = refl
op-back NOP = refl
op-back DESELECT = refl

-- bit j of a word that is put together of what lies below, at and above it
bit_at : (j w below x above : ℕ) → below < 2 ^ j → x < 2 → w ≡ (x + 2 * above) * 2 ^ j + below → bit j w ≡ x
bit_at j w below x above hb hx e = rw (e, high (x + 2 * above) j hb) (omega arith)

-- the pin word of a command with the code k
abbrev word : ℕ → ℕ → ℕ → ℕ
word k bank address = address + 2 ^ 14 * bank + 2 ^ 16 * bit 3 k + 2 ^ 17 * bit 2 k + 2 ^ 18 * bit 1 k + 2 ^ 19 * bit 0 k

module _ (k bank address : ℕ) (hb : bank < 4) (ha : address < 2 ^ 14) where
  -- CS#, RAS#, CAS#, WE#
  code-carried : (bit 16 (word k bank address) ≡ bit 3 k) × (bit 17 (word k bank address) ≡ bit 2 k)
      × (bit 18 (word k bank address) ≡ bit 1 k) × (bit 19 (word k bank address) ≡ bit 0 k)
  code-carried =
      let w = word k bank address in
      let low = address + 2 ^ 14 * bank in (
        bit_at 16 w low (bit 3 k) (bit 2 k + 2 * (bit 1 k + 2 * bit 0 k)) (omega arith) (omega arith) (omega arith),
        bit_at 17 w (low + 2 ^ 16 * bit 3 k) (bit 2 k) (bit 1 k + 2 * bit 0 k) (omega arith) (omega arith) (omega arith),
        bit_at 18 w (low + 2 ^ 16 * bit 3 k + 2 ^ 17 * bit 2 k) (bit 1 k) (bit 0 k) (omega arith) (omega arith) (omega arith),
        bit_at 19 w (low + 2 ^ 16 * bit 3 k + 2 ^ 17 * bit 2 k + 2 ^ 18 * bit 1 k) (bit 0 k) 0 (omega arith) (omega arith) (omega arith),
      )

  bank-carried : word k bank address / 2 ^ 14 % 4 ≡ bank
  bank-carried = omega arith

  address-carried : word k bank address % 2 ^ 14 ≡ address
  address-carried = omega arith

  A10-carried : bit 10 (word k bank address) ≡ bit 10 address
  A10-carried = omega arith

  low-carried : bit 20 (word k bank address) ≡ 0
  low-carried = omega arith

pub pins-carry : (o : Op) (bank address : ℕ) → bank < 4 → address < 2 ^ 14 → command_of (pins_of o bank address) ≡ command o bank address
pins-carry o bank address hb ha =
    let (c, r, a, w) = code-carried (code o) bank address hb ha in
    let op : (command_of (pins_of o bank address)).op ≡ o = rw (c, r, a, w) (op-back o) in
    λ i.
    record {
      op = op i;
      bank = bank-carried (code o) bank address hb ha i;
      address = address-carried (code o) bank address hb ha i;
      A10 = eqb (A10-carried (code o) bank address hb ha i) 1;
      low = eqb (low-carried (code o) bank address hb ha i) 1;
    }

pub pins-small : (o : Op) (bank address : ℕ) → bank < 4 → address < 2 ^ 14 → pins_of o bank address < 2 ^ 20
pins-small o bank address hb ha = omega arith
