-- The command of a pin word, by the four command pins as a number with CS# lowest; the reading writes CS# first.
use Prim.Native.Nat.{ℕ, ◌+◌, ◌*◌, ◌/◌, ◌%◌, ◌≤◌, ◌<◌}
use mathlib.Core.Bool.{true, false}
use mathlib.Core.Path.{◌≡◌, sym, ap, ◌∙◌}
use native.Mathlib.Nat.{div-div-eq-div-mul}
use native.Mathlib.Omega.{arith}
use borrow.Author.Tests.{eq-eqb, ne_eqb}
use Rattle.reading.specs.Commands.{op_of, command_of}
use Rattle.pins.specs.Pins.{code_of, wide_code_of, low_of}

abbrev pub turned : ℕ → ℕ
turned q = 8 * (q % 2) + 4 * (q / 2 % 2) + 2 * (q / 4 % 2) + q / 8 % 2

low-four : (v : ℕ) → turned v ≡ turned (v % 16)
low-four v = λ i. 8 * (bits.0 i) + 4 * (bits.1 i) + 2 * (bits.2 i) + bits.3 i
  where
    bits : (v % 2 ≡ v % 16 % 2) × (v / 2 % 2 ≡ v % 16 / 2 % 2) × (v / 4 % 2 ≡ v % 16 / 4 % 2) × (v / 8 % 2 ≡ v % 16 / 8 % 2)
    bits = (omega arith, omega arith, omega arith, omega arith)

pub op-is : (w : ℕ) → (command_of w).op ≡ op_of (turned (code_of w))
op-is w =
    let over : (k : ℕ) → w / (65536 * k) ≡ w / 65536 / k = λ k. sym (div-div-eq-div-mul w 65536 k) in
    ap op_of ((λ i. 8 * (w / 65536 % 2) + 4 * (over 2 i % 2) + 2 * (over 4 i % 2) + over 8 i % 2) ∙ low-four (w / 65536))

-- ---- the command pins and CKE, of the number that has both

module _ (w : ℕ) where
  wide_is : wide_code_of w ≡ code_of w + 16 * (w / 1048576 % 2)
  wide_is = omega arith

  pub low-is : {q : ℕ} → q ≡ wide_code_of w → 16 ≤ q → (low_of w ≡ true) × (q ≡ code_of w + 16)
  low-is e l = (eq-eqb (w / 1048576 % 2) 1 (omega (arith, wide_is, e)), omega (arith, wide_is, e))

  pub low-at : {q : ℕ} (k : ℕ) → q ≡ wide_code_of w → q ≡ k + 16 → (low_of w ≡ true) × (code_of w ≡ k)
  low-at k e f = let (l, c) = low-is e (omega (arith, f)) in (l, omega (arith, c, f))

  pub high-at : {q : ℕ} (k : ℕ) → q ≡ wide_code_of w → q ≡ k → k < 16 → (low_of w ≡ false) × (code_of w ≡ k)
  high-at k e f l = (ne_eqb (w / 1048576 % 2) 1 (λ o. omega (arith, wide_is, e, f)), omega (arith, wide_is, e, f))
