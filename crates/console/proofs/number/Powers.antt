-- What the proofs of `digit_count`, `decimal` and `hex` want of powers of a base.
use Prim.Native.Nat.{ℕ, zero, suc, ◌+◌, ◌-◌, ◌*◌, ◌^◌, ◌≤◌, ◌<◌}
use native.Mathlib.Nat.{le_of_suc-le-suc, mul_comm, pow-suc, one-le-pow, pow-le-pow_right, lt_of_not-le}
use native.Mathlib.Numerals.{add-one}
use native.Mathlib.Omega.{arith}
use mathlib.Core.Path.{◌≡◌, ap, subst, ◌∙◌}
use Rattle.std.specs.Prelude.{max, Option, Some, None, IfSome, IsSome, unwrap_or}
use Rattle.console.specs.Digits.{IsDigitCount}

-- the logarithm and one more is how many digits n takes; 0 takes one
pub digits_by_log : (n b width m : ℕ) (r : Option ℕ) → 1 < b → 0 < width → (0 < n → IsSome r) → IfSome r (λ k. b ^ k ≤ n)
    → IfSome r (λ k. n < b * b ^ k) → m ≡ max (unwrap_or r 0 + 1) width → IsDigitCount b width n m
digits_by_log zero b width m None h w some low high e = (omega (arith, e), one-le-pow m b (omega arith), λ more. absurd (omega (arith, e)))
digits_by_log (suc n) b width m None h w some low high e = absurd (cc (some (omega arith)))
digits_by_log n b width m (Some k) h w some low high e =
    let wider : b ^ (k + 1) ≤ b ^ m = pow-le-pow_right (omega arith) (omega (arith, e)) in
    let next : b ^ (k + 1) ≡ b ^ k * b = ap (λ (j : ℕ). b ^ j) (add-one k) ∙ pow-suc b k in (
      omega (arith, e),
      omega (arith, wider, next, high, mul_comm b (b ^ k)),
      λ more. let same : k ≡ m - 1 = omega (arith, e, more) in subst (λ (j : ℕ). b ^ j ≤ n) same low,
    )

digit_count_not_above : (b width n k most : ℕ) → 0 < b → IsDigitCount b width n k → width ≤ most → n < b ^ most → most < k → ⊥
digit_count_not_above b width n k most h fewest within holds over =
    let p : b ^ (k - 1) ≤ n = fewest.2 (omega arith) in
    let q : b ^ most ≤ b ^ (k - 1) = pow-le-pow_right h (omega arith) in
    omega arith

-- where `most` digits hold n, the fewest are no more
pub digit_count_le : (b width n k most : ℕ) → 0 < b → IsDigitCount b width n k → width ≤ most → n < b ^ most → k ≤ most
digit_count_le b width n k most h fewest within holds = le_of_suc-le-suc (lt_of_not-le (digit_count_not_above b width n k most h fewest within holds))
