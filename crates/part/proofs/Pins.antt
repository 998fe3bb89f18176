-- NOP and DESELECT by the number of the five pins.
use Prim.Native.Nat.{ℕ, ◌+◌, ◌%◌, ◌≤◌}
use mathlib.Core.Bool.{Bool, true, false, ◌&&◌}
use mathlib.Core.List.{List, [], ◌∷◌}
use mathlib.Core.Logic.{inl, inr}
use mathlib.Core.Path.{◌≡◌, refl, ap, ◌∙◌}
use native.Mathlib.Omega.{arith}
use types.Run.{OneOf}
use lib.Dec.{leb, ltb}
use borrow.Author.Tests.{leb-true, ltb-true}
use Rattle.reading.specs.Search.{every}
use Rattle.reading.proofs.Laws.{both}
use Rattle.pins.specs.Pins.{code_of, wide_code_of, low_of, quiet_code}
use Rattle.pins.proofs.Pins.{low-is, high-at}

-- the numbers of DESELECT: CS# is high; 31 is in no arm
abbrev odd : List ℕ
odd = 1 ∷ 3 ∷ 5 ∷ 7 ∷ 9 ∷ 11 ∷ 13 ∷ 15 ∷ []

abbrev odd_low : List ℕ
odd_low = 17 ∷ 19 ∷ 21 ∷ 23 ∷ 25 ∷ 27 ∷ 29 ∷ []

-- what a test finds of each of some numbers it finds of one that is among them
among-them : (f : ℕ → Bool) (k : ℕ) (ks : List ℕ) → every f (k ∷ ks) ≡ true → (q : ℕ) → OneOf (k ∷ ks) q → f q ≡ true
among-them f k [] a q e = ap f e ∙ (both (f k) _ a).0
among-them f k (j ∷ ks) a q (inl e) = ap f e ∙ (both (f k) _ a).0
among-them f k (j ∷ ks) a q (inr m) = among-them f j ks (both (f k) _ a).1 q m

of-each : (f : ℕ → Bool) (ks : List ℕ) → every f ks ≡ true → (q : ℕ) → OneOf ks q → f q ≡ true
of-each f [] a q m = absurd m
of-each f (k ∷ ks) a q m = among-them f k ks a q m

module _ (w : ℕ) {q : ℕ} (told : q ≡ wide_code_of w) where
  quiet-code : quiet_code (q % 16) ≡ true → quiet_code (code_of w) ≡ true
  quiet-code n = let e : code_of w ≡ q % 16 = omega (arith, told) in ap quiet_code e ∙ n

  pub deselects : OneOf odd q → (low_of w ≡ false) × (quiet_code (code_of w) ≡ true)
  deselects o =
      let (n, l) = both (quiet_code (q % 16)) (ltb q 16) (of-each (λ k. quiet_code (k % 16) && ltb k 16) odd refl q o) in
      ((high-at w q told refl (ltb-true q 16 l)).0, quiet-code n)

  pub deselects-low : OneOf odd_low q → (low_of w ≡ true) × (quiet_code (code_of w) ≡ true)
  deselects-low o =
      let (n, l) = both (quiet_code (q % 16)) (leb 16 q) (of-each (λ k. quiet_code (k % 16) && leb 16 k) odd_low refl q o) in
      ((low-is w told (leb-true 16 q l)).0, quiet-code n)

next_up : {q : ℕ} (k : ℕ) → k ≤ q → (q ≡ k → ⊥) → k + 1 ≤ q
next_up k l n = omega (arith, l, n)

abbrev Unlisted : ℕ → Type 0
Unlisted q =
    ((((((((Unit {0} × (q ≡ 12 → ⊥)) × (q ≡ 10 → ⊥)) × (q ≡ 2 → ⊥)) × (q ≡ 4 → ⊥)) × (q ≡ 6 → ⊥)) × (q ≡ 8 → ⊥)) × (q ≡ 0 → ⊥)) × (q ≡ 14 → ⊥))
    × (OneOf odd q → ⊥)

-- what stands in no arm before has CKE low
pub beyond : {q : ℕ} → Unlisted q → 16 ≤ q
beyond left =
    let l₁ = next_up 0 (omega arith) left.0.0.1 in
    let l₂ = next_up 1 l₁ (λ e. left.1 (inl e)) in
    let l₃ = next_up 2 l₂ left.0.0.0.0.0.0.1 in
    let l₄ = next_up 3 l₃ (λ e. left.1 (inr (inl e))) in
    let l₅ = next_up 4 l₄ left.0.0.0.0.0.1 in
    let l₆ = next_up 5 l₅ (λ e. left.1 (inr (inr (inl e)))) in
    let l₇ = next_up 6 l₆ left.0.0.0.0.1 in
    let l₈ = next_up 7 l₇ (λ e. left.1 (inr (inr (inr (inl e))))) in
    let l₉ = next_up 8 l₈ left.0.0.0.1 in
    let l₁₀ = next_up 9 l₉ (λ e. left.1 (inr (inr (inr (inr (inl e)))))) in
    let l₁₁ = next_up 10 l₁₀ left.0.0.0.0.0.0.0.1 in
    let l₁₂ = next_up 11 l₁₁ (λ e. left.1 (inr (inr (inr (inr (inr (inl e))))))) in
    let l₁₃ = next_up 12 l₁₂ left.0.0.0.0.0.0.0.0.1 in
    let l₁₄ = next_up 13 l₁₃ (λ e. left.1 (inr (inr (inr (inr (inr (inr (inl e)))))))) in
    let l₁₅ = next_up 14 l₁₄ left.0.1 in
    next_up 15 l₁₅ (λ e. left.1 (inr (inr (inr (inr (inr (inr (inr e))))))))
