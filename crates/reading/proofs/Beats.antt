-- Beats of a burst: they stay in the block and are pairwise different, once over the length 2 ^ k. And the cells of several bursts.
use Prim.Native.Nat.{ℕ, zero, suc, ◌+◌, ◌-◌, ◌*◌, ◌/◌, ◌%◌, ◌^◌, ◌≤◌, ◌<◌}
use mathlib.Core.Bool.{Bool, true, false, cond}
use mathlib.Core.List.{List, [], ◌∷◌, ◌++◌, append_assoc}
use mathlib.Core.Logic.{◌⊎◌, inl, inr}
use mathlib.Core.Path.{◌≡◌, refl, sym, ap, ◌∙◌}
use native.Mathlib.Decide.{dec_lt}
use native.Mathlib.Nat.{mod-lt, mod-add-mod, mod-eq_of_lt, mod-eq-sub-mod}
use native.Mathlib.Omega.{arith}
use lib.Arith.{bin_ind, digits_div}
use lib.Bits.{bit_xor, xor_lt, xor_step, differ}
use lib.Pow.{pow_pos}
use Rattle.reading.specs.Mode.{BL, h, interleaved}
use Rattle.reading.specs.Settings.{Settings}
use Rattle.reading.specs.Bursts.{Burst, place, beat_column, burst_cells}
use Rattle.reading.specs.Cells.{cells_of}

-- ---- xor with one number tells two others apart

differ-lt : (x y : ℕ) → x < 2 → y < 2 → differ x y < 2
differ-lt zero y hx hy = hy
differ-lt (suc x) zero hx hy = hx
differ-lt (suc x) (suc y) hx hy = differ-lt x y (omega arith) (omega arith)

differ-inj : (x y z : ℕ) → x < 2 → y < 2 → z < 2 → differ x y ≡ differ x z → y ≡ z
differ-inj zero y z hx hy hz e = e
differ-inj (suc zero) zero zero hx hy hz e = refl
differ-inj (suc zero) zero (suc z) hx hy hz e = omega arith
differ-inj (suc zero) (suc y) zero hx hy hz e = omega arith
differ-inj (suc zero) (suc y) (suc z) hx hy hz e = ap suc e
differ-inj (suc (suc x)) y z hx hy hz e = omega arith

digit-inj : (p q x y : ℕ) → x < 2 → y < 2 → p * 2 + x ≡ q * 2 + y → (p ≡ q) × (x ≡ y)
digit-inj p q x y hx hy e = (omega arith, omega arith)

xor-inj : (a x y : ℕ) → bit_xor a x ≡ bit_xor a y → x ≡ y
xor-inj a =
    bin_ind (λ (n : ℕ). (x y : ℕ) → bit_xor n x ≡ bit_xor n y → x ≡ y) (λ x y e. e)
    (λ n ih x y e.
    let m : (v : ℕ) → v % 2 < 2 = λ v. omega arith in
    let d = digit-inj (bit_xor (n / 2) (x / 2)) (bit_xor (n / 2) (y / 2)) (differ (n % 2) (x % 2)) (differ (n % 2) (y % 2))
    (differ-lt (n % 2) (x % 2) (m n) (m x)) (differ-lt (n % 2) (y % 2) (m n) (m y))
    (sym (xor_step n x) ∙ e ∙ xor_step n y) in
    let hi : x / 2 ≡ y / 2 = ih (x / 2) (y / 2) d.0 in
    let lo : x % 2 ≡ y % 2 = differ-inj (n % 2) (x % 2) (y % 2) (m n) (m x) (m y) d.1 in
    omega arith) a

-- ---- counting on, modulo n, tells two numbers below n apart

mod2 : (n m : ℕ) → m < n + n → ((m % n ≡ m) × (m < n)) ⊎ (m % n + n ≡ m)
mod2 n m h = go (dec_lt m n)
  where
    go : Dec (m < n) → ((m % n ≡ m) × (m < n)) ⊎ (m % n + n ≡ m)
    go (yes l) = inl (mod-eq_of_lt l, l)
    go (no f) =
        let l : n ≤ m = omega arith in
        let e : m % n ≡ m - n = mod-eq-sub-mod l ∙ mod-eq_of_lt (omega arith) in
        inr (omega arith)

count-inj : (n c i j : ℕ) → 0 < n → i < n → j < n → (c + i) % n ≡ (c + j) % n → i ≡ j
count-inj n c i j hn hi hj e = go (mod2 n (c % n + i) (omega (arith, hr, e'))) (mod2 n (c % n + j) (omega (arith, hr, e')))
  where
    hr : c % n < n
    hr = mod-lt c hn

    e' : (c % n + i) % n ≡ (c % n + j) % n
    e' = mod-add-mod c n i ∙ e ∙ sym (mod-add-mod c n j)

    go : (((c % n + i) % n ≡ c % n + i) × (c % n + i < n)) ⊎ ((c % n + i) % n + n ≡ c % n + i)
        → (((c % n + j) % n ≡ c % n + j) × (c % n + j < n)) ⊎ ((c % n + j) % n + n ≡ c % n + j) → i ≡ j
    go (inl p) (inl q) = omega (arith, hr, e')
    go (inl p) (inr q) = omega (arith, hr, e')
    go (inr p) (inl q) = omega (arith, hr, e')
    go (inr p) (inr q) = omega (arith, hr, e')

-- ---- either order

placed-lt : (b : Bool) (k c j : ℕ) → j < 2 ^ k → cond b (bit_xor (c % 2 ^ k) j) ((c + j) % 2 ^ k) < 2 ^ k
placed-lt false k c j h = mod-lt (c + j) (pow_pos k)
placed-lt true k c j h = xor_lt k (c % 2 ^ k) j (mod-lt c (pow_pos k)) h

placed-inj : (b : Bool) (k c i j : ℕ) → i < 2 ^ k → j < 2 ^ k →
    cond b (bit_xor (c % 2 ^ k) i) ((c + i) % 2 ^ k) ≡ cond b (bit_xor (c % 2 ^ k) j) ((c + j) % 2 ^ k) → i ≡ j
placed-inj false k c i j hi hj e = count-inj (2 ^ k) c i j (pow_pos k) hi hj e
placed-inj true k c i j hi hj e = xor-inj (c % 2 ^ k) i j e

module _ (m c : ℕ) where
  pub place-lt : (j : ℕ) → j < BL m → place m c j < BL m
  unfolding place
  place-lt j h = placed-lt (interleaved m) (m % 8) c j h

  -- the beats stay in the block of BL columns that holds c
  pub beat-block : (j : ℕ) → j < BL m → beat_column m c j / BL m ≡ c / BL m
  unfolding beat_column
  beat-block j h = digits_div (c / BL m) (place-lt j h)

  -- no two of them share a column
  pub beat-distinct : (i j : ℕ) → i < BL m → j < BL m → beat_column m c i ≡ beat_column m c j → i ≡ j
  unfolding beat_column place
  beat-distinct i j hi hj e = placed-inj (interleaved m) (m % 8) c i j hi hj (omega arith)

-- h pairs are BL beats, for every length
pub pairs-are-beats : (m : ℕ) → 1 ≤ m % 8 → 2 * h m ≡ BL m
pairs-are-beats m l = go (m % 8) l
  where
    go : (k : ℕ) → 1 ≤ k → 2 * (2 ^ k / 2) ≡ 2 ^ k
    go zero g = absurd (omega arith)
    go (suc k) g = omega arith

-- ---- bursts one behind the other

pub cells-append : (s : Settings) (xs ys : List Burst) → cells_of s (xs ++ ys) ≡ cells_of s xs ++ cells_of s ys
unfolding cells_of
cells-append s [] ys = refl
cells-append s (x ∷ xs) ys =
    ap (λ (cs : List ℕ). burst_cells s x ++ cs) (cells-append s xs ys) ∙ sym (append_assoc (burst_cells s x) (cells_of s xs) (cells_of s ys))
