-- The burst tables of the data sheets: a row of a table as it is printed, and that the arithmetic of a beat's place gives
-- every row, for every length 2 ^ k and both orders.
use Prim.Native.Nat.{ℕ, zero, suc, ◌+◌, ◌-◌, ◌*◌, ◌/◌, ◌%◌, ◌^◌, ◌≤◌, ◌<◌}
use mathlib.Core.Bool.{Bool, true, false, cond}
use mathlib.Core.List.{List, [], ◌∷◌, ◌++◌, map, map-append}
use mathlib.Core.Path.{◌≡◌, refl, sym, ap, ◌∙◌}
use native.Mathlib.Nat.{mod-lt, mod-add-mod, mod-eq_of_lt, mod-eq-sub-mod}
use native.Mathlib.Omega.{arith}
use lib.Bits.{bit_xor, xor_step, differ}
use lib.Pow.{pow_pos}
use Rattle.reading.specs.Search.{count}
use Rattle.reading.specs.Mode.{BL, interleaved}
use Rattle.reading.specs.Bursts.{place}

-- ---- the tables

-- of each two columns that stand side by side, first the one on the side that the burst starts on
abbrev pub sides : ℕ → List ℕ → List ℕ
sides side [] = []
sides side (pair ∷ pairs) = (pair * 2 + side) ∷ (pair * 2 + (1 - side)) ∷ sides side pairs

-- interleaved: the pairs of columns come in the order of the table of half the length
abbrev pub interleaved_row : ℕ → ℕ → List ℕ
interleaved_row zero start = 0 ∷ []
interleaved_row (suc k) start = sides (start % 2) (interleaved_row k (start / 2))

-- sequential: up to the last column of the block, then from its first
abbrev pub sequential_row : ℕ → ℕ → List ℕ
sequential_row k start = count start (2 ^ k - start) ++ count 0 start

-- the row of a starting column in the table for bursts of 2 ^ k
abbrev pub table_row : Bool → ℕ → ℕ → List ℕ
table_row true k start = interleaved_row k start
table_row false k start = sequential_row k start

-- ---- counting

-- what counts on from `a` while its argument counts on from `from`
counts : (f : ℕ → ℕ) (a from n : ℕ) → ((i : ℕ) → from ≤ i → i < from + n → f i + from ≡ a + i) → map f (count from n) ≡ count a n
counts f a from zero h = refl
counts f a from (suc n) h =
    let first : f from ≡ a = omega (arith, h from (omega arith) (omega arith)) in
    let rest = counts f (suc a) (suc from) n (λ i l u. omega (arith, h i (omega (arith, l)) (omega (arith, u)))) in
    λ i. first i ∷ rest i

count-split : (from a b : ℕ) → count from (a + b) ≡ count from a ++ count (from + a) b
count-split from zero b = let e : from ≡ from + 0 = omega arith in let z : 0 + b ≡ b = omega arith in λ i. count (e i) (z i)
count-split from (suc a) b =
    let more : suc a + b ≡ suc (a + b) = omega arith in
    let on : suc from + a ≡ from + suc a = omega arith in
    ap (count from) more
    ∙ ap (λ (xs : List ℕ). from ∷ xs) (count-split (suc from) a b ∙ ap (λ (k : ℕ). count (suc from) a ++ count k b) on)

-- ---- sequential

module _ (k c : ℕ) where
  abbrev start : ℕ
  start = c % 2 ^ k

  abbrev at : ℕ → ℕ
  at j = (c + j) % 2 ^ k

  low : start < 2 ^ k
  low = mod-lt c (pow_pos k)

  from_start : (j : ℕ) → at j ≡ (start + j) % 2 ^ k
  from_start j = sym (mod-add-mod c (2 ^ k) j)

  to-the-last : map at (count 0 (2 ^ k - start)) ≡ count start (2 ^ k - start)
  to-the-last =
      counts at start 0 (2 ^ k - start)
      (λ j l u. let e = from_start j ∙ mod-eq_of_lt (omega (arith, low, u)) in omega (arith, e))

  from-the-first : map at (count (0 + (2 ^ k - start)) start) ≡ count 0 start
  from-the-first =
      counts at 0 (0 + (2 ^ k - start)) start
      (λ j l u.
      let round : 2 ^ k ≤ start + j = omega (arith, low, l) in
      let e = from_start j ∙ mod-eq-sub-mod round ∙ mod-eq_of_lt (omega (arith, low, l, u)) in
      omega (arith, e, low, l, u))

  sequential-row : map at (count 0 (2 ^ k)) ≡ sequential_row k start
  sequential-row =
      let whole : 2 ^ k ≡ 2 ^ k - start + start = omega (arith, low) in
      ap (λ (n : ℕ). map at (count 0 n)) whole ∙ ap (map at) (count-split 0 (2 ^ k - start) start)
      ∙ map-append at (count 0 (2 ^ k - start)) (count (0 + (2 ^ k - start)) start) ∙ λ i. to-the-last i ++ from-the-first i

-- ---- interleaved

sides-of : (s i : ℕ) → (bit_xor s (2 * i) ≡ bit_xor (s / 2) i * 2 + s % 2) × (bit_xor s (suc (2 * i)) ≡ bit_xor (s / 2) i * 2 + (1 - s % 2))
sides-of s i = (even, odd)
  where
    first : (b : ℕ) → differ b 0 ≡ b
    first zero = refl
    first (suc b) = refl

    second : (b : ℕ) → b < 2 → differ b 1 ≡ 1 - b
    second zero l = refl
    second (suc zero) l = refl
    second (suc (suc b)) l = absurd (omega (arith, l))

    even : bit_xor s (2 * i) ≡ bit_xor (s / 2) i * 2 + s % 2
    even =
        let hi : 2 * i / 2 ≡ i = omega arith in
        let lo : 2 * i % 2 ≡ 0 = omega arith in
        xor_step s (2 * i) ∙ (λ j. bit_xor (s / 2) (hi j) * 2 + differ (s % 2) (lo j))
        ∙ ap (λ (b : ℕ). bit_xor (s / 2) i * 2 + b) (first (s % 2))

    odd : bit_xor s (suc (2 * i)) ≡ bit_xor (s / 2) i * 2 + (1 - s % 2)
    odd =
        let hi : suc (2 * i) / 2 ≡ i = omega arith in
        let lo : suc (2 * i) % 2 ≡ 1 = omega arith in
        xor_step s (suc (2 * i)) ∙ (λ j. bit_xor (s / 2) (hi j) * 2 + differ (s % 2) (lo j))
        ∙ ap (λ (b : ℕ). bit_xor (s / 2) i * 2 + b) (second (s % 2) (omega arith))

doubled : (s i n : ℕ) → map (bit_xor s) (count (2 * i) (2 * n)) ≡ sides (s % 2) (map (bit_xor (s / 2)) (count i n))
doubled s i zero = refl
doubled s i (suc n) =
    let more : 2 * suc n ≡ suc (suc (2 * n)) = omega arith in
    let on : suc (suc (2 * i)) ≡ 2 * suc i = omega arith in
    let two = sides-of s i in
    let rest : map (bit_xor s) (count (suc (suc (2 * i))) (2 * n)) ≡ sides (s % 2) (map (bit_xor (s / 2)) (count (suc i) n)) =
    ap (λ (a : ℕ). map (bit_xor s) (count a (2 * n))) on ∙ doubled s (suc i) n in
    ap (λ (k : ℕ). map (bit_xor s) (count (2 * i) k)) more ∙ λ j. two.0 j ∷ two.1 j ∷ rest j

interleaved-row : (k s : ℕ) → s < 2 ^ k → map (bit_xor s) (count 0 (2 ^ k)) ≡ interleaved_row k s
interleaved-row zero s l = let e : s ≡ 0 = omega (arith, l) in ap (λ (a : ℕ). bit_xor a 0 ∷ []) e
interleaved-row (suc k) s l =
    let twice : 2 ^ suc k ≡ 2 * 2 ^ k = omega arith in
    ap (λ (n : ℕ). map (bit_xor s) (count 0 n)) twice ∙ doubled s 0 (2 ^ k)
    ∙ ap (sides (s % 2)) (interleaved-row k (s / 2) (omega (arith, l, twice)))

-- ---- either order

placed_row : (b : Bool) (k c : ℕ) →
    map (λ j. cond b (bit_xor (c % 2 ^ k) j) ((c + j) % 2 ^ k)) (count 0 (2 ^ k)) ≡ table_row b k (c % 2 ^ k)
placed_row true k c = interleaved-row k (c % 2 ^ k) (mod-lt c (pow_pos k))
placed_row false k c = sequential-row k c

-- The places of a burst's beats, in their order, are a row of the tables: that of its length, its order and its starting
-- column.
pub row-published : (m c : ℕ) → map (place m c) (count 0 (BL m)) ≡ table_row (interleaved m) (m % 8) (c % BL m)
unfolding place
row-published m c = placed_row (interleaved m) (m % 8) c
