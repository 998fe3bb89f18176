-- Words of 16 bits in bytes: what is written is read back; and words of either length, read from bytes, are those bytes.
use Prim.Native.Nat.{ℕ, ◌+◌, ◌*◌, ◌/◌, ◌%◌, ◌^◌, ◌<◌}
use native.Mathlib.Nat.{add_assoc}
use native.Mathlib.Omega.{arith}
use mathlib.Core.Path.{◌≡◌}
use mathlib.Core.List.{List, [], ◌∷◌, ◌++◌}
use lib.ListN.{get_or, drop}
use lib.Seq.{get_or-drop}
use Rattle.reading.specs.Words.{word_at, word_bytes, half_at, half_bytes}
use Rattle.words.proofs.Bytes.{Bytes}

-- ---- written, then read

-- of a part from n on
pub half-drop : (n : ℕ) (l : List ℕ) (at : ℕ) → half_at (drop n l) at ≡ half_at l (n + at)
unfolding half_at
half-drop n l at = rw (get_or-drop n l at 0, get_or-drop n l (at + 1) 0, add_assoc n at 1)

pub first-half : (w : ℕ) (l : List ℕ) → w < 2 ^ 16 → half_at (half_bytes w ++ l) 0 ≡ w
unfolding half_at half_bytes
first-half w l h = omega arith

pub half-fits : (l : List ℕ) (at : ℕ) → Bytes l → half_at l at < 2 ^ 16
unfolding half_at
half-fits l at b = omega (arith, b at, b (at + 1))

-- ---- read, then written

module _ (l : List ℕ) (at : ℕ) (b : Bytes l) where
  pub half-again : half_bytes (half_at l at) ≡ get_or l at 0 ∷ get_or l (at + 1) 0 ∷ []
  unfolding half_at half_bytes
  half-again i = low i ∷ high i ∷ []
    where
      low : (get_or l at 0 + 2 ^ 8 * get_or l (at + 1) 0) % 2 ^ 8 ≡ get_or l at 0
      low = omega (arith, b at, b (at + 1))

      high : (get_or l at 0 + 2 ^ 8 * get_or l (at + 1) 0) / 2 ^ 8 % 2 ^ 8 ≡ get_or l (at + 1) 0
      high = omega (arith, b at, b (at + 1))

  pub word-again : word_bytes (word_at l at) ≡ get_or l at 0 ∷ get_or l (at + 1) 0 ∷ get_or l (at + 2) 0 ∷ get_or l (at + 3) 0 ∷ []
  unfolding word_at word_bytes
  word-again = go (get_or l at 0) (get_or l (at + 1) 0) (get_or l (at + 2) 0) (get_or l (at + 3) 0) (b at) (b (at + 1)) (b (at + 2)) (b (at + 3))
    where
      go : (p q r s : ℕ) → p < 2 ^ 8 → q < 2 ^ 8 → r < 2 ^ 8 → s < 2 ^ 8 →
          word_bytes (p + 2 ^ 8 * q + 2 ^ 16 * r + 2 ^ 24 * s) ≡ p ∷ q ∷ r ∷ s ∷ []
      go p q r s hp hq hr hs i = first i ∷ second i ∷ third i ∷ fourth i ∷ []
        where
          w : ℕ
          w = p + 2 ^ 8 * q + 2 ^ 16 * r + 2 ^ 24 * s

          first : w % 2 ^ 8 ≡ p
          first = omega arith

          second : w / 2 ^ 8 % 2 ^ 8 ≡ q
          second = omega arith

          third : w / 2 ^ 16 % 2 ^ 8 ≡ r
          third = omega arith

          fourth : w / 2 ^ 24 % 2 ^ 8 ≡ s
          fourth = omega arith
