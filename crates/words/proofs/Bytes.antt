-- Lists of bytes: what is made of bytes, and lists that are the same word by word.
use Prim.Native.Nat.{ℕ, zero, suc, ◌+◌, ◌*◌, ◌/◌, ◌%◌, ◌^◌, ◌<◌}
use mathlib.Core.List.{List, [], ◌∷◌, ◌++◌}
use mathlib.Core.Path.{◌≡◌, sym, ◌∙◌}
use native.Mathlib.Nat.{add-zero}
use native.Mathlib.Omega.{arith}
use lib.ListN.{length, get_or, take}
use lib.Seq.{ext_get_or}
use Rattle.reading.specs.Words.{word_at, word_bytes, bytes_of}

-- every number is a byte
abbrev pub Bytes : List ℕ → Type 0
Bytes l = (i : ℕ) → get_or l i 0 < 2 ^ 8

-- ---- words that are the same have the same bytes

pub word_same : (l m : List ℕ) (at : ℕ) → Bytes l → Bytes m → word_at l at ≡ word_at m at → (j : ℕ) → j < 4 →
    get_or l (at + j) 0 ≡ get_or m (at + j) 0
unfolding word_at
word_same l m at b c e zero k = rw (add-zero at) (omega (arith, b at, b (at + 1), b (at + 2), b (at + 3), c at, c (at + 1), c (at + 2), c (at + 3)))
word_same l m at b c e (suc zero) k = omega (arith, b at, b (at + 1), b (at + 2), b (at + 3), c at, c (at + 1), c (at + 2), c (at + 3))
word_same l m at b c e (suc (suc zero)) k = omega (arith, b at, b (at + 1), b (at + 2), b (at + 3), c at, c (at + 1), c (at + 2), c (at + 3))
word_same l m at b c e (suc (suc (suc zero))) k = omega (arith, b at, b (at + 1), b (at + 2), b (at + 3), c at, c (at + 1), c (at + 2), c (at + 3))
word_same l m at b c e (suc (suc (suc (suc j)))) k = absurd (omega arith)

-- lists of as many whole words
pub same-words : (l m : List ℕ) (k : ℕ) → Bytes l → Bytes m → length l ≡ 4 * k → length m ≡ 4 * k →
    ((i : ℕ) → i < k → word_at l (4 * i) ≡ word_at m (4 * i)) → l ≡ m
same-words l m k b c e f h =
    ext_get_or 0 l m (e ∙ sym f)
    (λ j n.
    let z : 4 * (j / 4) + j % 4 ≡ j = omega arith in
    rw z at (word_same l m (4 * (j / 4)) b c (h (j / 4) (omega arith)) (j % 4) (omega arith)))

-- ---- what is made of bytes

pub words-bytes : (ws : List ℕ) → Bytes (bytes_of ws)
unfolding bytes_of word_bytes
words-bytes [] i = omega arith
words-bytes (w ∷ ws) zero = omega arith
words-bytes (w ∷ ws) (suc zero) = omega arith
words-bytes (w ∷ ws) (suc (suc zero)) = omega arith
words-bytes (w ∷ ws) (suc (suc (suc zero))) = omega arith
words-bytes (w ∷ ws) (suc (suc (suc (suc i)))) = words-bytes ws i

pub joined_bytes : (l m : List ℕ) → Bytes l → Bytes m → Bytes (l ++ m)
joined_bytes [] m b c i = c i
joined_bytes (x ∷ l) m b c zero = b 0
joined_bytes (x ∷ l) m b c (suc i) = joined_bytes l m (λ j. b (suc j)) c i

pub first-bytes : (n : ℕ) (l : List ℕ) → Bytes l → Bytes (take n l)
first-bytes zero l b i = omega arith
first-bytes (suc n) [] b i = omega arith
first-bytes (suc n) (x ∷ l) b zero = b 0
first-bytes (suc n) (x ∷ l) b (suc i) = first-bytes n l (λ j. b (suc j)) i
