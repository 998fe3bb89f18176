-- Little-endian words of 32 bits, and of 16, in a list of bytes; bits of a word.
use Rattle.std.specs.Prelude.{ℕ, ◌+◌, ◌*◌, ◌/◌, ◌%◌, ◌^◌, List, [], ◌∷◌, ◌++◌, get_or}

-- the word whose lowest byte stands at `at`; past the end there are zeros
unfoldable pub word_at : List ℕ → ℕ → ℕ
word_at bytes at =
    get_or bytes at 0 + 2 ^ 8 * get_or bytes (at + 1) 0 + 2 ^ 16 * get_or bytes (at + 2) 0 + 2 ^ 24 * get_or bytes (at + 3) 0

unfoldable pub word_bytes : ℕ → List ℕ
word_bytes w = w % 2 ^ 8 ∷ w / 2 ^ 8 % 2 ^ 8 ∷ w / 2 ^ 16 % 2 ^ 8 ∷ w / 2 ^ 24 % 2 ^ 8 ∷ []

unfoldable pub bytes_of : List ℕ → List ℕ
bytes_of [] = []
bytes_of (w ∷ ws) = word_bytes w ++ bytes_of ws

-- the same of 16 bits
unfoldable pub half_at : List ℕ → ℕ → ℕ
half_at bytes at = get_or bytes at 0 + 2 ^ 8 * get_or bytes (at + 1) 0

unfoldable pub half_bytes : ℕ → List ℕ
half_bytes w = w % 2 ^ 8 ∷ w / 2 ^ 8 % 2 ^ 8 ∷ []

abbrev pub bit : ℕ → ℕ → ℕ
bit i w = w / 2 ^ i % 2
