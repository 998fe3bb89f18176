-- The mode word: burst length, order, latency.
use Rattle.std.specs.Prelude.{ℕ, ◌/◌, ◌%◌, ◌^◌, Bool, ◌&&◌, ◌||◌, leb, ltb, eqb}
use Rattle.reading.specs.Words.{bit}

-- bits 0-2 are 1, 2, 3, 4 for a burst length of 2, 4, 8, 16
abbrev pub BL : ℕ → ℕ
BL m = 2 ^ (m % 8)

abbrev pub h : ℕ → ℕ
h m = BL m / 2

-- bit 3 is 0 sequential, 1 interleaved
abbrev pub interleaved : ℕ → Bool
interleaved m = eqb (bit 3 m) 1

-- bits 4-6 are the latency
abbrev pub CL : ℕ → ℕ
CL m = m / 2 ^ 4 % 8

-- a mode word has a burst length, a latency of 2 or 3, and nothing above bit 6
abbrev pub mode_word : ℕ → Bool
mode_word m = leb 1 (m % 8) && leb (m % 8) 4 && (eqb (CL m) 2 || eqb (CL m) 3) && ltb m (2 ^ 7)
