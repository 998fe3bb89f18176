-- The version, as one number that grows with it. It is said here: the code is held to it, tools/archive reads it for all
-- that is sent, and the programs print it. The first number rises when a call answers something else to an input, or is
-- called in another way; the second when there is more to call or more is accepted; the third for everything else.
use Rattle.std.specs.Prelude.{ℕ, ◌+◌, ◌*◌}

-- version 1.2.3 is 10203
abbrev pub numbered : ℕ → ℕ → ℕ → ℕ
numbered first second third = 10000 * first + 100 * second + third

abbrev pub version : ℕ
version = numbered 4 1 0
