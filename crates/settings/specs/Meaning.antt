-- What document 01 says of a list of settings, and the list of words that holds them.
use Rattle.std.specs.Prelude.{ℕ, ◌+◌, ◌-◌, not, List, ◌++◌, length, replicate, set, eqb}
use Rattle.std.proofs.Math.Option.{Option}
use Rattle.reading.specs.Search.{or_else, given}
use Rattle.reading.specs.Settings.{sleeping_count, settings_of, out_of_range, contradiction, bad_setting}
use Rattle.reading.specs.Answers.{Answer, answered, unless}

-- refusals 2 and 3 of a list of settings
unfoldable pub checked : List ℕ → Answer (Unit {0})
checked ws =
    unless 2 (given 0 (not (eqb (length ws) 14)))
    (unless 3 (bad_setting ws) (answered tt))

-- refusal 3 of the first n words of a list
abbrev pub bad_among : List ℕ → ℕ → Option ℕ
bad_among ws n = or_else (out_of_range ws n) (contradiction (settings_of ws))

-- the settings and the edition, from a list of words: what it does not have is 0
abbrev pub held_count : ℕ
held_count = sleeping_count + 1

unfoldable pub padded : List ℕ → List ℕ
padded ws = ws ++ replicate (held_count - length ws) 0

-- the same with the edition
unfoldable pub held : ℕ → List ℕ → List ℕ
held edition ws = set (padded ws) sleeping_count edition
