-- Words that are stored where there is room for them.
use Rattle.std.specs.Prelude.{ℕ, zero, suc, ◌+◌, ◌*◌, cond, List, ltb, length, get_or}
use Rattle.std.proofs.lemmas.List.Edits.{sets}
use Rattle.reading.specs.Words.{word_bytes}

abbrev pub stored : List ℕ → ℕ → ℕ → List ℕ
stored out at w = cond (ltb (length out) (at + 4)) out (sets out at (word_bytes w))

-- n settings of a list from number i on, at their places in a capture
abbrev pub stored_from : List ℕ → List ℕ → ℕ → ℕ → List ℕ
stored_from out list i zero = out
stored_from out list i (suc n) = stored_from (stored out (24 + 4 * i) (get_or list i 0)) list (i + 1) n
