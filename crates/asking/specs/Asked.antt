-- The refusals of a question, in two parts.
use Rattle.std.specs.Prelude.{ℕ, not, ◌&&◌, List, leb, ltb}
use Rattle.reading.specs.Search.{given}
use Rattle.reading.specs.Answers.{Answer, answered, unless, accepted, verdict_in, not_clean}

-- 1 to 4, then 8
unfoldable pub clean_said : List ℕ → Answer (Unit {0})
clean_said capture = accepted capture (unless 8 (not_clean (verdict_in capture)) (answered tt))

-- of n events: 13, then 7 for the records
unfoldable pub question_said : ℕ → ℕ → ℕ → ℕ → Answer (Unit {0})
question_said n bank event records =
    unless 13 (given 0 (not (leb bank 3 && ltb event n))) (unless 7 (given 4 (ltb records 4)) (answered tt))
