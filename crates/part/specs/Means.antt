-- What an answer says in document 01's words: no rule is broken, or this is the lowest that is.
use Rattle.std.specs.Prelude.{ℕ, ⊤, Result, Ok, Err}
use Rattle.std.proofs.Math.Option.{Option, none, some}
use Rattle.rules.specs.declared.Rule.{Rule}
use Rattle.rules.specs.Rule.{number_of}

abbrev pub means : Result ⊤ Rule → Option ℕ
means (Ok done) = none
means (Err rule) = some (number_of rule)
