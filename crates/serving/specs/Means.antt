-- What a turn says in document 01's words: no refusal, or the number of the one that is given where refresh cannot be kept.
use Rattle.std.specs.Prelude.{ℕ, Result, Ok, Err}
use Rattle.std.proofs.Math.Option.{Option, none, some}
use Rattle.serving.specs.declared.Late.{Late}

abbrev pub means : Result (Unit {0}) Late → Option ℕ
means (Ok x) = none
means (Err late) = some 6
