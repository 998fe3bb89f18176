-- What a search answers.
use Rattle.std.specs.Prelude.{ℕ, Some, None}
use Rattle.std.specs.Prelude as std
use Rattle.std.proofs.Math.Option.{Option, none, some}

-- the place that was found, if any
abbrev pub place_of : std.Option ℕ → Option ℕ
place_of None = none
place_of (Some i) = some i
