use mathlib.Core.Path.{◌≡◌}
use Rattle.effects.proofs.Resting.{rested}
use Rattle.effects.proofs.rest_all.Given as goal

abbrev pub invariant-banks : goal.invariant-banks
invariant-banks l = l.d ≡ rested l.initial.d l.from l.b
