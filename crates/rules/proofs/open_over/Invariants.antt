use Prim.Native.Nat.{◌+◌}
use mathlib.Core.Bool.{◌||◌}
use lib.Dec.{leb, eqb}
use Rattle.deadlines.specs.Deadlines.{OPENED, at}
use Rattle.reading.proofs.Laws.{Passed}
use Rattle.rules.proofs.open_over.Given as goal

abbrev pub invariant-banks : goal.invariant-banks
invariant-banks l = Passed (λ j. leb (at l.d (l.first + j)) l.t || eqb (at l.d (OPENED + j)) 0) l.i
