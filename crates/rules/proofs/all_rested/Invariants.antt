use Prim.Native.Nat.{◌+◌}
use lib.Dec.{leb}
use Rattle.deadlines.specs.Deadlines.{REST, at}
use Rattle.reading.proofs.Laws.{Passed}
use Rattle.rules.proofs.all_rested.Given as goal

abbrev pub invariant-banks : goal.invariant-banks
invariant-banks l = Passed (λ j. leb (at l.d (REST + j)) l.t) l.i
