use lib.Dec.{leb}
use Rattle.deadlines.specs.Deadlines.{other_bank}
use Rattle.reading.proofs.Laws.{Passed}
use Rattle.rules.proofs.others_apart.Given as goal

abbrev pub invariant-banks : goal.invariant-banks
invariant-banks l = Passed (λ j. leb (other_bank l.d l.b j) l.t) l.i
