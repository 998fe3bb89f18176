use Rattle.banks.proofs.Filling.{Filled}
use Rattle.banks.proofs.fill.Given as goal

abbrev pub invariant-loop-bank : goal.invariant-loop-bank
invariant-loop-bank l = Filled l.told l.fn.records l.n l.first l.bank
