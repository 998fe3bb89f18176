use Rattle.asking.proofs.Finding.{Telling}
use Rattle.asking.proofs.records_of.Given as goal

abbrev pub invariant-loop-bank : goal.invariant-loop-bank
invariant-loop-bank l = Telling l.fn.t.counts l.banks l.before l.bank
