use Rattle.trials.proofs.Storing.{Storing}
use Rattle.trials.proofs.store_settings.Given as goal

abbrev pub invariant-loop-i : goal.invariant-loop-i
invariant-loop-i l = Storing l.list l.initial.out l.out l.i
