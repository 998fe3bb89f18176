use Rattle.schedule.proofs.Filling.{Loading}
use Rattle.schedule.proofs.fourteen.Given as goal

abbrev pub invariant-settings : goal.invariant-settings
invariant-settings l = Loading l.settings l.s l.i
