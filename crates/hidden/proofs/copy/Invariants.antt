use Rattle.hidden.proofs.Filling.{Copying}
use Rattle.hidden.proofs.copy.Given as goal

abbrev pub invariant-loop-i : goal.invariant-loop-i
invariant-loop-i l = Copying l.front l.initial.out l.out l.i
