use Rattle.capture.proofs.Fitting.{Looked}
use Rattle.capture.proofs.all_fit.Given as goal

abbrev pub invariant-loop-i : goal.invariant-loop-i
invariant-loop-i l = Looked l.limit l.bytes l.n l.fine l.last l.i
