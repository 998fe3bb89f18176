use Rattle.requests.proofs.Asking.{Looked}
use Rattle.requests.proofs.all_fit.Given as goal

abbrev pub invariant-requests : goal.invariant-requests
invariant-requests l = Looked l.cells l.requests l.fine l.q-index
