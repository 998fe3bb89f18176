use Rattle.schedule.proofs.Walking.{Walked}
use Rattle.schedule.proofs.plan.Given as goal

abbrev pub invariant-requests : goal.invariant-requests
invariant-requests l = Walked l.s l.requests l.closed l.initial.words l.words l.state l.i
