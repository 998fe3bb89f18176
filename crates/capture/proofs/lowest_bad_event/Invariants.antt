-- The invariant: `next` is the first cycle above that of the event before i, and what is found from i on is what is found at all.
use Rattle.capture.proofs.Walks.{Sought}
use Rattle.capture.proofs.lowest_bad_event.Given as goal

abbrev pub invariant-events : goal.invariant-events
invariant-events l = Sought l.limit l.bytes l.n l.next l.i
