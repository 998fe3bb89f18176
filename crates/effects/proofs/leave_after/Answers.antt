use borrow.Author.Tests.{eq-eqb, ne_eqb}
use Rattle.deadlines.specs.Deadlines.{leave_after}
use Rattle.effects.proofs.leave_after.Goals as goal

pub returns-then-d-eq0 : goal.returns-then-d-eq0
unfolding leave_after
returns-then-d-eq0 c = rw (eq-eqb _ _ c.if-d-eq0.true) c.power_up_after.ensures

pub returns : goal.returns
unfolding leave_after
returns c = rw (ne_eqb _ _ c.if-d-eq0.false) c.wake_after.ensures
