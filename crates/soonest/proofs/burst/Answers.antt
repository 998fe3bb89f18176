use native.Mathlib.Omega.{arith}
use Rattle.deadlines.specs.Deadlines.{soonest}
use Rattle.plan.specs.Soonest.{read_soonest, write_soonest}
use Rattle.soonest.proofs.Places.{read-end-is, write-end-is}
use Rattle.soonest.proofs.burst.Goals as goal

pub returns-then-write : goal.returns-then-write
unfolding write_soonest soonest
returns-then-write c = rw (c.waits.ensures, c.if-write.true, write-end-is c.args.state.now (omega arith))

pub returns : goal.returns
unfolding read_soonest soonest
returns c = rw (c.waits-2.ensures, c.if-write.false, read-end-is c.args.state.now (omega arith))
