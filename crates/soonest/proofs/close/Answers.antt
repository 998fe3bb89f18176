use native.Mathlib.Omega.{arith}
use Rattle.deadlines.specs.Deadlines.{soonest}
use Rattle.plan.specs.Soonest.{close_soonest}
use Rattle.soonest.proofs.Places.{read-end-is}
use Rattle.soonest.proofs.close.Goals as goal

pub returns : goal.returns
unfolding close_soonest soonest
returns c = rw (
  c.latest-2.ensures,
  c.pick.ensures,
  c.latest-rules.ensures,
  c.latest.ensures,
  read-end-is c.args.state.now (omega arith),
)
