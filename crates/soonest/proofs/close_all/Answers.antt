use native.Mathlib.Omega.{arith}
use Rattle.plan.specs.Soonest.{close_all_soonest}
use Rattle.soonest.proofs.Places.{read-end-is}
use Rattle.soonest.proofs.close_all.Goals as goal

pub returns : goal.returns
unfolding close_all_soonest
returns c = rw (
  c.latest.ensures,
  c.all_till.ensures,
  c.all_till-written.ensures,
  read-end-is c.args.state.now (omega arith),
)
