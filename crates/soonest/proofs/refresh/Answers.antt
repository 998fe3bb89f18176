use Rattle.deadlines.specs.Deadlines.{soonest}
use Rattle.plan.specs.Soonest.{refresh_soonest}
use Rattle.soonest.proofs.refresh.Goals as goal

pub returns : goal.returns
unfolding refresh_soonest soonest
returns c = rw (
  c.latest-4.ensures,
  c.latest-3.ensures,
  c.latest-2.ensures,
  c.latest-last.ensures,
  c.latest.ensures,
)
