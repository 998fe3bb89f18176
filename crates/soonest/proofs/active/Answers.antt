use Rattle.deadlines.specs.Deadlines.{soonest}
use Rattle.plan.specs.Soonest.{active_soonest}
use Rattle.soonest.proofs.active.Goals as goal

pub returns : goal.returns
unfolding active_soonest soonest
returns c = rw (
  c.latest-3.ensures,
  c.latest-2.ensures,
  c.latest-apart.ensures,
  c.latest.ensures,
  c.other-4.ensures,
  c.other-3.ensures,
  c.latest-last.ensures,
  c.other-2.ensures,
  c.other.ensures,
)
