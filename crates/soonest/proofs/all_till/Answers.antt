use Rattle.plan.specs.Soonest.{all_till}
use Rattle.soonest.proofs.all_till.Goals as goal

pub returns : goal.returns
unfolding all_till
returns c = rw (
  c.latest-3.ensures,
  c.latest-2.ensures,
  c.till-4.ensures,
  c.till-3.ensures,
  c.latest-last.ensures,
  c.latest.ensures,
  c.till-2.ensures,
  c.till.ensures,
)
