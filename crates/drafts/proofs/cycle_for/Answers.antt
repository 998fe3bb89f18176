use Rattle.plan.specs.Draft.{cycle_for}
use Rattle.drafts.proofs.cycle_for.Goals as goal

pub returns : goal.returns
unfolding cycle_for
returns c = rw c.latest.ensures
