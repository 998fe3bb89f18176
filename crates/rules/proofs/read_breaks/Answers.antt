use Rattle.deadlines.specs.Deadlines.{read_breaks}
use Rattle.rules.specs.Rule.{burst_breaks}
use Rattle.rules.proofs.read_breaks.Goals as goal

pub returns : goal.returns
unfolding read_breaks burst_breaks
returns c = c.burst_breaks.ensures
