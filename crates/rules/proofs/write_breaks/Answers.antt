use Rattle.deadlines.specs.Deadlines.{write_breaks}
use Rattle.rules.specs.Rule.{burst_breaks}
use Rattle.rules.proofs.write_breaks.Goals as goal

pub returns : goal.returns
unfolding write_breaks burst_breaks
returns c = c.burst_breaks.ensures
