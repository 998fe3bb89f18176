use Rattle.std.proofs.Common.{refl}
use Rattle.exports.proofs.Bridges.{counts-none, counts-on, all-counted}
use Rattle.exports.proofs.records_needed.Goals as goal

pub events-init : goal.events-init
events-init c = counts-none _ _

pub events-preserved : goal.events-preserved
events-preserved c = counts-on c.events.invariant c.events-test.true c.requires c.cycle-t.ensures c.nops_between.ensures refl

pub returns : goal.returns
returns c = all-counted c.events.invariant c.events-test.false
