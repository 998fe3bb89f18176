use Rattle.std.proofs.Common.{arith}
use Rattle.exports.proofs.Bridges.{none-far, first-far, counted-far}
use Rattle.exports.proofs.too_far.Goals as goal

pub returns-then-events-eq0 : goal.returns-then-events-eq0
returns-then-events-eq0 c = let a = c.args in none-far a.events.now.bytes.now a.events.now.count c.if-events-eq0.true

pub cycle-requires : goal.cycle-requires
cycle-requires c = omega (arith, c.requires.given.there)

pub returns-then-cycle-gt-REACH : goal.returns-then-cycle-gt-REACH
returns-then-cycle-gt-REACH c = first-far c.args.events.now.bytes.now c.args.events.now.count (omega arith) c.cycle.ensures c.if-cycle-gt-REACH.true

pub returns : goal.returns
returns c = counted-far c.args.events.now.bytes.now c.args.events.now.count (omega arith) c.cycle.ensures c.if-cycle-gt-REACH.false c.requires.records_value
