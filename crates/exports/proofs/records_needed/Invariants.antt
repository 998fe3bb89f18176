use Rattle.exports.proofs.Bridges.{Counting}
use Rattle.exports.proofs.records_needed.Given as goal

abbrev pub invariant-events : goal.invariant-events
invariant-events l = Counting l.events.bytes.now l.events.count l.needed l.last l.i
