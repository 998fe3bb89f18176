use Rattle.exports.proofs.Bridges.{Exporting}
use Rattle.exports.proofs.put_export.Given as goal

abbrev pub invariant-events : goal.invariant-events
invariant-events l = Exporting l.events.bytes.now l.events.count l.initial.out l.out l.at l.last l.i
