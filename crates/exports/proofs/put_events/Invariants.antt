use Rattle.exports.proofs.Filling.{Reading}
use Rattle.exports.proofs.put_events.Given as goal

abbrev pub invariant-records : goal.invariant-records
invariant-records l = Reading l.records.bytes.now l.records.count l.initial.out l.out l.cycle l.before l.i
