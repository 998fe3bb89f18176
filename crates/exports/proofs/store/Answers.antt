use Rattle.std.proofs.Common.{arith}
use Rattle.exports.specs.Meaning.{events_in}
use Rattle.exports.proofs.Outgoing.{too_short, wrote}
use Rattle.exports.proofs.store.Goals as goal

pub overflow_mul-size : goal.overflow_mul-size
overflow_mul-size c = omega (arith, c.requires.records_le_most_records)

pub overflow_cast-size-2 : goal.overflow_cast-size-2
overflow_cast-size-2 c = omega (arith, c.requires.records_le_most_records)

pub returns-then-out-size : goal.returns-then-out-size
returns-then-out-size c = let a = c.args in
    let p = too_short (events_in a.events.now.bytes.now a.events.now.count) a.records a.out.now c.if-out-size.true in
    record { value = p.0; out_after = p.1 }

pub put_export-requires : goal.put_export-requires
put_export-requires c = record { given = c.requires.given; room = omega (arith, c.requires.records_value) }

pub returns : goal.returns
returns c = let a = c.args in
    let p = wrote (events_in a.events.now.bytes.now a.events.now.count) a.records a.out.now c.if-out-size.false c.put_export.ensures in
    record { value = p.0; out_after = p.1 }
