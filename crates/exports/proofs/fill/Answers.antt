use Rattle.std.proofs.Common.{arith}
use Rattle.exports.proofs.Filling.{too_short, wrote}
use Rattle.exports.proofs.fill.Goals as goal

pub overflow_cast-n : goal.overflow_cast-n
overflow_cast-n c = omega (arith, c.requires.held.few)

pub returns-then-out-bytes : goal.returns-then-out-bytes
returns-then-out-bytes c = let a = c.args in
    let p = too_short a.records.now.bytes.now a.settings.now a.edition a.records.now.count a.out.now c.size-bytes.ensures c.if-out-bytes.true in
    record { value = p.0; out_after = p.1 }

pub returns : goal.returns
returns c = let a = c.args in
    let p = wrote a.records.now.bytes.now a.settings.now a.edition a.records.now.count a.out.now c.size-bytes.ensures c.if-out-bytes.false c.requires.fourteen
    c.put.ensures c.put_events.ensures in
    record { value = p.0; out_after = p.1 }
