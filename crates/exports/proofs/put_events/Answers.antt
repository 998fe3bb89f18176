use Rattle.std.proofs.Common.{arith}
use Rattle.exports.proofs.Filling.{reads_none, reads_on, all_read}
use Rattle.exports.proofs.put_events.Goals as goal

pub records-init : goal.records-init
records-init c = let a = c.args in reads_none a.records.now.bytes.now a.records.now.count a.out.now

pub next_cycle-cycle-requires : goal.next_cycle-cycle-requires
next_cycle-cycle-requires c = omega (arith, c.records.invariant.early, c.requires.held.few)

pub overflow_mul-i : goal.overflow_mul-i
overflow_mul-i c = omega (arith, c.requires.held.few)

pub overflow_add-i : goal.overflow_add-i
overflow_add-i c = omega (arith, c.requires.held.few)

pub put_event-requires : goal.put_event-requires
put_event-requires c = omega (arith, c.records.invariant.long, c.requires.room)

pub overflow_step-i : goal.overflow_step-i
overflow_step-i c = omega arith

pub records-smaller : goal.records-smaller
records-smaller c = omega arith

pub records-preserved : goal.records-preserved
records-preserved c = reads_on c.records.invariant c.records-test.true (omega arith) c.stamp-stamp.ensures c.next_cycle-cycle.ensures
    c.pins.ensures c.put_event.ensures

pub shape_of-out : goal.shape_of-out
shape_of-out c = c.records.invariant.long

pub returns : goal.returns
returns c = all_read c.records.invariant c.records-test.false
