use native.Mathlib.Omega.{arith}
use Rattle.rows.specs.Walks.{events_among, opened_by}
use Rattle.rows.proofs.Writing.{written-first, appends-size, room, written_on, last-begun, last-room, written_last}
use Rattle.rows.proofs.write_bank.Goals as goal

pub loop-i-init : goal.loop-i-init
loop-i-init c = written-first _ _ _ _ _

pub write_closed-next-requires : goal.write_closed-next-requires
write_closed-next-requires c = let x = c.loop-i in (
  x.invariant.begun,
  room _ _ _ _ _ x.invariant c.loop-i-test.true c.pins_at-w.ensures c.requires.n_in_bounds,
)

pub loop-i-preserved : goal.loop-i-preserved
loop-i-preserved c =
    written_on _ _ _ _ _ c.loop-i.invariant c.loop-i-test.true c.pins_at-w.ensures
    (c.write_closed-next.ensures.value, c.write_closed-next.ensures.index_after) c.stood-x.ensures

pub write_ended-requires : goal.write_ended-requires
write_ended-requires c = let x = c.loop-i in (
  last-begun _ _ _ _ _ x.invariant (omega arith),
  last-room _ _ _ _ _ x.invariant (omega arith) c.requires.n_in_bounds,
)

pub shape_of-index : goal.shape_of-index
shape_of-index c = let a = c.args in
    appends-size a.index.now a.from (opened_by a.bank (events_among a.events.now.bytes.now a.n))
    (written_last _ _ _ _ _ c.loop-i.invariant (omega arith) (c.write_ended.ensures.value, c.write_ended.ensures.index_after))

pub returns : goal.returns
returns c =
    let p = written_last _ _ _ _ _ c.loop-i.invariant (omega arith) (c.write_ended.ensures.value, c.write_ended.ensures.index_after) in
    record { value = p.0; index_after = p.1 }
