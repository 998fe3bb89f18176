use Rattle.rows.proofs.Writing.{closed_none, closed-room, closed-one}
use Rattle.rows.proofs.write_closed.Goals as goal

pub returns-then-not-closes : goal.returns-then-not-closes
returns-then-not-closes c = let a = c.args in
    let p = closed_none a.index.now a.next a.x a.bank a.i a.w c.closes.ensures c.if-not-closes.true in
    record { value = p.0; index_after = p.1 }

pub write_ended-requires : goal.write_ended-requires
write_ended-requires c = let a = c.args in (
  c.requires.0,
  closed-room a.index.now a.next a.x a.bank a.i a.w c.closes.ensures
      c.if-not-closes.false c.requires.1,
)

pub returns : goal.returns
returns c = let a = c.args in
    let p = closed-one a.index.now a.next a.x a.bank a.i a.w c.closes.ensures
    c.if-not-closes.false (c.write_ended.ensures.value, c.write_ended.ensures.index_after) in
    record { value = p.0; index_after = p.1 }
