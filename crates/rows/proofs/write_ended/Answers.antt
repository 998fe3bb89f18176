use Rattle.rows.proofs.Writing.{ends-none, begun-before, room-for-one, ends-one}
use Rattle.rows.proofs.write_ended.Goals as goal

pub returns-in_default : goal.returns-in_default
returns-in_default c = let a = c.args in
    let p = ends-none a.index.now a.next a.x a.end c.in_default.is in
    record { value = p.0; index_after = p.1 }

pub overflow_sub-end : goal.overflow_sub-end
overflow_sub-end c = begun-before c.args.index.now c.args.next c.args.x c.args.end c.in-Some.is c.requires.0

pub write_opening-requires : goal.write_opening-requires
write_opening-requires c = room-for-one c.args.index.now c.args.next c.args.x c.args.end c.in-Some.is c.requires.1

pub returns : goal.returns
returns c =
    let p = ends-one c.args.index.now c.args.next c.args.x c.args.end c.in-Some.is c.write_opening.ensures in
    record { value = p.0; index_after = p.1 }
