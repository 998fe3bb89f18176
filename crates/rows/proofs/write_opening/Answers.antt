use Prim.Native.Nat.{◌+◌}
use native.Mathlib.Omega.{arith}
use lib.ListN.{set, length-set}
use Rattle.rows.proofs.Writing.{three-words}
use Rattle.rows.proofs.write_opening.Goals as goal

pub bounds-index-next-2 : goal.bounds-index-next-2
bounds-index-next-2 c = omega (arith, length-set c.args.index.now c.args.next c.args.row, c.requires)

pub bounds-index-next-3 : goal.bounds-index-next-3
bounds-index-next-3 c = let a = c.args in
    let first = set a.index.now a.next a.row in
    omega (arith, length-set first (a.next + 1) a.first, length-set a.index.now a.next a.row, c.requires)

pub returns : goal.returns
returns c = three-words c.args.index.now c.args.next c.args.row c.args.first c.args.last
