use Prim.Native.Nat.{◌+◌, ◌*◌}
use native.Mathlib.Omega.{arith}
use borrow.Author.Tests.{le-leb, lt-leb}
use Rattle.deadlines.proofs.clock.put_off.Goals as goal

pub returns-then-due-from : goal.returns-then-due-from
returns-then-due-from c = let a = c.args in
    rw (le-leb a.due (a.t + 8 * a.refi) (omega (arith, c.if-due-from.true)), c.from-then-due-from.ensures)

pub returns : goal.returns
returns c = let a = c.args in
    rw (lt-leb a.due (a.t + 8 * a.refi) (omega (arith, c.if-due-from.false)))
