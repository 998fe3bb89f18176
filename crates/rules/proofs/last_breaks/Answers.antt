use native.Mathlib.Omega.{arith}
use borrow.Author.Tests.{le-leb, lt-leb, lt-ltb, le-ltb}
use Rattle.deadlines.specs.Deadlines.{OVERDUE, WAKE, at}
use Rattle.rules.proofs.last_breaks.Goals as goal

pub returns-then-d-from : goal.returns-then-d-from
returns-then-d-from c = let a = c.args in
    rw (c.late.ensures, le-ltb a.t (at a.d.now OVERDUE) (omega (arith, c.if-d-from.true)))

pub returns-then-from-d : goal.returns-then-from-d
returns-then-from-d c = let a = c.args in
    rw (
      lt-ltb a.t (at a.d.now OVERDUE) (omega (arith, c.if-d-from.false)),
      lt-leb (at a.d.now WAKE) a.t (omega (arith, c.if-from-d.true)),
    )

pub returns : goal.returns
returns c = let a = c.args in
    rw (
      lt-ltb a.t (at a.d.now OVERDUE) (omega (arith, c.if-d-from.false)),
      le-leb (at a.d.now WAKE) a.t (omega (arith, c.if-from-d.false)),
    )
