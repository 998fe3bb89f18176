use native.Mathlib.Omega.{arith}
use borrow.Author.Tests.{lt-ltb, le-ltb}
use Rattle.deadlines.specs.Deadlines.{ASLEEP, at}
use Rattle.rules.proofs.late.Goals as goal

pub returns-then-d-eq0 : goal.returns-then-d-eq0
returns-then-d-eq0 c = let a = c.args in rw (le-ltb a.t (at a.d.now ASLEEP) (omega (arith, c.if-d-eq0.true)))

pub returns-then-from-d : goal.returns-then-from-d
returns-then-from-d c = rw (← c.from.ensures, lt-ltb _ _ c.if-from-d.true)

pub returns : goal.returns
returns c = rw (← c.from.ensures, le-ltb _ _ c.if-from-d.false)
