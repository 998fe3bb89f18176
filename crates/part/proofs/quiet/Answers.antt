use native.Mathlib.Omega.{arith}
use borrow.Author.Tests.{lt-ltb, le-ltb}
use Rattle.deadlines.specs.Deadlines.{OVERDUE, ASLEEP, at, quiet_after}
use Rattle.part.proofs.quiet.Goals as goal

pub returns-then-from-d : goal.returns-then-from-d
unfolding quiet_after
returns-then-from-d c = let a = c.args in
    let early = lt-ltb a.t (at a.d.now OVERDUE) (omega (arith, c.if-from-d.true)) in
    record { value = rw early; d_after = rw early }

pub returns-then-from-d-2 : goal.returns-then-from-d-2
unfolding quiet_after
returns-then-from-d-2 c = let a = c.args in
    let late = le-ltb a.t (at a.d.now OVERDUE) (omega (arith, c.if-from-d.false)) in
    let early = lt-ltb a.t (at a.d.now ASLEEP) (omega (arith, c.if-from-d-2.true)) in
    record { value = rw (late, early); d_after = rw (late, early) c.leave_after.ensures }

pub returns : goal.returns
unfolding quiet_after
returns c = let a = c.args in
    let late₁ = le-ltb a.t (at a.d.now OVERDUE) (omega (arith, c.if-from-d.false)) in
    let late₂ = le-ltb a.t (at a.d.now ASLEEP) (omega (arith, c.if-from-d-2.false)) in
    record { value = rw (late₁, late₂); d_after = rw (late₁, late₂) }
