use native.Mathlib.Omega.{arith}
use borrow.Author.Tests.{lt-ltb, le-ltb, eq-eqb, ne_eqb}
use Rattle.deadlines.specs.Deadlines.{ASLEEP, at, low_breaks, low_after}
use Rattle.part.proofs.quiet_low.Goals as goal

pub returns-then-from-d : goal.returns-then-from-d
unfolding low_breaks low_after
returns-then-from-d c = let a = c.args in
    let early = lt-ltb a.t (at a.d.now ASLEEP) (omega (arith, c.if-from-d.true)) in
    record { value = rw early; d_after = rw early }

pub returns-then-d-eq0 : goal.returns-then-d-eq0
unfolding low_breaks low_after
returns-then-d-eq0 c = let a = c.args in
    let late = le-ltb a.t (at a.d.now ASLEEP) (omega (arith, c.if-from-d.false)) in
    let asleep = eq-eqb _ _ c.if-d-eq0.true in
    record { value = rw (late, asleep); d_after = rw (late, asleep) }

pub returns : goal.returns
unfolding low_breaks low_after
returns c = let a = c.args in
    let late = le-ltb a.t (at a.d.now ASLEEP) (omega (arith, c.if-from-d.false)) in
    let awake = ne_eqb _ _ c.if-d-eq0.false in
    record { value = rw (late, awake) c.enter.ensures.value; d_after = rw (late, awake) c.enter.ensures.d_after }
