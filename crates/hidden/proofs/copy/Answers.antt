use native.Mathlib.Omega.{arith}
use Rattle.hidden.proofs.Filling.{copies-none, copies-on, copied}
use Rattle.hidden.proofs.copy.Goals as goal

pub loop-i-init : goal.loop-i-init
loop-i-init c = copies-none c.args.front.now c.args.out.now

pub bounds-out-i : goal.bounds-out-i
bounds-out-i c = omega (arith, c.loop-i.invariant.long, c.requires, c.loop-i-test.true)

pub loop-i-preserved : goal.loop-i-preserved
loop-i-preserved c = copies-on c.loop-i.invariant c.loop-i-test.true

pub shape_of-out : goal.shape_of-out
shape_of-out c = c.loop-i.invariant.long

pub returns : goal.returns
returns c = copied c.loop-i.invariant c.loop-i-test.false
