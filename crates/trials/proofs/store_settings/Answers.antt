use native.Mathlib.Omega.{arith}
use Rattle.trials.proofs.Storing.{stores-none, stores-on, stored-all}
use Rattle.trials.proofs.store_settings.Goals as goal

pub loop-i-init : goal.loop-i-init
loop-i-init c = stores-none _ _

pub loop-i-preserved : goal.loop-i-preserved
loop-i-preserved c = stores-on c.loop-i.invariant _ c.store.ensures (omega arith) c.loop-i-test.true

pub shape_of-out : goal.shape_of-out
shape_of-out c = c.loop-i.invariant.long

pub returns : goal.returns
returns c = stored-all c.loop-i.invariant c.loop-i-test.false
