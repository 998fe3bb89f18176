use native.Mathlib.Omega.{arith}
use Rattle.schedule.proofs.Filling.{begins, goes_on, ends}
use Rattle.schedule.proofs.fourteen.Goals as goal

pub settings-init : goal.settings-init
settings-init c = begins c.args.settings.now c.requires

pub settings-preserved : goal.settings-preserved
settings-preserved c = goes_on c.requires c.settings.invariant (omega arith)

pub returns : goal.returns
returns c = ends c.requires c.settings.invariant (omega arith)
