use Rattle.std.proofs.Common.{arith, ap, ◌∙◌}
use Rattle.banks.specs.Banks.{filled_from}
use Rattle.banks.proofs.Filling.{fills-none, fills-on, filled, fewest}
use Rattle.banks.proofs.fill.Goals as goal

pub loop-bank-init : goal.loop-bank-init
loop-bank-init c = fills-none _ _ _ (omega arith)

pub loop-bank-preserved : goal.loop-bank-preserved
loop-bank-preserved c = fills-on c.loop-bank.invariant (omega arith) c.filled.ensures

pub returns : goal.returns
returns c = filled c.loop-bank.invariant (omega (arith, c.loop-bank.invariant.long)) ∙ ap (filled_from c.args.told.now c.args.records.now 0) (fewest _ c.min-n.ensures)
