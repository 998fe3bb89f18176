use mathlib.Core.Path.{◌≡◌, ◌∙◌}
use native.Mathlib.Omega.{arith}
use Rattle.effects.proofs.Resting.{none_yet, one_more, all_four}
use Rattle.effects.proofs.rest_all.Goals as goal

pub banks-init : goal.banks-init
banks-init c = none_yet c.args.d.now c.args.from

pub banks-preserved : goal.banks-preserved
banks-preserved c = rw (one_more c.args.d.now c.args.from c.banks.b, ← c.banks.invariant) c.rest_after.ensures

pub returns : goal.returns
returns c = let end : c.banks.b ≡ 4 = omega arith in c.banks.invariant ∙ rw end (all_four c.args.d.now c.args.from)
