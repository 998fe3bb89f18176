use native.Mathlib.Omega.{arith}
use Rattle.player.proofs.Lanes.{stays, fits, stored}
use Rattle.player.proofs.lane.Goals as goal

pub returns-then-mask-ne0 : goal.returns-then-mask-ne0
returns-then-mask-ne0 g c = let a = c.args in stays g.row.K a.old a.word a.mask c.requires c.if-mask-ne0.true

pub overflow_mul-result-2 : goal.overflow_mul-result-2
overflow_mul-result-2 g c = let a = c.args in omega (arith, fits g.row.K a.old a.word a.mask c.requires (omega arith))

pub overflow_add-result-2 : goal.overflow_add-result-2
overflow_add-result-2 g c = let a = c.args in omega (arith, fits g.row.K a.old a.word a.mask c.requires (omega arith))

pub returns : goal.returns
returns g c = let a = c.args in stored g.row.K a.old a.word a.mask c.requires c.if-mask-ne0.false
