use native.Mathlib.Omega.{arith}
use Rattle.player.proofs.Loops.{before, behind}
use Rattle.player.proofs.holds.Goals as goal

pub returns-then-cell-first : goal.returns-then-cell-first
returns-then-cell-first c = let a = c.args in before a.first a.size a.cell c.if-cell-first.true

pub returns : goal.returns
returns c = let a = c.args in behind a.first a.size a.cell (omega (arith, c.if-cell-first.false))
