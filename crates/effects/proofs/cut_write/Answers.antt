use borrow.Author.Tests.{eq-eqb, ne_eqb}
use Rattle.deadlines.specs.Deadlines.{cut_write, cut_other}
use Rattle.effects.proofs.cut_write.Goals as goal

pub returns-then-o-b : goal.returns-then-o-b
unfolding cut_other
returns-then-o-b c = rw (eq-eqb _ _ c.if-o-b.true)

pub returns : goal.returns
unfolding cut_other cut_write
returns c = rw (c.least.ensures, c.data_after.ensures, ne_eqb _ _ c.if-o-b.false)
