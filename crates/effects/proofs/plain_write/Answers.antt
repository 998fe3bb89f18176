use borrow.Author.Tests.{eq-eqb, ne_eqb}
use Rattle.deadlines.specs.Deadlines.{plain_write}
use Rattle.effects.proofs.plain_write.Goals as goal

pub returns-then-s-ne1 : goal.returns-then-s-ne1
unfolding plain_write
returns-then-s-ne1 c = rw (ne_eqb _ _ c.if-s-ne1.true)

pub returns : goal.returns
unfolding plain_write
returns c = rw (c.after2-2.ensures, c.after2.ensures, eq-eqb _ _ c.if-s-ne1.false)
