use mathlib.Core.Path.{◌∙◌}
use borrow.Author.Tests.{eq-eqb, ne_eqb}
use Rattle.beats.proofs.left_by.Goals as goal

pub returns-then-code-eq-READ : goal.returns-then-code-eq-READ
returns-then-code-eq-READ c = c.before-then-code-eq-READ.ensures ∙ rw (c.after2.ensures, ← c.code.ensures, eq-eqb _ 10 c.if-code-eq-READ.true)

pub returns : goal.returns
returns c = c.before-2.ensures ∙ rw (← c.code.ensures, ne_eqb _ 10 c.if-code-eq-READ.false)
