use borrow.Author.Tests.{eq-eqb, ne_eqb}
use Rattle.pins.proofs.gives_burst.Goals as goal

pub returns-then-asked-eq-READ : goal.returns-then-asked-eq-READ
returns-then-asked-eq-READ c = rw (← c.code-asked.ensures, eq-eqb _ _ c.if-asked-eq-READ.true)

pub returns : goal.returns
returns c = rw (← c.code-asked.ensures, ne_eqb _ 10 c.if-asked-eq-READ.false)
