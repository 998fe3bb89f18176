use borrow.Author.Tests.{eq-eqb, ne_eqb}
use Rattle.rows.proofs.opens.Goals as goal

pub returns-then-code-ne-ACTIVE : goal.returns-then-code-ne-ACTIVE
returns-then-code-ne-ACTIVE c = rw (← c.code.ensures, ne_eqb _ 12 c.if-code-ne-ACTIVE.true)

pub returns : goal.returns
returns c = rw (← c.code.ensures, eq-eqb _ 12 c.if-code-ne-ACTIVE.false, ← c.bank.ensures.0)
