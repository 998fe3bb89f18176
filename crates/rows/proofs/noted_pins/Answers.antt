use native.Mathlib.Omega.{arith}
use borrow.Author.Tests.{eq-eqb, ne_eqb}
use Rattle.rows.proofs.noted_pins.Goals as goal

pub returns-then-code-ne-ACTIVE : goal.returns-then-code-ne-ACTIVE
returns-then-code-ne-ACTIVE c = rw (← c.code.ensures, ne_eqb _ 12 c.if-code-ne-ACTIVE.true)

pub overflow_add-counts : goal.overflow_add-counts
overflow_add-counts c = omega (arith, c.requires c.bank-bank.result)

pub returns : goal.returns
returns c = rw (← c.code.ensures, eq-eqb _ 12 c.if-code-ne-ACTIVE.false, ← c.bank-bank.ensures.0)
