use borrow.Author.Tests.{eq-eqb, ne_eqb}
use Rattle.beats.proofs.open_row.Goals as goal

pub returns-then-code-ne-ACTIVE : goal.returns-then-code-ne-ACTIVE
returns-then-code-ne-ACTIVE c = rw (← c.code.ensures, ne_eqb _ 12 c.if-code-ne-ACTIVE.true)

pub returns : goal.returns
returns c = rw
    (← c.code.ensures, eq-eqb _ 12 c.if-code-ne-ACTIVE.false, ← c.bank-bank.ensures.0, ← c.address-row.ensures.0, c.first_cell.ensures)
