use Rattle.rows.proofs.stood.Goals as goal

pub returns-then-opens : goal.returns-then-opens
returns-then-opens c = rw (← c.opens.ensures, c.if-opens.true, c.address-row.ensures.0)

pub returns-then-closes : goal.returns-then-closes
returns-then-closes c = rw (← c.opens.ensures, c.if-opens.false, ← c.closes.ensures, c.if-closes.true)

pub returns : goal.returns
returns c = rw (← c.opens.ensures, c.if-opens.false, ← c.closes.ensures, c.if-closes.false)
