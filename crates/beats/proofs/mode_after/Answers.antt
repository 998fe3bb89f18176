use borrow.Author.Tests.{eq-eqb, ne_eqb}
use Rattle.pins.specs.Pins.{mode_after}
use Rattle.beats.proofs.mode_after.Goals as goal

pub returns-then-code-ne-MODE_SET : goal.returns-then-code-ne-MODE_SET
unfolding mode_after
returns-then-code-ne-MODE_SET c = rw (← c.code.ensures, ne_eqb _ 0 c.if-code-ne-MODE_SET.true)

pub returns-then-bank-ne0 : goal.returns-then-bank-ne0
unfolding mode_after
returns-then-bank-ne0 c = rw (← c.code.ensures, eq-eqb _ 0 c.if-code-ne-MODE_SET.false, ← c.bank.ensures.0, ne_eqb _ 0 c.if-bank-ne0.true)

pub returns : goal.returns
unfolding mode_after
returns c = rw (← c.code.ensures, eq-eqb _ 0 c.if-code-ne-MODE_SET.false, ← c.bank.ensures.0, eq-eqb _ 0 c.if-bank-ne0.false)
    c.address.ensures.0
