use borrow.Author.Tests.{eq-eqb, ne_eqb}
use native.Mathlib.Omega.{arith}
use Rattle.listing.proofs.events.command_kind.Goals as goal

pub returns-then-asked-eq-ACTIVE : goal.returns-then-asked-eq-ACTIVE
returns-then-asked-eq-ACTIVE c = (rw (← c.code-asked.ensures, eq-eqb _ 12 c.if-asked-eq-ACTIVE.true) c.bank.ensures.0, omega arith)

pub returns-then-asked-eq-REFRESH : goal.returns-then-asked-eq-REFRESH
returns-then-asked-eq-REFRESH c = (rw (← c.code-asked.ensures, ne_eqb _ 12 c.if-asked-eq-ACTIVE.false, eq-eqb _ 8 c.if-asked-eq-REFRESH.true), omega arith)

pub returns-then-asked-eq-MODE_SET : goal.returns-then-asked-eq-MODE_SET
returns-then-asked-eq-MODE_SET c = (rw (← c.code-asked.ensures, ne_eqb _ 12 c.if-asked-eq-ACTIVE.false, ne_eqb _ 8 c.if-asked-eq-REFRESH.false, eq-eqb _ 0 c.if-asked-eq-MODE_SET.true), omega arith)

pub returns : goal.returns
returns c = (rw (← c.code-asked.ensures, ne_eqb _ 12 c.if-asked-eq-ACTIVE.false, ne_eqb _ 8 c.if-asked-eq-REFRESH.false, ne_eqb _ 0 c.if-asked-eq-MODE_SET.false), omega arith)
