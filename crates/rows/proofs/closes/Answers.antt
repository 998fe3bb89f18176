use borrow.Author.Tests.{eq-eqb, ne_eqb}
use Rattle.rows.proofs.closes.Goals as goal

pub returns-then-shuts_bank : goal.returns-then-shuts_bank
returns-then-shuts_bank c = rw (← c.shuts_bank.ensures, c.if-shuts_bank.true)

pub returns-then-not-gives_burst : goal.returns-then-not-gives_burst
returns-then-not-gives_burst c = rw (← c.shuts_bank.ensures, c.if-shuts_bank.false, ← c.gives_burst.ensures, c.if-not-gives_burst.true)

pub returns-then-bank : goal.returns-then-bank
returns-then-bank c = rw (
  ← c.shuts_bank.ensures,
  c.if-shuts_bank.false,
  ← c.gives_burst.ensures,
  c.if-not-gives_burst.false,
  ← c.bank.ensures.0,
  ne_eqb _ _ c.if-bank.true,
)

pub returns : goal.returns
returns c = rw (
  ← c.shuts_bank.ensures,
  c.if-shuts_bank.false,
  ← c.gives_burst.ensures,
  c.if-not-gives_burst.false,
  ← c.bank.ensures.0,
  eq-eqb _ _ c.if-bank.false,
  ← c.ten.ensures,
)
