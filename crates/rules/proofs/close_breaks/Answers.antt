use mathlib.Core.Bool.{or-true}
use mathlib.Core.Path.{◌∙◌}
use borrow.Author.Tests.{eq-eqb, ne_eqb}
use Rattle.deadlines.specs.Deadlines.{close_breaks}
use Rattle.rules.proofs.Handed.{handed}
use Rattle.rules.proofs.Timed.{kept, broke}
use Rattle.rules.specs.declared.Rule.TheVariants.{Busy, RowHeld, WriteRecovery}
use Rattle.rules.proofs.close_breaks.Goals as goal

pub returns-in_err-over : goal.returns-in_err-over
unfolding close_breaks
returns-in_err-over c = let told = broke _ Busy c.in_err-over.ensures in handed _ _ c.from_residual.ensures.1 ∙ rw told.fails told.names

pub returns-then-d-b-eq0 : goal.returns-then-d-b-eq0
unfolding close_breaks
returns-then-d-b-eq0 c = rw (
  kept _ Busy c.in_ok-over.ensures,
  eq-eqb _ _ c.if-d-b-eq0.true,
  or-true _,
  or-true _,
  c.last_breaks.ensures,
)

pub returns-in_err-over-2 : goal.returns-in_err-over-2
unfolding close_breaks
returns-in_err-over-2 c = let told = broke _ RowHeld c.in_err-over-2.ensures in handed _ _ c.from_residual-in_err-over-2.ensures.1
    ∙ rw (kept _ Busy c.in_ok-over.ensures, ne_eqb _ _ c.if-d-b-eq0.false, told.fails) told.names

pub returns-in_err-over-3 : goal.returns-in_err-over-3
unfolding close_breaks
returns-in_err-over-3 c = let told = broke _ WriteRecovery c.in_err-over-3.ensures in handed _ _ c.from_residual-in_err-over-3.ensures.1
    ∙ rw (
      kept _ Busy c.in_ok-over.ensures,
      ne_eqb _ _ c.if-d-b-eq0.false,
      kept _ RowHeld c.in_ok-over-2.ensures,
      told.fails,
    ) told.names

pub returns : goal.returns
unfolding close_breaks
returns c = rw (
  kept _ Busy c.in_ok-over.ensures,
  ne_eqb _ _ c.if-d-b-eq0.false,
  kept _ RowHeld c.in_ok-over-2.ensures,
  kept _ WriteRecovery c.in_ok-over-3.ensures,
  c.last_breaks-2.ensures,
)
