use mathlib.Core.Path.{◌∙◌}
use borrow.Author.Tests.{eq-eqb, ne_eqb}
use Rattle.deadlines.specs.Deadlines.{unmet}
use Rattle.rules.specs.Rule.{burst_breaks}
use Rattle.rules.proofs.Handed.{handed}
use Rattle.rules.proofs.Timed.{kept, broke}
use Rattle.rules.specs.declared.Rule.TheVariants.{Busy, RowToColumn, AutoPrecharge}
use Rattle.rules.proofs.burst_breaks.Goals as goal

pub returns-then-d-b-eq0 : goal.returns-then-d-b-eq0
unfolding burst_breaks unmet
returns-then-d-b-eq0 c = rw (eq-eqb _ _ c.if-d-b-eq0.true)

pub returns-in_err-over : goal.returns-in_err-over
unfolding burst_breaks unmet
returns-in_err-over c = let told = broke _ Busy c.in_err-over.ensures in handed _ _ c.from_residual.ensures.1
    ∙ rw (
      ne_eqb _ _ c.if-d-b-eq0.false,
      told.fails,
    ) told.names

pub returns-in_err-over-2 : goal.returns-in_err-over-2
unfolding burst_breaks unmet
returns-in_err-over-2 c = let told = broke _ RowToColumn c.in_err-over-2.ensures in handed _ _ c.from_residual-in_err-over-2.ensures.1
    ∙ rw (
      ne_eqb _ _ c.if-d-b-eq0.false,
      kept _ Busy c.in_ok-over.ensures,
      told.fails,
    ) told.names

pub returns-in_err-over-3 : goal.returns-in_err-over-3
unfolding burst_breaks unmet
returns-in_err-over-3 c = let told = broke _ c.args.rule c.in_err-over-3.ensures in handed _ _ c.from_residual-in_err-over-3.ensures.1
    ∙ rw (
      ne_eqb _ _ c.if-d-b-eq0.false,
      kept _ Busy c.in_ok-over.ensures,
      kept _ RowToColumn c.in_ok-over-2.ensures,
      told.fails,
    ) told.names

pub returns-in_err-over-4 : goal.returns-in_err-over-4
unfolding burst_breaks unmet
returns-in_err-over-4 c = let told = broke _ AutoPrecharge c.in_err-over-4.ensures in handed _ _ c.from_residual-in_err-over-4.ensures.1
    ∙ rw (
      ne_eqb _ _ c.if-d-b-eq0.false,
      kept _ Busy c.in_ok-over.ensures,
      kept _ RowToColumn c.in_ok-over-2.ensures,
      kept _ c.args.rule c.in_ok-over-3.ensures,
      told.fails,
    ) told.names

pub returns : goal.returns
unfolding burst_breaks unmet
returns c = rw (
  ne_eqb _ _ c.if-d-b-eq0.false,
  kept _ Busy c.in_ok-over.ensures,
  kept _ RowToColumn c.in_ok-over-2.ensures,
  kept _ c.args.rule c.in_ok-over-3.ensures,
  kept _ AutoPrecharge c.in_ok-over-4.ensures,
  c.last_breaks.ensures,
)
