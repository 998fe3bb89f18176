use mathlib.Core.Path.{◌∙◌}
use Rattle.deadlines.specs.Deadlines.{close_all_breaks}
use Rattle.rules.proofs.Handed.{handed}
use Rattle.rules.proofs.Timed.{kept, broke}
use Rattle.rules.specs.declared.Rule.TheVariants.{Busy, RowHeld, WriteRecovery}
use Rattle.rules.proofs.close_all_breaks.Goals as goal

pub returns-in_err-over : goal.returns-in_err-over
unfolding close_all_breaks
returns-in_err-over c = let told = broke _ Busy c.in_err-over.ensures in handed _ _ c.from_residual.ensures.1
    ∙ rw (told.fails) told.names

pub returns-in_err-open_over : goal.returns-in_err-open_over
unfolding close_all_breaks
returns-in_err-open_over c = let told = broke _ RowHeld c.in_err-open_over.ensures in handed _ _ c.from_residual-in_err-open_over.ensures.1
    ∙ rw (
      kept _ Busy c.in_ok-over.ensures,
      told.fails,
    ) told.names

pub returns-in_err-open_over-2 : goal.returns-in_err-open_over-2
unfolding close_all_breaks
returns-in_err-open_over-2 c = let told = broke _ WriteRecovery c.in_err-open_over-2.ensures in handed _ _ c.from_residual-in_err-open_over-2.ensures.1
    ∙ rw (
      kept _ Busy c.in_ok-over.ensures,
      kept _ RowHeld c.in_ok-open_over.ensures,
      told.fails,
    ) told.names

pub returns : goal.returns
unfolding close_all_breaks
returns c = rw (
  kept _ Busy c.in_ok-over.ensures,
  kept _ RowHeld c.in_ok-open_over.ensures,
  kept _ WriteRecovery c.in_ok-open_over-2.ensures,
  c.last_breaks.ensures,
)
