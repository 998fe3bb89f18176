use mathlib.Core.Path.{sym, ◌∙◌}
use Rattle.deadlines.specs.Deadlines.{terminate_breaks}
use Rattle.rules.proofs.Handed.{handed}
use Rattle.rules.proofs.Timed.{kept, broke}
use Rattle.rules.specs.declared.Rule.TheVariants.{Busy, AutoPrecharge}
use Rattle.rules.proofs.terminate_breaks.Goals as goal

pub returns-in_err-over : goal.returns-in_err-over
unfolding terminate_breaks
returns-in_err-over c = let told = broke _ Busy c.in_err-over.ensures in handed _ _ c.from_residual.ensures.1
    ∙ rw (told.fails) told.names

pub returns-in_err-over-2 : goal.returns-in_err-over-2
unfolding terminate_breaks
returns-in_err-over-2 c = let told = broke _ AutoPrecharge c.in_err-over-2.ensures in handed _ _ c.from_residual-in_err-over-2.ensures.1
    ∙ rw (
      kept _ Busy c.in_ok-over.ensures,
      told.fails,
    ) told.names

pub returns-then-not-taken : goal.returns-then-not-taken
unfolding terminate_breaks
returns-then-not-taken c = rw (
  kept _ Busy c.in_ok-over.ensures,
  kept _ AutoPrecharge c.in_ok-over-2.ensures,
  sym c.taken.ensures ∙ c.if-not-taken.true,
)

pub returns : goal.returns
unfolding terminate_breaks
returns c = rw (
  kept _ Busy c.in_ok-over.ensures,
  kept _ AutoPrecharge c.in_ok-over-2.ensures,
  sym c.taken.ensures ∙ c.if-not-taken.false,
  c.last_breaks.ensures,
)
