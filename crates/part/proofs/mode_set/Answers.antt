use mathlib.Core.Path.{◌∙◌}
use Rattle.rules.proofs.Handed.{handed}
use Rattle.part.proofs.Left.{stays}
use Rattle.part.proofs.mode_set.Goals as goal

pub returns-in_err-mode_breaks : goal.returns-in_err-mode_breaks
returns-in_err-mode_breaks c = let told = c.in_err-mode_breaks.ensures in
    record { value = handed _ _ c.from_residual.ensures.1 ∙ told; d_after = stays _ told _ _; pace_after = stays _ told _ _ }

pub returns : goal.returns
returns c = let told = c.in_ok-mode_breaks.ensures in
    record { value = told; d_after = rw (← told) c.mode_set_after.ensures; pace_after = rw (← told) c.set_register.ensures }
