use mathlib.Core.Path.{◌∙◌}
use Rattle.rules.proofs.Handed.{handed}
use Rattle.part.proofs.Left.{stays}
use Rattle.part.proofs.active.Goals as goal

pub returns-in_err-active_breaks : goal.returns-in_err-active_breaks
returns-in_err-active_breaks c = let told = c.in_err-active_breaks.ensures in record { value = handed _ _ c.from_residual.ensures.1 ∙ told; d_after = stays _ told _ _ }

pub returns : goal.returns
returns c = let told = c.in_ok-active_breaks.ensures in record { value = told; d_after = rw (← told) c.active_after.ensures }
