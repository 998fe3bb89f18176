use mathlib.Core.Path.{◌∙◌}
use Rattle.rules.proofs.Handed.{handed}
use Rattle.part.proofs.Left.{stays}
use Rattle.part.proofs.terminate.Goals as goal

pub returns-in_err-terminate_breaks : goal.returns-in_err-terminate_breaks
returns-in_err-terminate_breaks c = let told = c.in_err-terminate_breaks.ensures in record { value = handed _ _ c.from_residual.ensures.1 ∙ told; d_after = stays _ told _ _ }

pub returns : goal.returns
returns c = let told = c.in_ok-terminate_breaks.ensures in record { value = told; d_after = rw (← told) c.cut_read.ensures }
