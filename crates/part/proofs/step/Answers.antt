use Rattle.part.proofs.Left.{meant}
use Rattle.part.proofs.step.Goals as goal

pub returns : goal.returns
returns c = let told = c.command.ensures in
    record { result_value = meant _ told.value; d_after = told.d_after; pace_after = told.pace_after }
