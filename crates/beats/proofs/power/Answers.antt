use native.Mathlib.Omega.{arith}
use Rattle.settings.proofs.Shifts.{one_shifted}
use Rattle.beats.proofs.power.Goals as goal

pub returns : goal.returns
returns c = rw (one_shifted c.args.bits (omega arith))
