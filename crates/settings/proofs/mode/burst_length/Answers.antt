use Prim.Native.Nat.{◌%◌}
use native.Mathlib.Omega.{arith}
use Rattle.settings.proofs.Shifts.{one_shifted}
use Rattle.settings.proofs.mode.burst_length.Goals as goal

pub returns : goal.returns
returns c = rw (one_shifted (c.args.mode % 8) (omega arith))
