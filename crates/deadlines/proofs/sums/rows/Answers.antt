use Prim.Native.Nat.{◌%◌}
use native.Mathlib.Omega.{arith}
use Rattle.settings.proofs.Shifts.{one_shifted}
use Rattle.deadlines.proofs.sums.rows.Goals as goal

pub returns : goal.returns
returns c = rw (one_shifted (c.args.bits % 32) (omega arith))
