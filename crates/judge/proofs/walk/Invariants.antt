use Prim.Native.Nat.{◌-◌}
use Rattle.judge.proofs.Walking.{Before}
use Rattle.judge.proofs.walk.Given as goal

abbrev pub invariant-events : goal.invariant-events
invariant-events l = Before l.s l.bytes l.n l.d l.pace l.i

abbrev pub decreases-events : goal.decreases-events
decreases-events l = l.n - l.i
