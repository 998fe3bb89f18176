use Rattle.std.proofs.Common.{◌-◌}
use Rattle.monthly.specs.Meaning.{Held}
use Rattle.month.proofs.walk.Given as goal

abbrev pub invariant-loop-buffer : goal.invariant-loop-buffer
invariant-loop-buffer g l = Held l.totals

abbrev pub decreases-loop-buffer : goal.decreases-loop-buffer
decreases-loop-buffer g l = 10000 - l.totals.captures
