use Rattle.std.proofs.Common.{arith}
use Rattle.console.proofs.Known.{Consumes-more}
use Rattle.console.proofs.read_input.Goals as goal

pub loop-done-preserved : goal.loop-done-preserved
loop-done-preserved g c =
    let read = c.in_ok-n.ensures in
    (omega (arith, read.in_bounds), Consumes-more _ _ _ c.loop-done.buf _ _ _ read.front c.loop-done.invariant.1 read.bytes.0)
