-- The invariant: the cells of the beats from here on decide (Loops).
use Prim.Native.Nat.{◌*◌}
use Rattle.reading.specs.Player.{in_window}
use Rattle.player.specs.Playing.{cell_of}
use Rattle.player.proofs.Loops.{Held}
use Rattle.player.proofs.holds_burst.Given as goal

abbrev pub invariant-beats : goal.invariant-beats
invariant-beats l = Held (in_window l.first l.size) (cell_of l.burst) (2 * l.burst.pairs) l.beat
