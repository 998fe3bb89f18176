-- The invariant: storing the beats from here on makes the window (Loops).
use Prim.Native.Nat.{ℕ, ◌+◌, ◌*◌}
use Rattle.reading.specs.Player.{datum_at}
use Rattle.player.specs.Playing.{cell_of, lanes_by}
use Rattle.player.proofs.Loops.{Storing}
use Rattle.player.proofs.store.Given as goal

abbrev pub invariant-loop-beat : goal.invariant-loop-beat
invariant-loop-beat l =
    Storing (lanes_by l.lane) l.first (cell_of l.burst) (λ (j : ℕ). datum_at l.writes (l.taken + j)) (2 * l.burst.pairs) l.initial.window l.window l.beat
