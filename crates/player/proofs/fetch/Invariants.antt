-- The invariant: the words of the beats before this one stand in the list (Storing of beats).
use Prim.Native.Nat.{ℕ, ◌*◌}
use Rattle.beats.proofs.Storing.{Stored}
use Rattle.player.specs.Playing.{cell_of, shown_at}
use Rattle.player.proofs.fetch.Given as goal

abbrev pub invariant-loop-beat : goal.invariant-loop-beat
invariant-loop-beat l =
    Stored (λ (j : ℕ). shown_at l.lane l.first l.window (cell_of l.burst j)) l.initial.reads l.next (2 * l.burst.pairs) l.reads l.beat l.to
