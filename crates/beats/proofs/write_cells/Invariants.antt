-- The invariant: the lent part of the list as it was, with the first cells stored (Storing).
use Prim.Native.Nat.{ℕ, ◌+◌, ◌*◌}
use Rattle.beats.specs.Rows.{place_in}
use Rattle.beats.proofs.Storing.{Stored}
use Rattle.beats.proofs.write_cells.Given as goal

abbrev pub invariant-loop-beat : goal.invariant-loop-beat
invariant-loop-beat l =
    Stored (λ (j : ℕ). l.block + place_in l.interleaved l.size l.column j) l.initial.cells 0 (2 * l.pairs) l.cells l.beat l.beat
