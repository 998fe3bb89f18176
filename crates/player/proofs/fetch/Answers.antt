-- The invariant: the words of the beats before this one stand in the list (Storing of beats).
use Prim.Native.Nat.{ℕ, ◌*◌}
use mathlib.Core.Path.{ap, ◌∙◌}
use native.Mathlib.Omega.{arith}
use lib.ListN.{length}
use Rattle.beats.proofs.Storing.{begins, goes_on, ends}
use Rattle.player.specs.Playing.{cell_of, shown_at}
use Rattle.player.proofs.Loops.{in_window_lem}
use Rattle.player.proofs.fetch.Goals as goal

pub loop-beat-init : goal.loop-beat-init
loop-beat-init c = let a = c.args in
    begins (λ (j : ℕ). shown_at a.lane a.first a.window.now (cell_of a.burst.now j)) a.reads.now a.next (2 * a.burst.now.pairs)

pub overflow_sub-at : goal.overflow_sub-at
overflow_sub-at c = let a = c.args in
    (in_window_lem a.first (length a.window.now) (cell_of a.burst.now) (2 * a.burst.now.pairs) c.requires.inside c.loop-beat.beat c.loop-beat-test.true c.cell.ensures).0

pub bounds-window-at : goal.bounds-window-at
bounds-window-at c = let a = c.args in
    (in_window_lem a.first (length a.window.now) (cell_of a.burst.now) (2 * a.burst.now.pairs) c.requires.inside c.loop-beat.beat c.loop-beat-test.true c.cell.ensures).1

pub bounds-reads-to : goal.bounds-reads-to
bounds-reads-to c =
    omega (arith, c.requires.room, c.loop-beat.invariant.place, c.loop-beat.invariant.size, c.loop-beat-test.true)

pub overflow_add-to : goal.overflow_add-to
overflow_add-to c =
    omega (arith, c.requires.room, c.loop-beat.invariant.place, c.loop-beat.invariant.size, c.loop-beat-test.true)

pub loop-beat-preserved : goal.loop-beat-preserved
loop-beat-preserved c = let a = c.args in
    goes_on (λ (j : ℕ). shown_at a.lane a.first a.window.now (cell_of a.burst.now j)) a.reads.now a.next (2 * a.burst.now.pairs) c.loop-beat.invariant
    c.loop-beat-test.true
    (c.shown.ensures ∙ ap (λ (k : ℕ). shown_at a.lane a.first a.window.now k) c.cell.ensures)

pub shape_of-reads : goal.shape_of-reads
shape_of-reads c = c.loop-beat.invariant.size

pub returns : goal.returns
returns c = let a = c.args in
    ends (λ (j : ℕ). shown_at a.lane a.first a.window.now (cell_of a.burst.now j)) a.reads.now a.next (2 * a.burst.now.pairs) c.loop-beat.invariant
    (omega (arith, c.loop-beat-test.false))
