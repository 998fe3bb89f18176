-- The invariant: storing the beats from here on makes the window (Loops).
use Prim.Native.Nat.{ℕ, ◌+◌, ◌-◌, ◌*◌}
use mathlib.Core.Path.{ap}
use native.Mathlib.Omega.{arith}
use lib.ListN.{length}
use Rattle.reading.specs.Player.{datum_at}
use Rattle.player.specs.Playing.{cell_of, lanes_by}
use Rattle.player.proofs.Loops.{in_window_lem, stores-none, stores-on, stores-all}
use Rattle.player.proofs.store.Goals as goal

pub loop-beat-init : goal.loop-beat-init
loop-beat-init c = let a = c.args in
    stores-none (lanes_by a.lane) a.first (cell_of a.burst.now) (λ (j : ℕ). datum_at a.writes.now (a.taken + j)) (2 * a.burst.now.pairs) a.window.now

pub overflow_sub-at : goal.overflow_sub-at
overflow_sub-at c = let a = c.args in
    (in_window_lem a.first (length a.window.now) (cell_of a.burst.now) (2 * a.burst.now.pairs) c.requires.inside c.loop-beat.beat c.loop-beat-test.true c.cell.ensures).0

pub bounds-window-at : goal.bounds-window-at
bounds-window-at c = let a = c.args in
    let in-it = in_window_lem a.first (length a.window.now) (cell_of a.burst.now) (2 * a.burst.now.pairs) c.requires.inside c.loop-beat.beat c.loop-beat-test.true c.cell.ensures in
    omega (arith, in-it.1, c.loop-beat.invariant.size)

pub bounds-window-at-in-loop-beat : goal.bounds-window-at-in-loop-beat
bounds-window-at-in-loop-beat c = let a = c.args in
    let in-it = in_window_lem a.first (length a.window.now) (cell_of a.burst.now) (2 * a.burst.now.pairs) c.requires.inside c.loop-beat.beat c.loop-beat-test.true c.cell.ensures in
    omega (arith, in-it.1, c.loop-beat.invariant.size)

pub loop-beat-preserved : goal.loop-beat-preserved
loop-beat-preserved c = let a = c.args in
    stores-on (lanes_by a.lane) a.first (cell_of a.burst.now) (λ (j : ℕ). datum_at a.writes.now (a.taken + j)) (2 * a.burst.now.pairs) a.window.now
    c.loop-beat.invariant c.loop-beat-test.true (ap (λ (k : ℕ). k - a.first) c.cell.ensures) c.merge.ensures

pub shape_of-window : goal.shape_of-window
shape_of-window c = c.loop-beat.invariant.size

pub returns : goal.returns
returns c = let a = c.args in
    stores-all (lanes_by a.lane) a.first (cell_of a.burst.now) (λ (j : ℕ). datum_at a.writes.now (a.taken + j)) (2 * a.burst.now.pairs) a.window.now
    c.loop-beat.invariant (omega (arith, c.loop-beat-test.false))
