-- The invariant: the cells of the beats from here on decide (Loops).
use Prim.Native.Nat.{◌*◌}
use mathlib.Core.Path.{sym, ap, ◌∙◌}
use native.Mathlib.Omega.{arith}
use Rattle.reading.specs.Player.{in_window}
use Rattle.player.specs.Playing.{cell_of}
use Rattle.player.proofs.Loops.{begins, goes_on, stops, ends}
use Rattle.player.proofs.holds_burst.Goals as goal

pub beats-init : goal.beats-init
beats-init c = let a = c.args in begins (in_window a.first a.size) (cell_of a.burst.now) (2 * a.burst.now.pairs)

pub beats-preserved : goal.beats-preserved
beats-preserved c = let a = c.args in
    goes_on (in_window a.first a.size) (cell_of a.burst.now) (2 * a.burst.now.pairs) c.beats.invariant c.beats-test.true
    (ap (in_window a.first a.size) (sym c.cell.ensures) ∙ sym c.holds.ensures ∙ c.if-holds.true)

pub returns-in-beats : goal.returns-in-beats
returns-in-beats c = let a = c.args in
    stops (in_window a.first a.size) (cell_of a.burst.now) (2 * a.burst.now.pairs) c.beats.invariant c.beats-test.true
    (ap (in_window a.first a.size) (sym c.cell.ensures) ∙ sym c.holds.ensures ∙ c.if-holds.false)

pub returns : goal.returns
returns c = let a = c.args in
    ends (in_window a.first a.size) (cell_of a.burst.now) (2 * a.burst.now.pairs) c.beats.invariant (omega (arith, c.beats-test.false))
