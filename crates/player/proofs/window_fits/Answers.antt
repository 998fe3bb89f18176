use native.Mathlib.Omega.{arith}
use Rattle.reading.specs.Settings.{settings_of}
use Rattle.player.proofs.Loops.{too_large, not-leaving}
use Rattle.player.proofs.window_fits.Goals as goal

pub returns-then-size-gt-MOST_WINDOW : goal.returns-then-size-gt-MOST_WINDOW
returns-then-size-gt-MOST_WINDOW c = too_large (settings_of c.args.s.now) c.args.first c.args.size c.if-size-gt-MOST_WINDOW.true

pub first_cell-bank-requires : goal.first_cell-bank-requires
first_cell-bank-requires c = (c.requires, (omega arith, omega arith))

pub returns : goal.returns
returns c = let a = c.args in
    not-leaving (settings_of a.s.now) a.first a.size c.first_cell-bank.ensures (omega (arith, c.if-size-gt-MOST_WINDOW.false))
