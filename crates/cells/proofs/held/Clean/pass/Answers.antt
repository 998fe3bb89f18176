use mathlib.Core.Path.{◌≡◌}
use borrow.Author.Tests.{ne_eqb}
use Rattle.pins.specs.Pins.{mode_after}
use Rattle.beats.specs.Rows.{cells_opened}
use Rattle.cells.specs.Telling.{judged_by}
use Rattle.cells.proofs.Rows.{mode-next, rows_next}
use Rattle.cells.proofs.held.Clean.pass.Goals as goal

pub returns-then-code-eq-ACTIVE : goal.returns-then-code-eq-ACTIVE
unfolding mode_after
returns-then-code-eq-ACTIVE c = let a = c.args in
    let s = judged_by a.self.now in
    let bytes = a.self.now.opened.events.bytes.now in
    let stays : a.mode ≡ mode_after a.mode c.pins-w.result = rw (← c.code.ensures, c.if-code-eq-ACTIVE.true) in
    record {
      rowed = rows_next s bytes a.i c.pins-w.ensures c.requires.before.rowed c.open_row.ensures;
      moded = mode-next s bytes a.i c.pins-w.ensures c.requires.before.moded stays;
    }

pub returns : goal.returns
returns c = let a = c.args in
    let s = judged_by a.self.now in
    let bytes = a.self.now.opened.events.bytes.now in
    let stay : a.firsts.now ≡ cells_opened s a.firsts.now c.pins-w.result =
    rw (← c.code.ensures, ne_eqb _ 12 c.if-code-eq-ACTIVE.false) in
    record {
      rowed = rows_next s bytes a.i c.pins-w.ensures c.requires.before.rowed stay;
      moded = mode-next s bytes a.i c.pins-w.ensures c.requires.before.moded c.mode_after.ensures;
    }
