use Rattle.reading.specs.Settings.{settings_of}
use Rattle.cells.proofs.Rows.{mode-next, rows_next}
use Rattle.cells.proofs.passed.Goals as goal

pub returns : goal.returns
returns c = let a = c.args in
    let pins = c.pins_at-word.ensures in
    record {
      rowed = rows_next (settings_of a.s.now) a.bytes.now a.i pins c.requires.at.rowed c.open_row.ensures;
      moded = mode-next (settings_of a.s.now) a.bytes.now a.i pins c.requires.at.moded c.mode_after-state.ensures;
    }
