use mathlib.Core.Path.{sym, ◌∙◌}
use Rattle.settings.proofs.Rows.{too_small, too_large, mode-row, other_row}
use Rattle.settings.proofs.setting_fits.Goals as goal

pub returns-then-w-row : goal.returns-then-w-row
returns-then-w-row c = let a = c.args in sym (too_small a.i a.w c.if-w-row.true)

pub returns-then-row-w : goal.returns-then-row-w
returns-then-row-w c = let a = c.args in
    sym (too_large a.i a.w c.if-w-row.false c.if-row-w.true)

pub returns-then-i-eq-MODE : goal.returns-then-i-eq-MODE
returns-then-i-eq-MODE c = let a = c.args in
    c.mode_word.ensures ∙ sym (mode-row a.i a.w c.if-w-row.false c.if-row-w.false c.if-i-eq-MODE.true)

pub returns : goal.returns
returns c = let a = c.args in
    sym (other_row a.i a.w c.if-w-row.false c.if-row-w.false c.if-i-eq-MODE.false)
