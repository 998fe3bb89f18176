use mathlib.Core.Path.{sym, ◌∙◌}
use Rattle.reading.specs.Settings.{settings_of}
use Rattle.hidden.proofs.Pins.{column-told, column-blank, row-blank, other-blank}
use Rattle.hidden.proofs.blank_pins.Goals as goal

pub returns-then-gives_burst : goal.returns-then-gives_burst
returns-then-gives_burst c = column-blank (settings_of c.args.s.now) c.args.w (column-told c.args.w c.gives_burst.ensures c.if-gives_burst.true)

pub returns-then-names_row : goal.returns-then-names_row
returns-then-names_row c = row-blank (settings_of c.args.s.now) c.args.w (column-told c.args.w c.gives_burst.ensures c.if-gives_burst.false)
    (sym c.names_row.ensures ∙ c.if-names_row.true)

pub returns : goal.returns
returns c = other-blank (settings_of c.args.s.now) c.args.w (column-told c.args.w c.gives_burst.ensures c.if-gives_burst.false)
    (sym c.names_row.ensures ∙ c.if-names_row.false)
