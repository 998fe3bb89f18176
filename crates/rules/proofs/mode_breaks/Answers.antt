use Rattle.deadlines.specs.Deadlines.{mode_breaks}
use mathlib.Core.Path.{sym, ◌∙◌}
use Rattle.rules.proofs.mode_breaks.Goals as goal

pub returns-then-not-register_fits : goal.returns-then-not-register_fits
unfolding mode_breaks
returns-then-not-register_fits c = rw (sym c.register_fits.ensures ∙ c.if-not-register_fits.true)

pub returns : goal.returns
unfolding mode_breaks
returns c = rw (sym c.register_fits.ensures ∙ c.if-not-register_fits.false) c.refresh_breaks.ensures
