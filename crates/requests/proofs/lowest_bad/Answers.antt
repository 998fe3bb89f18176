use mathlib.Core.Path.{sym, ◌∙◌}
use Rattle.requests.proofs.Asking.{too_many, begins, goes_on, stops, ends, all_asked}
use native.Mathlib.Omega.{arith}
use Rattle.reading.specs.Settings.{settings_of}
use Rattle.requests.proofs.lowest_bad.Goals as goal

pub returns-then-requests-gt2000 : goal.returns-then-requests-gt2000
returns-then-requests-gt2000 c = too_many (settings_of c.args.s.now) c.args.requests.now c.if-requests-gt2000.true

pub returns-then-all_fit : goal.returns-then-all_fit
returns-then-all_fit c = all_asked (settings_of c.args.s.now) c.args.requests.now c.requires c.if-requests-gt2000.false c.cells-cells.ensures
    (c.all_fit.ensures c.if-all_fit.true)

pub requests-init : goal.requests-init
requests-init c = begins (settings_of c.args.s.now) c.args.requests.now c.if-requests-gt2000.false

pub returns-then-not-fits : goal.returns-then-not-fits
returns-then-not-fits c = stops c.requests.invariant (omega arith) c.requires c.cells-cells.ensures (sym c.fits.ensures ∙ c.if-not-fits.true)

pub requests-preserved : goal.requests-preserved
requests-preserved c = goes_on c.requests.invariant (omega arith) c.requires c.cells-cells.ensures (sym c.fits.ensures ∙ c.if-not-fits.false)

pub returns : goal.returns
returns c = ends c.requests.invariant (omega arith)
