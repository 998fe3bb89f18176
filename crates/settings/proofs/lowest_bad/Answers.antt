-- The invariant: what is found from setting i on is what is found at all.
use mathlib.Core.Path.{sym, ◌∙◌}
use native.Mathlib.Omega.{arith}
use Rattle.settings.proofs.Rows.{begins, goes_on, stops, row-most, contradicts, agrees}
use Rattle.settings.proofs.lowest_bad.Goals as goal

pub settings-init : goal.settings-init
settings-init c = begins c.args.words.now c.args.n

pub offset_bounds-words-i : goal.offset_bounds-words-i
offset_bounds-words-i c = omega arith

pub bounds-words-i : goal.bounds-words-i
bounds-words-i c = omega arith

pub setting_fits-requires : goal.setting_fits-requires
setting_fits-requires c = omega arith

pub overflow_step-i : goal.overflow_step-i
overflow_step-i c = omega arith

pub settings-smaller : goal.settings-smaller
settings-smaller c = omega arith

pub settings-preserved : goal.settings-preserved
settings-preserved c = goes_on c.settings.invariant (omega arith) (sym c.setting_fits.ensures ∙ c.if-setting_fits.true)

pub overflow_cast-result : goal.overflow_cast-result
overflow_cast-result c = omega arith

pub returns-in-settings : goal.returns-in-settings
returns-in-settings c = stops c.settings.invariant (omega arith) (sym c.setting_fits.ensures ∙ c.if-setting_fits.false)

pub bounds-words-6 : goal.bounds-words-6
bounds-words-6 c = omega arith

pub bounds-words-5 : goal.bounds-words-5
bounds-words-5 c = omega arith

pub overflow_add-words : goal.overflow_add-words
overflow_add-words c = let s = c.settings.invariant in
    omega (arith, row-most s (omega arith) 5 (omega arith), row-most s (omega arith) 6 (omega arith))

pub bounds-words-7 : goal.bounds-words-7
bounds-words-7 c = omega arith

pub overflow_cast-result-then-words : goal.overflow_cast-result-then-words
overflow_cast-result-then-words c = omega arith

pub returns-then-words : goal.returns-then-words
returns-then-words c = contradicts c.settings.invariant (omega arith) c.if-words.true

pub returns : goal.returns
returns c = agrees c.settings.invariant (omega arith) c.if-words.false
