use mathlib.Core.Path.{sym, ◌∙◌}
use Rattle.capture.proofs.pin_limit.Goals as goal

pub returns-then-sleeping : goal.returns-then-sleeping
returns-then-sleeping c = rw (sym c.sleeping.ensures ∙ c.if-sleeping.true)

pub returns-else-sleeping : goal.returns-else-sleeping
returns-else-sleeping c = rw (sym c.sleeping.ensures ∙ c.if-sleeping.false)
