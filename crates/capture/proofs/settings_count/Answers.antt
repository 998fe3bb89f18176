use mathlib.Core.Path.{sym, ◌∙◌}
use native.Mathlib.Omega.{arith}
use Rattle.capture.proofs.settings_count.Goals as goal

pub returns-then-sleeping : goal.returns-then-sleeping
returns-then-sleeping c = record { value = rw (sym c.sleeping.ensures ∙ c.if-sleeping.true); lower_bound = (omega arith, omega arith) }

pub returns-else-sleeping : goal.returns-else-sleeping
returns-else-sleeping c = record { value = rw (sym c.sleeping.ensures ∙ c.if-sleeping.false); lower_bound = (omega arith, omega arith) }
