use mathlib.Core.Path.{sym, ◌∙◌}
use borrow.Author.Tests.{ne_eqb}
use Rattle.deadlines.specs.Deadlines.{self_breaks}
use Rattle.rules.proofs.Handed.{handed, some_rule}
use Rattle.rules.proofs.self_breaks.Goals as goal

pub returns-in_err-refresh_breaks : goal.returns-in_err-refresh_breaks
unfolding self_breaks
returns-in_err-refresh_breaks c =
    handed _ _ c.from_residual.ensures.1 ∙ rw (← c.in_err-refresh_breaks.ensures, ne_eqb _ _ (some_rule c.in_err-refresh_breaks.field-0.0))

pub returns-then-not-taken : goal.returns-then-not-taken
unfolding self_breaks
returns-then-not-taken c = rw (← c.in_ok-refresh_breaks.ensures, sym c.taken.ensures ∙ c.if-not-taken.true)

pub returns : goal.returns
unfolding self_breaks
returns c = rw (← c.in_ok-refresh_breaks.ensures, sym c.taken.ensures ∙ c.if-not-taken.false)
