use mathlib.Core.Path.{sym, ◌∙◌}
use borrow.Author.Tests.{leb-true, leb-false, lt-ltb, le-ltb}
use Rattle.deadlines.specs.Deadlines.{enter_breaks}
use Rattle.rules.proofs.enter_breaks.Goals as goal

pub returns-then-not-past : goal.returns-then-not-past
unfolding enter_breaks
returns-then-not-past c = rw (sym c.past.ensures ∙ c.if-not-past.true)

pub returns-then-past : goal.returns-then-past
unfolding enter_breaks
returns-then-past c = rw (
  sym c.past.ensures ∙ c.if-not-past.false,
  le-ltb _ _ (leb-true _ _ (sym c.past-2.ensures ∙ c.if-past.true)),
)

pub returns-then-not-past-2 : goal.returns-then-not-past-2
unfolding enter_breaks
returns-then-not-past-2 c = rw (
  sym c.past.ensures ∙ c.if-not-past.false,
  lt-ltb _ _ (leb-false _ _ (sym c.past-2.ensures ∙ c.if-past.false)),
  sym c.past-3.ensures ∙ c.if-not-past-2.true,
)

pub returns-then-not-taken : goal.returns-then-not-taken
unfolding enter_breaks
returns-then-not-taken c = rw (
  sym c.past.ensures ∙ c.if-not-past.false,
  lt-ltb _ _ (leb-false _ _ (sym c.past-2.ensures ∙ c.if-past.false)),
  sym c.past-3.ensures ∙ c.if-not-past-2.false,
  sym c.taken.ensures ∙ c.if-not-taken.true,
)

pub returns-then-not-past-3 : goal.returns-then-not-past-3
unfolding enter_breaks
returns-then-not-past-3 c = rw (
  sym c.past.ensures ∙ c.if-not-past.false,
  lt-ltb _ _ (leb-false _ _ (sym c.past-2.ensures ∙ c.if-past.false)),
  sym c.past-3.ensures ∙ c.if-not-past-2.false,
  sym c.taken.ensures ∙ c.if-not-taken.false,
  sym c.past-4.ensures ∙ c.if-not-past-3.true,
)

pub returns : goal.returns
unfolding enter_breaks
returns c = rw (
  sym c.past.ensures ∙ c.if-not-past.false,
  lt-ltb _ _ (leb-false _ _ (sym c.past-2.ensures ∙ c.if-past.false)),
  sym c.past-3.ensures ∙ c.if-not-past-2.false,
  sym c.taken.ensures ∙ c.if-not-taken.false,
  sym c.past-4.ensures ∙ c.if-not-past-3.false,
)
