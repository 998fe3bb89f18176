use mathlib.Core.Bool.{or-true}
use mathlib.Core.Path.{sym, ◌∙◌}
use native.Mathlib.Omega.{arith}
use borrow.Author.Tests.{eq-eqb, ne_eqb}
use Rattle.deadlines.proofs.Waits.{unasked}
use Rattle.reading.proofs.Laws.{none_yet, one_more}
use Rattle.rules.proofs.Banks.{passed, left}
use Rattle.rules.proofs.others_apart.Goals as goal

pub banks-init : goal.banks-init
banks-init c = none_yet

pub banks-preserved-then-past : goal.banks-preserved-then-past
banks-preserved-then-past c = one_more c.banks.invariant (simp unasked (rw (sym c.past.ensures ∙ c.if-past.true, or-true _)))

pub banks-preserved : goal.banks-preserved
banks-preserved c = one_more c.banks.invariant (simp unasked (rw (eq-eqb _ _ c.if-i-b.true)))

pub returns-in-banks : goal.returns-in-banks
returns-in-banks c = left c.banks.invariant (omega arith)
    (simp unasked (rw (ne_eqb _ _ c.if-i-b.false, sym c.past.ensures ∙ c.if-past.false))) _ _

pub returns : goal.returns
returns c = passed c.banks.invariant (omega arith) _ _
