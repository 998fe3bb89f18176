use mathlib.Core.Bool.{or-true}
use mathlib.Core.Path.{sym, ◌∙◌}
use native.Mathlib.Omega.{arith}
use borrow.Author.Tests.{eq-eqb, ne_eqb}
use Rattle.reading.proofs.Laws.{none_yet, one_more}
use Rattle.rules.proofs.Banks.{passed, left}
use Rattle.rules.proofs.open_over.Goals as goal

pub banks-init : goal.banks-init
banks-init c = none_yet

pub banks-preserved-then-d-i-eq0 : goal.banks-preserved-then-d-i-eq0
banks-preserved-then-d-i-eq0 c = one_more c.banks.invariant (rw (eq-eqb _ _ c.if-d-i-eq0.true, or-true _))

pub banks-preserved : goal.banks-preserved
banks-preserved c = one_more c.banks.invariant (rw (sym c.past.ensures ∙ c.if-past.true))

pub returns-in-banks : goal.returns-in-banks
returns-in-banks c = left c.banks.invariant (omega arith)
    (rw (sym c.past.ensures ∙ c.if-past.false, ne_eqb _ _ c.if-d-i-eq0.false)) _ _

pub returns : goal.returns
returns c = passed c.banks.invariant (omega arith) _ _
