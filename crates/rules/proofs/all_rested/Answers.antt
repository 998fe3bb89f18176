use mathlib.Core.Path.{sym, ◌∙◌}
use native.Mathlib.Omega.{arith}
use Rattle.reading.proofs.Laws.{none_yet, one_more}
use Rattle.rules.proofs.Banks.{passed, left}
use Rattle.rules.proofs.all_rested.Goals as goal

pub banks-init : goal.banks-init
banks-init c = none_yet

pub banks-preserved : goal.banks-preserved
banks-preserved c = one_more c.banks.invariant (sym c.past.ensures ∙ c.if-past.true)

pub returns-in-banks : goal.returns-in-banks
returns-in-banks c = left c.banks.invariant (omega arith) (sym c.past.ensures ∙ c.if-past.false) _ _

pub returns : goal.returns
returns c = passed c.banks.invariant (omega arith) _ _
