use mathlib.Core.List.{[]}
use mathlib.Core.Path.{sym, ◌∙◌}
use lib.Dec.{leb}
use borrow.Author.Tests.{lt-ltb, le-ltb, eq-eqb, ne_eqb}
use Rattle.reading.specs.Rules.{every_bank}
use Rattle.deadlines.specs.Deadlines.{other_bank, unmet, last_breaks, active_breaks}
use Rattle.deadlines.proofs.Waits.{each_over, each-waits}
use Rattle.rules.proofs.Handed.{handed}
use Rattle.rules.proofs.Timed.{kept, broke}
use Rattle.rules.specs.declared.Rule.TheVariants.{Busy, Precharge, OtherActive}
use Rattle.rules.proofs.active_breaks.Goals as goal

pub returns-then-rows-row : goal.returns-then-rows-row
unfolding active_breaks unmet
returns-then-rows-row c = rw (← c.rows.ensures, le-ltb _ _ c.if-rows-row.true)

pub returns-then-d-b-ne0 : goal.returns-then-d-b-ne0
unfolding active_breaks unmet
returns-then-d-b-ne0 c = rw (← c.rows.ensures, lt-ltb _ _ c.if-rows-row.false, ne_eqb _ _ c.if-d-b-ne0.true)

pub returns-in_err-over : goal.returns-in_err-over
unfolding active_breaks unmet
returns-in_err-over c = let told = broke _ Busy c.in_err-over.ensures in handed _ _ c.from_residual.ensures.1
    ∙ rw (
      ← c.rows.ensures,
      lt-ltb _ _ c.if-rows-row.false,
      eq-eqb _ _ c.if-d-b-ne0.false,
      told.fails,
    ) told.names

pub returns-in_err-over-2 : goal.returns-in_err-over-2
unfolding active_breaks unmet
returns-in_err-over-2 c = let told = broke _ Precharge c.in_err-over-2.ensures in handed _ _ c.from_residual-in_err-over-2.ensures.1
    ∙ rw (
      ← c.rows.ensures,
      lt-ltb _ _ c.if-rows-row.false,
      eq-eqb _ _ c.if-d-b-ne0.false,
      kept _ Busy c.in_ok-over.ensures,
      told.fails,
    ) told.names

pub returns-in_err-others_apart : goal.returns-in_err-others_apart
unfolding active_breaks unmet
returns-in_err-others_apart c = let a = c.args in
    let apart = other_bank a.d.now a.b.number in
    let told = broke (every_bank (λ i. leb (apart i) a.t)) OtherActive c.in_err-others_apart.ensures in
    handed _ _ c.from_residual-in_err-others_apart.ensures.1
    ∙ rw (
      ← c.rows.ensures,
      lt-ltb _ _ c.if-rows-row.false,
      eq-eqb _ _ c.if-d-b-ne0.false,
      kept _ Busy c.in_ok-over.ensures,
      kept _ Precharge c.in_ok-over-2.ensures,
    )
    (told.names ∙ sym (each-waits 7 apart [] a.t (last_breaks a.d.now a.t) told.fails))

pub returns : goal.returns
unfolding active_breaks unmet
returns c = let a = c.args in
    let apart = other_bank a.d.now a.b.number in
    let all = kept (every_bank (λ i. leb (apart i) a.t)) OtherActive c.in_ok-others_apart.ensures in
    rw (
      ← c.rows.ensures,
      lt-ltb _ _ c.if-rows-row.false,
      eq-eqb _ _ c.if-d-b-ne0.false,
      kept _ Busy c.in_ok-over.ensures,
      kept _ Precharge c.in_ok-over-2.ensures,
    )
    (c.last_breaks.ensures ∙ sym (each_over 7 apart [] a.t (last_breaks a.d.now a.t) all))
