use Prim.Native.Nat.{◌+◌}
use mathlib.Core.List.{[], ◌∷◌}
use mathlib.Core.Path.{sym, ◌∙◌}
use lib.Dec.{leb}
use Rattle.reading.specs.Rules.{every_bank}
use Rattle.deadlines.specs.Deadlines.{REST, BUS, at, asks, unmet, last_breaks, refresh_breaks}
use Rattle.deadlines.proofs.Waits.{each_over, each-waits}
use Rattle.rules.proofs.Handed.{handed}
use Rattle.rules.proofs.Timed.{kept, broke}
use Rattle.rules.specs.declared.Rule.TheVariants.{Busy, Precharge, Bus}
use Rattle.rules.proofs.refresh_breaks.Goals as goal

pub returns-then-not-all_idle : goal.returns-then-not-all_idle
unfolding refresh_breaks
returns-then-not-all_idle c = rw (sym c.all_idle.ensures ∙ c.if-not-all_idle.true)

pub returns-in_err-over : goal.returns-in_err-over
unfolding refresh_breaks unmet
returns-in_err-over c = let told = broke _ Busy c.in_err-over.ensures in handed _ _ c.from_residual.ensures.1
    ∙ rw (sym c.all_idle.ensures ∙ c.if-not-all_idle.false, told.fails) told.names

pub returns-in_err-all_rested : goal.returns-in_err-all_rested
unfolding refresh_breaks unmet
returns-in_err-all_rested c = let a = c.args in
    let d = c.args.d.now in
    let told = broke (every_bank (λ i. leb (at d (REST + i)) a.t)) Precharge c.in_err-all_rested.ensures in
    handed _ _ c.from_residual-in_err-all_rested.ensures.1
    ∙ rw (sym c.all_idle.ensures ∙ c.if-not-all_idle.false, kept _ Busy c.in_ok-over.ensures)
    (told.names ∙ sym (each-waits 5 (λ i. at d (REST + i)) (asks 12 (at d BUS) ∷ []) a.t (last_breaks d a.t) told.fails))

pub returns-in_err-over-2 : goal.returns-in_err-over-2
unfolding refresh_breaks unmet
returns-in_err-over-2 c = let a = c.args in
    let d = c.args.d.now in
    let rested = kept (every_bank (λ i. leb (at d (REST + i)) a.t)) Precharge c.in_ok-all_rested.ensures in
    let told = broke _ Bus c.in_err-over-2.ensures in
    handed _ _ c.from_residual-in_err-over-2.ensures.1
    ∙ rw (
      sym c.all_idle.ensures ∙ c.if-not-all_idle.false,
      kept _ Busy c.in_ok-over.ensures,
      each_over 5 (λ i. at d (REST + i)) (asks 12 (at d BUS) ∷ []) a.t (last_breaks d a.t) rested,
      told.fails,
    )
    told.names

pub returns : goal.returns
unfolding refresh_breaks unmet
returns c = let a = c.args in
    let d = c.args.d.now in
    let rested = kept (every_bank (λ i. leb (at d (REST + i)) a.t)) Precharge c.in_ok-all_rested.ensures in
    rw (
      sym c.all_idle.ensures ∙ c.if-not-all_idle.false,
      kept _ Busy c.in_ok-over.ensures,
      each_over 5 (λ i. at d (REST + i)) (asks 12 (at d BUS) ∷ []) a.t (last_breaks d a.t) rested,
      kept _ Bus c.in_ok-over-2.ensures,
      c.last_breaks.ensures,
    )
