use Prim.Native.Nat.{ℕ, ◌+◌}
use mathlib.Core.Path.{◌≡◌, refl, sym, ap, ◌∙◌}
use borrow.Author.Tests.{ne_eqb}
use Rattle.reading.specs.Settings.{settings_of}
use Rattle.pins.proofs.Pins.{low-is, low-at}
use Rattle.pins.specs.Pins.{code_of, quiet_code}
use Rattle.steps.proofs.Low as steps
use Rattle.part.proofs.Pins.{deselects-low}
use Rattle.part.proofs.low.Goals as goal

pub returns-then-ten : goal.returns-then-ten
returns-then-ten c = let a = c.args in
    let (l, e) = low-at a.w 4 c.requires.code_value c.in-20.is in
    let all = sym c.ten.ensures ∙ c.if-ten.true in
    let high = steps.high-close-all (settings_of a.s.now) a.d.now a.t a.w e all in
    steps.met-barred (settings_of a.s.now) a.d.now a.t a.w 4 refl refl l e
    (c.close_all_breaks.ensures ∙ high) c.barred-then-ten.ensures

pub returns-in-30 : goal.returns-in-30
returns-in-30 c = let a = c.args in
    let (l, e) = low-at a.w 14 c.requires.code_value c.in-30.is in
    steps.met-quiet (settings_of a.s.now) a.d.now a.t a.w l (ap quiet_code e)
    c.quiet_low.ensures.value c.quiet_low.ensures.d_after

pub returns-in-17 : goal.returns-in-17
returns-in-17 c = let a = c.args in
    let (l, n) = deselects-low a.w c.requires.code_value c.in-17.is in
    steps.met-quiet (settings_of a.s.now) a.d.now a.t a.w l n
    c.quiet_low-in-17.ensures.value c.quiet_low-in-17.ensures.d_after

pub returns-in-24 : goal.returns-in-24
returns-in-24 c = let a = c.args in
    let (l, e) = low-at a.w 8 c.requires.code_value c.in-24.is in
    steps.met-refresh (settings_of a.s.now) a.d.now a.t a.w l e
    c.refresh_low.ensures.value c.refresh_low.ensures.d_after

pub returns-in-28 : goal.returns-in-28
returns-in-28 c = let a = c.args in
    let (l, e) = low-at a.w 12 c.requires.code_value c.in-28.is in
    let bank = c.bank.ensures in
    let address = c.address.ensures.0 in
    let high = steps.high-active (settings_of a.s.now) a.d.now a.t a.w bank address e in
    steps.met-barred (settings_of a.s.now) a.d.now a.t a.w 12 refl refl l e
    (c.active_breaks.ensures ∙ high) c.barred.ensures

pub returns-in-26 : goal.returns-in-26
returns-in-26 c = let a = c.args in
    let (l, e) = low-at a.w 10 c.requires.code_value c.in-26.is in
    let high = steps.high_read (settings_of a.s.now) a.d.now a.t a.w c.bank-in-26.ensures e in
    steps.met-barred (settings_of a.s.now) a.d.now a.t a.w 10 refl refl l e
    (c.read_breaks.ensures ∙ high) c.barred-in-26.ensures

pub returns-in-18 : goal.returns-in-18
returns-in-18 c = let a = c.args in
    let (l, e) = low-at a.w 2 c.requires.code_value c.in-18.is in
    let high = steps.high_write (settings_of a.s.now) a.d.now a.t a.w c.bank-in-18.ensures e in
    steps.met-barred (settings_of a.s.now) a.d.now a.t a.w 2 refl refl l e
    (c.write_breaks.ensures ∙ high) c.barred-in-18.ensures

pub returns-else-ten : goal.returns-else-ten
returns-else-ten c = let a = c.args in
    let (l, e) = low-at a.w 4 c.requires.code_value c.in-20.is in
    let one = sym c.ten.ensures ∙ c.if-ten.false in
    let high = steps.high-close (settings_of a.s.now) a.d.now a.t a.w c.bank-in-20.ensures e one in
    steps.met-barred (settings_of a.s.now) a.d.now a.t a.w 4 refl refl l e
    (c.close_breaks.ensures ∙ high) c.barred-in-20.ensures

pub returns-in-22 : goal.returns-in-22
returns-in-22 c = let a = c.args in
    let (l, e) = low-at a.w 6 c.requires.code_value c.in-22.is in
    let high = steps.high-terminate (settings_of a.s.now) a.d.now a.t a.w e in
    steps.met-barred (settings_of a.s.now) a.d.now a.t a.w 6 refl refl l e
    (c.terminate_breaks.ensures ∙ high) c.barred-in-22.ensures

pub returns-in-16 : goal.returns-in-16
returns-in-16 c = let a = c.args in
    let (l, e) = low-at a.w 0 c.requires.code_value c.in-16.is in
    let bank = c.bank-in-16.ensures.0 in
    let address = c.address-in-16.ensures.0 in
    let high = steps.high-mode-set (settings_of a.s.now) a.d.now a.t a.w bank address e in
    steps.met-barred (settings_of a.s.now) a.d.now a.t a.w 0 refl refl l e
    (c.mode_breaks.ensures ∙ high) c.barred-in-16.ensures

pub returns-in_default : goal.returns-in_default
returns-in_default c = let a = c.args in
    let no = c.in_default.in_default-own.rest in
    let (l, above) = low-is a.w c.requires.code_value c.requires.le_code in
    let at : (k : ℕ) → code_of a.w ≡ k → a.code ≡ k + 16 = λ k e. above ∙ ap (λ (q : ℕ). q + 16) e in
    steps.met-quiet (settings_of a.s.now) a.d.now a.t a.w l
    (rw (
      ne_eqb (code_of a.w) 12 (λ e. no.0.0.0.0.0.1 (at 12 e)),
      ne_eqb (code_of a.w) 10 (λ e. no.0.0.0.0.1 (at 10 e)),
      ne_eqb (code_of a.w) 2 (λ e. no.0.0.0.1 (at 2 e)),
      ne_eqb (code_of a.w) 4 (λ e. no.0.0.1 (at 4 e)),
      ne_eqb (code_of a.w) 6 (λ e. no.0.1 (at 6 e)),
      ne_eqb (code_of a.w) 8 (λ e. no.0.0.0.0.0.0.1 (at 8 e)),
      ne_eqb (code_of a.w) 0 (λ e. no.1 (at 0 e)),
    ))
    c.quiet_low-in_default.ensures.value c.quiet_low-in_default.ensures.d_after
