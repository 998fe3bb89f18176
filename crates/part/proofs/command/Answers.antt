use mathlib.Core.Path.{refl, sym, ap, ◌∙◌}
use native.Mathlib.Omega.{arith}
use Rattle.reading.specs.Settings.{settings_of}
use Rattle.steps.proofs.Codes as codes
use Rattle.steps.proofs.Codes.{met, met-paced}
use Rattle.steps.proofs.Low.{met-low}
use Rattle.pins.specs.Pins.{quiet_code}
use Rattle.pins.proofs.Pins.{high-at, low-is}
use Rattle.rules.proofs.Handed.{handed}
use Rattle.part.proofs.Pins.{deselects, beyond}
use Rattle.part.proofs.command.Goals as goal

pub low-requires : goal.low-requires
low-requires c = record { code_value = c.wide_code-code.ensures; le_code = beyond c.in_default.in_default-own.rest }

pub returns-in_err-active-in-12 : goal.returns-in_err-active-in-12
returns-in_err-active-in-12 c = let a = c.args in
    let (n, e) = high-at a.w 12 c.wide_code-code.ensures c.in-12.is (omega arith) in
    met-paced (codes.active (settings_of a.s.now) a.d.now a.pace.now a.t a.w c.bank.ensures c.address.ensures.0 n e)
    (handed _ _ c.from_residual.ensures.1 ∙ c.in_err-active-in-12.ensures.value) c.active.ensures.d_after

pub returns-in_ok-active-in-12 : goal.returns-in_ok-active-in-12
returns-in_ok-active-in-12 c = let a = c.args in
    let (n, e) = high-at a.w 12 c.wide_code-code.ensures c.in-12.is (omega arith) in
    met-paced (codes.active (settings_of a.s.now) a.d.now a.pace.now a.t a.w c.bank.ensures c.address.ensures.0 n e)
    c.in_ok-active-in-12.ensures.value c.active.ensures.d_after

pub returns-in_err-read-in-10 : goal.returns-in_err-read-in-10
returns-in_err-read-in-10 c = let a = c.args in
    let (n, e) = high-at a.w 10 c.wide_code-code.ensures c.in-10.is (omega arith) in
    met-paced (codes.read (settings_of a.s.now) a.d.now a.pace.now a.t a.w c.bank-in-10.ensures c.ten.ensures n e)
    (handed _ _ c.from_residual-in_err-read-in-10.ensures.1 ∙ c.in_err-read-in-10.ensures.value) c.read.ensures.d_after

pub returns-in_ok-read-in-10 : goal.returns-in_ok-read-in-10
returns-in_ok-read-in-10 c = let a = c.args in
    let (n, e) = high-at a.w 10 c.wide_code-code.ensures c.in-10.is (omega arith) in
    met-paced (codes.read (settings_of a.s.now) a.d.now a.pace.now a.t a.w c.bank-in-10.ensures c.ten.ensures n e)
    c.in_ok-read-in-10.ensures.value c.read.ensures.d_after

pub returns-in_err-write-in-2 : goal.returns-in_err-write-in-2
returns-in_err-write-in-2 c = let a = c.args in
    let (n, e) = high-at a.w 2 c.wide_code-code.ensures c.in-2.is (omega arith) in
    met-paced (codes.write (settings_of a.s.now) a.d.now a.pace.now a.t a.w c.bank-in-2.ensures c.ten-in-2.ensures n e)
    (handed _ _ c.from_residual-in_err-write-in-2.ensures.1 ∙ c.in_err-write-in-2.ensures.value) c.write.ensures.d_after

pub returns-in_ok-write-in-2 : goal.returns-in_ok-write-in-2
returns-in_ok-write-in-2 c = let a = c.args in
    let (n, e) = high-at a.w 2 c.wide_code-code.ensures c.in-2.is (omega arith) in
    met-paced (codes.write (settings_of a.s.now) a.d.now a.pace.now a.t a.w c.bank-in-2.ensures c.ten-in-2.ensures n e)
    c.in_ok-write-in-2.ensures.value c.write.ensures.d_after

pub returns-in_err-close_all-in-4 : goal.returns-in_err-close_all-in-4
returns-in_err-close_all-in-4 c = let a = c.args in
    let (n, e) = high-at a.w 4 c.wide_code-code.ensures c.in-4.is (omega arith) in
    met-paced (codes.close-all (settings_of a.s.now) a.d.now a.pace.now a.t a.w n e (sym c.ten-in-4.ensures ∙ c.if-ten.true))
    (handed _ _ c.from_residual-in_err-close_all-in-4.ensures.1 ∙ c.in_err-close_all-in-4.ensures.value) c.close_all.ensures.d_after

pub returns-in_ok-close_all-in-4 : goal.returns-in_ok-close_all-in-4
returns-in_ok-close_all-in-4 c = let a = c.args in
    let (n, e) = high-at a.w 4 c.wide_code-code.ensures c.in-4.is (omega arith) in
    met-paced (codes.close-all (settings_of a.s.now) a.d.now a.pace.now a.t a.w n e (sym c.ten-in-4.ensures ∙ c.if-ten.true))
    c.in_ok-close_all-in-4.ensures.value c.close_all.ensures.d_after

pub returns-in_err-close-in-4 : goal.returns-in_err-close-in-4
returns-in_err-close-in-4 c = let a = c.args in
    let (n, e) = high-at a.w 4 c.wide_code-code.ensures c.in-4.is (omega arith) in
    met-paced (codes.close (settings_of a.s.now) a.d.now a.pace.now a.t a.w c.bank-else-ten.ensures n e (sym c.ten-in-4.ensures ∙ c.if-ten.false))
    (handed _ _ c.from_residual-in_err-close-in-4.ensures.1 ∙ c.in_err-close-in-4.ensures.value) c.close.ensures.d_after

pub returns-in_ok-close-in-4 : goal.returns-in_ok-close-in-4
returns-in_ok-close-in-4 c = let a = c.args in
    let (n, e) = high-at a.w 4 c.wide_code-code.ensures c.in-4.is (omega arith) in
    met-paced (codes.close (settings_of a.s.now) a.d.now a.pace.now a.t a.w c.bank-else-ten.ensures n e (sym c.ten-in-4.ensures ∙ c.if-ten.false))
    c.in_ok-close-in-4.ensures.value c.close.ensures.d_after

pub returns-in_err-terminate-in-6 : goal.returns-in_err-terminate-in-6
returns-in_err-terminate-in-6 c = let a = c.args in
    let (n, e) = high-at a.w 6 c.wide_code-code.ensures c.in-6.is (omega arith) in
    met-paced (codes.terminate (settings_of a.s.now) a.d.now a.pace.now a.t a.w n e)
    (handed _ _ c.from_residual-in_err-terminate-in-6.ensures.1 ∙ c.in_err-terminate-in-6.ensures.value) c.terminate.ensures.d_after

pub returns-in_ok-terminate-in-6 : goal.returns-in_ok-terminate-in-6
returns-in_ok-terminate-in-6 c = let a = c.args in
    let (n, e) = high-at a.w 6 c.wide_code-code.ensures c.in-6.is (omega arith) in
    met-paced (codes.terminate (settings_of a.s.now) a.d.now a.pace.now a.t a.w n e)
    c.in_ok-terminate-in-6.ensures.value c.terminate.ensures.d_after

pub returns-in_err-refresh-in-8 : goal.returns-in_err-refresh-in-8
returns-in_err-refresh-in-8 c = let a = c.args in
    let (n, e) = high-at a.w 8 c.wide_code-code.ensures c.in-8.is (omega arith) in
    met-paced (codes.refresh (settings_of a.s.now) a.d.now a.pace.now a.t a.w n e)
    (handed _ _ c.from_residual-in_err-refresh-in-8.ensures.1 ∙ c.in_err-refresh-in-8.ensures.value) c.refresh.ensures.d_after

pub returns-in_ok-refresh-in-8 : goal.returns-in_ok-refresh-in-8
returns-in_ok-refresh-in-8 c = let a = c.args in
    let (n, e) = high-at a.w 8 c.wide_code-code.ensures c.in-8.is (omega arith) in
    met-paced (codes.refresh (settings_of a.s.now) a.d.now a.pace.now a.t a.w n e)
    c.in_ok-refresh-in-8.ensures.value c.refresh.ensures.d_after

pub returns-in_err-mode_set-in-0 : goal.returns-in_err-mode_set-in-0
returns-in_err-mode_set-in-0 c = let a = c.args in
    let (n, e) = high-at a.w 0 c.wide_code-code.ensures c.in-0.is (omega arith) in
    met (codes.mode-set (settings_of a.s.now) a.d.now a.pace.now a.t a.w c.bank-in-0.ensures.0 c.address-in-0.ensures.0 n e)
    (handed _ _ c.from_residual-in_err-mode_set-in-0.ensures.1 ∙ c.in_err-mode_set-in-0.ensures.value) c.mode_set.ensures.d_after c.mode_set.ensures.pace_after

pub returns-in_ok-mode_set-in-0 : goal.returns-in_ok-mode_set-in-0
returns-in_ok-mode_set-in-0 c = let a = c.args in
    let (n, e) = high-at a.w 0 c.wide_code-code.ensures c.in-0.is (omega arith) in
    met (codes.mode-set (settings_of a.s.now) a.d.now a.pace.now a.t a.w c.bank-in-0.ensures.0 c.address-in-0.ensures.0 n e)
    c.in_ok-mode_set-in-0.ensures.value c.mode_set.ensures.d_after c.mode_set.ensures.pace_after

pub returns-in_err-quiet-in-14 : goal.returns-in_err-quiet-in-14
returns-in_err-quiet-in-14 c = let a = c.args in
    let (n, e) = high-at a.w 14 c.wide_code-code.ensures c.in-14.is (omega arith) in
    met-paced (codes.quiet (settings_of a.s.now) a.d.now a.pace.now a.t a.w refl n (ap quiet_code e))
    (handed _ _ c.from_residual-in_err-quiet-in-14.ensures.1 ∙ c.in_err-quiet-in-14.ensures.value) c.quiet.ensures.d_after

pub returns-in_ok-quiet-in-14 : goal.returns-in_ok-quiet-in-14
returns-in_ok-quiet-in-14 c = let a = c.args in
    let (n, e) = high-at a.w 14 c.wide_code-code.ensures c.in-14.is (omega arith) in
    met-paced (codes.quiet (settings_of a.s.now) a.d.now a.pace.now a.t a.w refl n (ap quiet_code e))
    c.in_ok-quiet-in-14.ensures.value c.quiet.ensures.d_after

pub returns-in_err-quiet-in-1 : goal.returns-in_err-quiet-in-1
returns-in_err-quiet-in-1 c = let a = c.args in
    let (n, silent) = deselects a.w c.wide_code-code.ensures c.in-1.is in
    met-paced (codes.quiet (settings_of a.s.now) a.d.now a.pace.now a.t a.w refl n silent)
    (handed _ _ c.from_residual-in_err-quiet-in-1.ensures.1 ∙ c.in_err-quiet-in-1.ensures.value) c.quiet-in-1.ensures.d_after

pub returns-in_ok-quiet-in-1 : goal.returns-in_ok-quiet-in-1
returns-in_ok-quiet-in-1 c = let a = c.args in
    let (n, silent) = deselects a.w c.wide_code-code.ensures c.in-1.is in
    met-paced (codes.quiet (settings_of a.s.now) a.d.now a.pace.now a.t a.w refl n silent)
    c.in_ok-quiet-in-1.ensures.value c.quiet-in-1.ensures.d_after

pub returns-in_err-low-in_default : goal.returns-in_err-low-in_default
returns-in_err-low-in_default c = let a = c.args in
    let (l, above) = low-is a.w c.wide_code-code.ensures (beyond c.in_default.in_default-own.rest) in
    met-low (settings_of a.s.now) a.d.now a.pace.now a.t a.w l
    (record { value = (handed _ _ c.from_residual-in_err-low-in_default.ensures.1 ∙ c.in_err-low-in_default.ensures.value); d_after = c.low.ensures.d_after })

pub returns-in_ok-low-in_default : goal.returns-in_ok-low-in_default
returns-in_ok-low-in_default c = let a = c.args in
    let (l, above) = low-is a.w c.wide_code-code.ensures (beyond c.in_default.in_default-own.rest) in
    met-low (settings_of a.s.now) a.d.now a.pace.now a.t a.w l
    (record { value = c.in_ok-low-in_default.ensures.value; d_after = c.low.ensures.d_after })
