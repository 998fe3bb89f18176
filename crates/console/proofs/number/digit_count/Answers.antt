use native.Mathlib.Omega.{arith}
use Rattle.console.proofs.number.Powers.{digits_by_log}
use Rattle.console.proofs.number.digit_count.Goals as goal

pub returns : goal.returns
returns c =
    let a = c.args in
    let log = c.checked_ilog.ensures in
    digits_by_log a.n a.base a.width _ c.checked_ilog.result c.requires.base c.requires.width_nonzero
    (λ some. log.variant.1 (some, omega arith)) log.power_le log.next_power_gt (omega (arith, c.max.ensures, c.unwrap_or.ensures))
