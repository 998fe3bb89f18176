use native.Mathlib.Omega.{arith}
use Rattle.beats.proofs.Columns.{bank-fits, first-lt}
use Rattle.beats.proofs.first_cell.Goals as goal

pub overflow_mul-result : goal.overflow_mul-result
overflow_mul-result c = rw c.power.ensures (omega (arith, bank-fits _ c.requires.0 c.args.bank c.args.row c.requires.1.0 c.requires.1.1))

pub overflow_add-result : goal.overflow_add-result
overflow_add-result c = rw c.power.ensures (omega (arith, bank-fits _ c.requires.0 c.args.bank c.args.row c.requires.1.0 c.requires.1.1))

pub overflow_mul-result-2 : goal.overflow_mul-result-2
overflow_mul-result-2 c = rw (c.power.ensures, c.power-2.ensures)
    (omega (arith, first-lt _ c.requires.0 c.args.bank c.args.row c.requires.1.0 c.requires.1.1))

pub returns : goal.returns
returns c = rw (c.power.ensures, c.power-2.ensures)
