use native.Mathlib.Omega.{arith}
use Rattle.std.proofs.Common.{refl}
use Rattle.asking.proofs.Finding.{tells-none, tells-room, tells-on, told-all}
use Rattle.asking.proofs.records_of.Goals as goal

pub loop-bank-init : goal.loop-bank-init
loop-bank-init c = tells-none _ refl

pub overflow_add-before : goal.overflow_add-before
overflow_add-before c = omega (arith, tells-room c.requires c.loop-bank.invariant (omega (arith, c.requires.four)))

pub loop-bank-preserved : goal.loop-bank-preserved
loop-bank-preserved c = tells-on c.requires c.loop-bank.invariant (omega (arith, c.requires.four))

pub returns : goal.returns
returns c = told-all c.requires c.loop-bank.invariant (omega (arith, c.requires.four))
