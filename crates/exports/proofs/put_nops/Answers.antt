use Rattle.std.proofs.Common.{refl, arith}
use Rattle.exports.proofs.Bridges.{nops-none, nops-on, nops-stored}
use Rattle.exports.proofs.put_nops.Goals as goal

pub nops-init : goal.nops-init
nops-init c = let a = c.args in nops-none a.last a.k a.out.now a.at

pub overflow_add-cycle : goal.overflow_add-cycle
overflow_add-cycle c = omega (arith, c.nops.invariant.counted, c.requires.early)

pub overflow_mul-j : goal.overflow_mul-j
overflow_mul-j c = omega (arith, c.requires.early)

pub overflow_add-at : goal.overflow_add-at
overflow_add-at c = omega (arith, c.requires.room)

pub put_record-requires : goal.put_record-requires
put_record-requires c = omega (arith, c.nops.invariant.long, c.requires.room)

pub overflow_step-j : goal.overflow_step-j
overflow_step-j c = omega arith

pub nops-smaller : goal.nops-smaller
nops-smaller c = omega arith

pub nops-preserved : goal.nops-preserved
nops-preserved c = nops-on c.nops.invariant c.nops-test.true refl c.put_record.ensures

pub shape_of-out : goal.shape_of-out
shape_of-out c = c.nops.invariant.long

pub returns : goal.returns
returns c = nops-stored c.nops.invariant c.nops-test.false
