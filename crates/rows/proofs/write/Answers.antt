use native.Mathlib.Omega.{arith}
use Rattle.rows.proofs.Writing.{banked-none, banked-room, banked-more, banked-all}
use Rattle.rows.proofs.write.Goals as goal

pub loop-bank-init : goal.loop-bank-init
loop-bank-init c = banked-none _ _

pub write_bank-next-requires : goal.write_bank-next-requires
write_bank-next-requires c = record { there = c.requires.there; n_in_bounds = banked-room c.loop-bank.invariant c.loop-bank-test.true c.requires.n_in_bounds }

pub loop-bank-preserved : goal.loop-bank-preserved
loop-bank-preserved c = banked-more c.loop-bank.invariant c.loop-bank-test.true (c.write_bank-next.ensures.value, c.write_bank-next.ensures.index_after)

pub returns : goal.returns
returns c = banked-all c.loop-bank.invariant (omega arith)
