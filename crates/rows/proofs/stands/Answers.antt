use native.Mathlib.Omega.{arith}
use Rattle.rows.proofs.Writing.{stood-first, stood_on, stood-last}
use Rattle.rows.proofs.stands.Goals as goal

pub loop-i-init : goal.loop-i-init
loop-i-init c = stood-first _ _ _

pub loop-i-preserved : goal.loop-i-preserved
loop-i-preserved c = stood_on _ _ _ c.loop-i.invariant c.loop-i-test.true c.pins_at.ensures c.stood-x.ensures

pub returns : goal.returns
returns c = stood-last _ _ _ c.loop-i.invariant (omega arith)
