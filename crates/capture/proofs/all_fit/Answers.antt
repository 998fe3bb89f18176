use native.Mathlib.Omega.{arith}
use Rattle.capture.proofs.Fitting.{begins, goes_on, ends, no-events}
use Rattle.capture.proofs.all_fit.Goals as goal

pub returns-then-n-eq0 : goal.returns-then-n-eq0
returns-then-n-eq0 c = λ e. no-events c.args.limit c.args.bytes.now c.args.n c.if-n-eq0.true

pub pins_at-requires : goal.pins_at-requires
pins_at-requires c = omega arith

pub cycle_at-last-requires : goal.cycle_at-last-requires
cycle_at-last-requires c = omega arith

pub loop-i-init : goal.loop-i-init
loop-i-init c = begins c.args.limit c.args.bytes.now c.args.n (omega arith) c.pins_at.ensures c.cycle_at-last.ensures

pub cycle_at-t-requires : goal.cycle_at-t-requires
cycle_at-t-requires c = omega arith

pub pins_at-w-requires : goal.pins_at-w-requires
pins_at-w-requires c = omega arith

pub both-requires : goal.both-requires
both-requires c = tt

pub both-fine-requires : goal.both-fine-requires
both-fine-requires c = tt

pub overflow_step-i : goal.overflow_step-i
overflow_step-i c = omega arith

pub loop-i-smaller : goal.loop-i-smaller
loop-i-smaller c = omega arith

pub loop-i-preserved : goal.loop-i-preserved
loop-i-preserved c = goes_on c.args.limit c.args.bytes.now c.args.n c.loop-i.invariant (omega arith) c.cycle_at-t.ensures
    c.pins_at-w.ensures c.both.ensures c.both-fine.ensures

pub both-requires-2 : goal.both-requires-2
both-requires-2 c = tt

pub returns : goal.returns
returns c = ends c.args.limit c.args.bytes.now c.args.n c.loop-i.invariant (omega arith) c.both-2.ensures
