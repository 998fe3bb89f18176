use native.Mathlib.Omega.{arith}
use Rattle.judge.proofs.Walking.{begins, kept_on, broke-at, ends}
use Rattle.judge.proofs.walk.Goals as goal

pub events-init : goal.events-init
events-init c = begins c.args.s.now c.args.bytes.now c.args.n c.requires.started

pub overflow_cast-at : goal.overflow_cast-at
overflow_cast-at c = omega arith

pub cycle_at-cycle-requires : goal.cycle_at-cycle-requires
cycle_at-cycle-requires c = omega (arith, c.requires.fit.long)

pub pins_at-pins-requires : goal.pins_at-pins-requires
pins_at-pins-requires c = omega (arith, c.requires.fit.long)

pub overflow_add-i : goal.overflow_add-i
overflow_add-i c = omega arith

pub events-smaller : goal.events-smaller
events-smaller c = omega arith

pub events-preserved : goal.events-preserved
events-preserved c = kept_on c.args.s.now c.args.bytes.now c.args.n c.requires.fit c.events.invariant c.events-test.true
    c.cycle_at-cycle.ensures c.pins_at-pins.ensures
    c.step.result c.step.ensures.result_value c.step.ensures.d_after c.step.ensures.pace_after c.in_default.is

pub returns-in-events : goal.returns-in-events
returns-in-events c =
    let p = broke-at c.args.s.now c.args.bytes.now c.args.n c.requires.fit c.events.invariant c.events-test.true
    c.cycle_at-cycle.ensures c.pins_at-pins.ensures
    c.step.result c.step.ensures.result_value c.step.ensures.d_after c.step.ensures.pace_after c.in-Err.is in
    record { value = p.0; d_after = p.1.0; pace_after = p.1.1 }

pub returns : goal.returns
returns c =
    let p = ends c.args.s.now c.args.bytes.now c.args.n c.events.invariant (omega arith) in
    record { value = p.0; d_after = p.1.0; pace_after = p.1.1 }
