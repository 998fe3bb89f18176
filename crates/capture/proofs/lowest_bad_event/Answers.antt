-- The invariant: `next` is the first cycle above that of the event before i, and what is found from i on is what is found at all.
use mathlib.Core.Path.{sym, ◌∙◌}
use native.Mathlib.Omega.{arith}
use Rattle.capture.proofs.Walks.{begins, goes_on, stops, ends, room}
use Rattle.capture.proofs.lowest_bad_event.Goals as goal

pub returns-then-all_fit : goal.returns-then-all_fit
returns-then-all_fit c = sym (c.all_fit.ensures c.if-all_fit.true)

pub events-init : goal.events-init
events-init c = begins c.args.limit c.args.bytes.now c.args.n

pub cycle_at-cycle-requires : goal.cycle_at-cycle-requires
cycle_at-cycle-requires c = omega arith

pub pins_at-pins-requires : goal.pins_at-pins-requires
pins_at-pins-requires c = omega arith

pub event_fits-requires : goal.event_fits-requires
event_fits-requires c = tt

pub overflow_add-next : goal.overflow_add-next
overflow_add-next c = omega (arith, room _ _ _ _ (sym c.event_fits.ensures ∙ c.if-event_fits.true))

pub overflow_step-i : goal.overflow_step-i
overflow_step-i c = omega arith

pub events-smaller : goal.events-smaller
events-smaller c = omega arith

pub events-preserved : goal.events-preserved
events-preserved c = goes_on c.events.invariant (omega arith) c.cycle_at-cycle.ensures c.pins_at-pins.ensures
    (sym c.event_fits.ensures ∙ c.if-event_fits.true)

pub overflow_cast-result : goal.overflow_cast-result
overflow_cast-result c = omega arith

pub returns-in-events : goal.returns-in-events
returns-in-events c = stops c.events.invariant (omega arith) c.cycle_at-cycle.ensures c.pins_at-pins.ensures
    (sym c.event_fits.ensures ∙ c.if-event_fits.false)

pub returns : goal.returns
returns c = ends c.events.invariant (omega arith)
