use Rattle.std.proofs.Common.{arith}
use Rattle.rows.proofs.Tallying.{counts-none, counts-room, counts-on, counted}
use Rattle.rows.proofs.count.Goals as goal

pub loop-event-init : goal.loop-event-init
loop-event-init c = rw (
  c.into_iter-event-iterator.ensures.into_iter_gives,
  c.take-event-items.ensures.source,
  c.take-event-items.ensures.count,
  c.start.ensures.0,
  c.start.ensures.1,
  c.none_yet-t.ensures,
)
    (counts-none _ _)

pub noted_pins-t-requires : goal.noted_pins-t-requires
noted_pins-t-requires c = counts-room c.loop-event.invariant (omega (arith, c.in-Some.ensures.steps.1)) c.ranges.n.fits

pub loop-event-preserved : goal.loop-event-preserved
loop-event-preserved c = let p = c.in-Some.ensures.steps in rw c.noted_pins-t.ensures (counts-on c.loop-event.invariant p.0 p.1)

pub returns : goal.returns
returns c = counted c.loop-event.invariant (λ l. (c.in-None.ensures.steps l).0)
