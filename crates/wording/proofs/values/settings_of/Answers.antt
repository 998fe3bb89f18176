use native.Mathlib.Omega.{arith}
use borrow.Author.Tests.{lt-ltb, le-ltb}
use lib.ListN.{length}
use Rattle.reading.specs.Capture.{count_in, events_start}
use Rattle.capture.proofs.Accepted.{count-range}
use Rattle.wording.proofs.values.settings_of.Goals as goal

pub returns-then-capture-lt-EVENTS : goal.returns-then-capture-lt-EVENTS
returns-then-capture-lt-EVENTS c = let capture = c.args.capture.now in
    simp (lt-ltb (length capture) (events_start (count_in capture)) (omega (arith, (count-range capture).0, c.if-capture-lt-EVENTS.true)))

pub events_start-requires : goal.events_start-requires
events_start-requires c = omega arith

pub returns-then-capture-events_start : goal.returns-then-capture-events_start
returns-then-capture-events_start c = let capture = c.args.capture.now in
    simp (lt-ltb (length capture) (events_start (count_in capture)) (omega (arith, c.events_start.ensures.value, c.if-capture-events_start.true)))

pub settings_in-requires : goal.settings_in-requires
settings_in-requires c = omega (arith, c.events_start.ensures.value, c.if-capture-events_start.false)

pub returns : goal.returns
returns c = let capture = c.args.capture.now in
    simp (le-ltb (length capture) (events_start (count_in capture)) (omega (arith, c.events_start.ensures.value, c.if-capture-events_start.false)))
    c.settings_in.ensures
