use borrow.Author.Tests.{le-leb, lt-leb, lt-ltb, le-ltb}
use Rattle.capture.specs.Meaning.{fits_from}
use Rattle.capture.proofs.event_fits.Goals as goal

pub returns-then-limit-pins : goal.returns-then-limit-pins
unfolding fits_from
returns-then-limit-pins c = rw (le-ltb _ _ c.if-limit-pins.true)

pub returns-then-cycle-gt-LAST_CYCLE : goal.returns-then-cycle-gt-LAST_CYCLE
unfolding fits_from
returns-then-cycle-gt-LAST_CYCLE c = rw (lt-ltb _ _ c.if-limit-pins.false, lt-leb _ _ c.if-cycle-gt-LAST_CYCLE.true)

pub returns : goal.returns
unfolding fits_from
returns c = rw (lt-ltb _ _ c.if-limit-pins.false, le-leb _ _ c.if-cycle-gt-LAST_CYCLE.false)
