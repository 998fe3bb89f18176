use Rattle.browser.proofs.Seeing.{sees-among, sees-none}
use Rattle.browser.proofs.event_at.Goals as goal

pub returns-then-at-events : goal.returns-then-at-events
returns-then-at-events c = rw (c.cycle_at-cycle.ensures, c.pins_at-pins.ensures, sees-among c.args.events.now.bytes.now c.args.events.now.count c.args.at c.if-at-events.true)

pub returns : goal.returns
returns c = rw (sees-none c.args.events.now.bytes.now c.args.events.now.count c.args.at c.if-at-events.false)
