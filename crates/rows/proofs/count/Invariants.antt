use Rattle.std.specs.Iterator.Adapters.{take_source, take_count}
use Rattle.browser.specs.Browsed.{events_left}
use Rattle.rows.proofs.Tallying.{Counting}
use Rattle.rows.proofs.count.Given as goal

-- counting on by the events that the reader has left gives what counting all gives
abbrev pub invariant-loop-event : goal.invariant-loop-event
invariant-loop-event l = Counting l.capture l.n l.t (events_left (take_source l.event-iterator)) (take_count l.event-iterator)
