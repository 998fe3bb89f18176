-- The invariant: the beats are those counted, and those of the events from i on (Counting).
use Rattle.cells.proofs.Counting.{Counted}
use Rattle.cells.proofs.held.Clean.kept_beats.Given as goal

abbrev pub invariant-events : goal.invariant-events
invariant-events l = let o = l.self.opened in Counted o.settings o.events.bytes.now o.events.count l.mode l.read l.written l.i
