-- The invariant: the bursts of the events from i on, with the words left, decide (Trying).
use Rattle.player.proofs.Trying.{Trying}
use Rattle.player.proofs.attempt.Given as goal

abbrev pub invariant-events : goal.invariant-events
invariant-events l =
    let o = l.clean.opened in
    Trying o.settings o.events.bytes.now o.events.count l.first l.size l.supply l.state.firsts l.state.mode l.left l.read l.i
