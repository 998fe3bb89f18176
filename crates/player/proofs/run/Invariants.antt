-- The invariant: the window shows what the cells hold, and the rest of the replay ends the whole (Running).
use Rattle.player.proofs.Running.{Ran}
use Rattle.player.proofs.run.Given as goal

abbrev pub invariant-events : goal.invariant-events
invariant-events l =
    let o = l.clean.opened in
    Ran o.settings o.events.bytes.now o.events.count l.first l.initial.window l.writes l.initial.reads l.window l.reads l.state.firsts l.state.mode l.taken l.next l.i
