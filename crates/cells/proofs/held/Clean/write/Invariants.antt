-- The invariant: the buffer as it was, with the cells of the events before i stored from its front on (Writing).
use Rattle.cells.proofs.Writing.{Written}
use Rattle.cells.proofs.held.Clean.write.Given as goal

abbrev pub invariant-bursts : goal.invariant-bursts
invariant-bursts g l =
    let o = l.clean.opened in
    Written o.settings o.events.bytes.now o.events.count l.initial.out l.out l.firsts l.mode l.next l.i
