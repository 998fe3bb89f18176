use Rattle.rows.proofs.Writing.{Stood}
use Rattle.rows.proofs.stands.Given as goal

abbrev pub invariant-loop-i : goal.invariant-loop-i
invariant-loop-i l = Stood l.events.bytes.now l.n l.bank l.x l.i
