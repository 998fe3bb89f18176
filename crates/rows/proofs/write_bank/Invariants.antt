use Rattle.rows.proofs.Writing.{Written}
use Rattle.rows.proofs.write_bank.Given as goal

abbrev pub invariant-loop-i : goal.invariant-loop-i
invariant-loop-i l = Written l.events.bytes.now l.n l.bank l.initial.index l.from l.index l.x l.next l.i
