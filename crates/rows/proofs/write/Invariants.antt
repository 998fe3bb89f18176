use Rattle.rows.specs.Walks.{events_among}
use Rattle.rows.proofs.Writing.{Banked}
use Rattle.rows.proofs.write.Given as goal

-- the openings of the banks below this one are written
abbrev pub invariant-loop-bank : goal.invariant-loop-bank
invariant-loop-bank l = Banked (events_among l.events.bytes.now l.n) l.initial.index l.index l.next l.bank
