use Rattle.reading.specs.Settings.{settings_of}
use Rattle.hidden.proofs.Filling.{Writing}
use Rattle.hidden.proofs.write_events.Given as goal

abbrev pub invariant-loop-i : goal.invariant-loop-i
invariant-loop-i l = Writing (settings_of l.s) l.events.bytes.now l.events.count l.initial.out l.at l.out l.i
