use native.Mathlib.Omega.{arith}
use mathlib.Core.Path.{refl, ◌∙◌}
use Rattle.reading.specs.Settings.{settings_of}
use Rattle.soonest.specs.Standing.{standing}
use Rattle.soonest.proofs.Places.{read-end-set, write-end-set}
use Rattle.drafts.proofs.Commands.{gave-write, gave_read}
use Rattle.drafts.proofs.Scheduler.give.Goals as goal

pub returns-then-write : goal.returns-then-write
returns-then-write c = let a = c.args in
    let p = gave-write (settings_of a.self.now.settings.now) a.state.now.deadlines (standing a.state.now) a.t a.b.number a.self.now.closed a.self.now.paced
    c.end_of-end.ensures c.if-write.true c.write_after.ensures in
    record { deadlines_after = p.0; standing_after = write-end-set a.state.now (omega arith) c.end_of-end.result ∙ p.1; same_events = refl }

pub returns : goal.returns
returns c = let a = c.args in
    let p = gave_read (settings_of a.self.now.settings.now) a.state.now.deadlines (standing a.state.now) a.t a.b.number a.self.now.closed a.self.now.paced
    c.end_of-end.ensures c.if-write.false c.read_after.ensures in
    record { deadlines_after = p.0; standing_after = read-end-set a.state.now (omega arith) c.end_of-end.result ∙ p.1; same_events = refl }
