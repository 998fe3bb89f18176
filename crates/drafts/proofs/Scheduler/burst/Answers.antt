use mathlib.Core.Path.{refl}
use native.Mathlib.Omega.{arith}
use Rattle.reading.specs.Settings.{settings_of}
use Rattle.drafts.proofs.Commands.{burst}
use Rattle.drafts.proofs.Scheduler.burst.Goals as goal

pub returns : goal.returns
returns c = let a = c.args in
    let noted = c.note.ensures in
    burst a.state.now a.words.now (omega arith) c.cycle_for-t.ensures c.give.ensures.same_events _ noted.same_deadlines noted.standing_after noted.words_after
    (settings_of a.self.now.settings.now) a.b.number a.self.now.closed a.write a.pins c.burst.ensures refl c.give.ensures.deadlines_after c.give.ensures.standing_after
