use mathlib.Core.Path.{refl}
use native.Mathlib.Omega.{arith}
use Rattle.reading.specs.Settings.{settings_of}
use Rattle.drafts.proofs.Commands.{closed}
use Rattle.drafts.proofs.Scheduler.close.Goals as goal

pub returns : goal.returns
returns c = let a = c.args in
    let noted = c.note.ensures in
    closed a.state.now a.words.now (omega arith) c.cycle_for-t.ensures refl _ noted.same_deadlines noted.standing_after noted.words_after
    (settings_of a.self.now.settings.now) a.b.number a.self.now.paced c.close.ensures c.close_pins.ensures c.close_after.ensures refl
