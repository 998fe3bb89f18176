use mathlib.Core.Path.{refl}
use native.Mathlib.Omega.{arith}
use Rattle.reading.specs.Settings.{settings_of}
use Rattle.drafts.proofs.Commands.{all_closed}
use Rattle.drafts.proofs.Scheduler.close_all.Goals as goal

pub returns : goal.returns
returns c = let a = c.args in
    let noted = c.note.ensures in
    all_closed a.state.now a.words.now (omega arith) c.cycle_for-t.ensures refl _ noted.same_deadlines noted.standing_after noted.words_after
    (settings_of a.self.now.settings.now) a.self.now.paced c.close_all.ensures refl c.close_all_after.ensures refl
