use mathlib.Core.Path.{refl}
use native.Mathlib.Omega.{arith}
use Rattle.reading.specs.Settings.{settings_of}
use Rattle.drafts.proofs.Commands.{refreshed}
use Rattle.drafts.proofs.Scheduler.refresh.Goals as goal

pub returns : goal.returns
returns c = let a = c.args in
    let noted = c.note.ensures in
    refreshed a.state.now a.words.now (omega arith) c.cycle_for-t.ensures refl _ noted.same_deadlines noted.standing_after noted.words_after
    (settings_of a.self.now.settings.now) c.refresh.ensures refl c.refresh_after.ensures refl
