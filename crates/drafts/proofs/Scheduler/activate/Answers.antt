use mathlib.Core.Path.{refl}
use native.Mathlib.Omega.{arith}
use Rattle.reading.specs.Settings.{settings_of}
use Rattle.soonest.proofs.Places.{row-set}
use Rattle.drafts.proofs.Commands.{activated}
use Rattle.drafts.proofs.Scheduler.activate.Goals as goal

pub returns : goal.returns
returns c = let a = c.args in
    let row = a.row in
    let noted = c.note.ensures in
    activated a.state.now a.words.now (omega arith) c.cycle_for-t.ensures refl _ noted.same_deadlines noted.standing_after noted.words_after
    (settings_of a.self.now.settings.now) row.bank.number row.number c.active.ensures c.active_pins.ensures c.active_after.ensures
    (rw (c.from.ensures) (row-set a.state.now (omega arith) row.bank.number row.number row.bank.of_four))
