use mathlib.Core.Path.{sym, ◌∙◌}
use native.Mathlib.Omega.{arith}
use Rattle.reading.specs.Settings.{settings_of}
use Rattle.soonest.proofs.Places.{row-is}
use Rattle.drafts.specs.Room.{draft}
use Rattle.serving.proofs.Growing.{close-grows, room_after}
use Rattle.serving.proofs.Serves.{opened-idle, opened-there, opened-other}
use Rattle.serving.proofs.open_row.Goals as goal

pub returns-then-state-b-eq0 : goal.returns-then-state-b-eq0
returns-then-state-b-eq0 c = let a = c.args in
    opened-idle (settings_of a.scheduler.now.settings.now) a.row.bank.number a.row.number (draft a.state.now a.words.now)
    c.if-state-b-eq0.true c.activate.ensures

pub returns-then-state-b : goal.returns-then-state-b
returns-then-state-b c = let a = c.args in
    let b = a.row.bank in
    opened-there (settings_of a.scheduler.now.settings.now) b.number a.row.number (draft a.state.now a.words.now) c.if-state-b-eq0.false
    (row-is a.state.now (omega arith) b.number b.of_four ∙ c.if-state-b.true ∙ c.from.ensures)

pub activate-requires-2 : goal.activate-requires-2
activate-requires-2 c = let a = c.args in
    let grows = close-grows (settings_of a.scheduler.now.settings.now) a.row.bank.number (draft a.state.now a.words.now) in
    room_after a.state.now 1 1 c.requires grows _ c.close.ensures

pub returns : goal.returns
returns c = let a = c.args in
    let b = a.row.bank in
    opened-other (settings_of a.scheduler.now.settings.now) b.number a.row.number (draft a.state.now a.words.now) c.if-state-b-eq0.false
    (λ e. c.if-state-b.false (sym (row-is a.state.now (omega arith) b.number b.of_four) ∙ e ∙ sym c.from.ensures)) c.close.ensures c.activate-2.ensures
