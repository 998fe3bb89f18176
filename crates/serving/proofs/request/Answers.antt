use native.Mathlib.Omega.{arith}
use Rattle.reading.specs.Settings.{settings_of}
use Rattle.drafts.specs.Room.{draft}
use Rattle.requests.proofs.Asking.{bank-low}
use Rattle.serving.proofs.Growing.{opening-grows, room_after, room_for}
use Rattle.serving.proofs.Serves.{requested}
use Rattle.serving.proofs.request.Goals as goal

pub invariant_of-bank : goal.invariant_of-bank
invariant_of-bank c = omega (arith, c.bank.ensures, bank-low (settings_of c.args.scheduler.now.settings.now) c.args.q c.requires.asked)

pub open_row-requires : goal.open_row-requires
open_row-requires c = room_for 3 2 c.requires.room (omega arith)

pub burst-requires : goal.burst-requires
burst-requires c = let a = c.args in
    let grows = opening-grows (settings_of a.scheduler.now.settings.now) c.bank.result c.row.result (draft a.state.now a.words.now) in
    room_after a.state.now 2 1 c.requires.room grows _ c.open_row.ensures

pub returns : goal.returns
returns c = let a = c.args in
    requested (settings_of a.scheduler.now.settings.now) (draft a.state.now a.words.now) a.q a.scheduler.now.closed
    c.bank.ensures c.row.ensures.value c.asks_write.ensures c.burst_pins-pins.ensures c.open_row.ensures c.burst.ensures
