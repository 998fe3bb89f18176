use mathlib.Core.Path.{refl}
use native.Mathlib.Omega.{arith}
use Rattle.std.proofs.lemmas.Result.{err_from_is_err_and}
use Rattle.judge.specs.Meaning.{events_in}
use Rattle.cells.specs.Telling.{judged_by}
use Rattle.player.proofs.Calling.{unfit, unplayed, no_room, all-playable, read-so, played-ends}
use Rattle.player.proofs.play_on.Goals as goal

pub returns-then-not-window_fits : goal.returns-then-not-window_fits
returns-then-not-window_fits c = let a = c.args in
    let x = a.clean.now in
    let es = events_in x.opened.events.bytes.now x.opened.events.count in
    let p = unfit (judged_by x) es a.first a.window.now a.writes.now a.reads.now c.window_fits.ensures c.if-not-window_fits.true in
    record { result_value = p.0; window_after = p.1.0; reads_after = p.1.1 }

pub returns-in_err-read : goal.returns-in_err-read
returns-in_err-read c = let a = c.args in
    let x = a.clean.now in
    let es = events_in x.opened.events.bytes.now x.opened.events.count in
    let r = err_from_is_err_and c.from_residual.result c.from_residual.ensures.1 in
    let p = unplayed (judged_by x) es a.first a.window.now a.writes.now a.reads.now c.window_fits.ensures c.if-not-window_fits.false c.in_err-read.ensures refl in
    rw (r.1, r.2) (record { result_value = p.0; window_after = p.1.0; reads_after = p.1.1 })

pub returns-then-reads-read : goal.returns-then-reads-read
returns-then-reads-read c = let a = c.args in
    let x = a.clean.now in
    let es = events_in x.opened.events.bytes.now x.opened.events.count in
    let p =
    no_room (judged_by x) es a.first a.window.now a.writes.now a.reads.now c.window_fits.ensures c.if-not-window_fits.false c.in_ok-read.ensures refl c.if-reads-read.true in
    record { result_value = p.0; window_after = p.1.0; reads_after = p.1.1 }

pub run-requires : goal.run-requires
run-requires c = let a = c.args in
    let x = a.clean.now in
    let es = events_in x.opened.events.bytes.now x.opened.events.count in
    record {
      coded = c.requires;
      playable = all-playable (judged_by x) es a.first a.window.now a.writes.now a.reads.now c.window_fits.ensures c.if-not-window_fits.false c.in_ok-read.ensures refl;
      room = omega (
        arith,
        read-so (judged_by x) es a.first a.window.now a.writes.now a.reads.now c.window_fits.ensures c.if-not-window_fits.false c.in_ok-read.ensures refl,
        c.if-reads-read.false,
      );
    }

pub returns : goal.returns
returns c = let a = c.args in
    let x = a.clean.now in
    let es = events_in x.opened.events.bytes.now x.opened.events.count in
    let p =
    played-ends (judged_by x) es a.first a.window.now a.writes.now a.reads.now c.window_fits.ensures c.if-not-window_fits.false c.in_ok-read.ensures refl
    (omega (arith, c.if-reads-read.false)) c.run.ensures.window_after c.run.ensures.reads_after in
    record { result_value = p.0; window_after = p.1.0; reads_after = p.1.1 }
