-- The invariant: the window shows what the cells hold, and the rest of the replay ends the whole (Running).
use native.Mathlib.Omega.{arith}
use lib.ListN.{get_or}
use Rattle.player.proofs.Given.{found, found_none}
use Rattle.player.proofs.Window.{data-length}
use Rattle.player.proofs.Running.{as_wide, as_long, begins, passes, holds-all, all-taken, masks-fit, stores-on, reads_fit, reads_on, ends}
use Rattle.player.proofs.run.Goals as goal

pub events-init : goal.events-init
events-init c = let a = c.args in
    let x = a.clean.now in
    let o = x.opened in
    begins o.settings o.events.bytes.now o.events.count a.first a.window.now a.writes.now a.reads.now x.listable x.clean c.start-state.ensures c.requires.playable c.requires.room

pub turn-requires-clause-before : goal.turn-requires-clause-before
turn-requires-clause-before c = c.events.invariant.at

pub events-preserved-in_default : goal.events-preserved-in_default
events-preserved-in_default c = let a = c.args in
    let x = a.clean.now in
    let o = x.opened in
    let w = c.events in
    passes o.settings o.events.bytes.now o.events.count a.first a.window.now a.writes.now a.reads.now x.listable x.clean w.invariant c.events-test.true
    (found_none o.settings o.events.bytes.now o.events.count w.i c.turn.ensures.given_value c.in_default.is) c.turn.ensures.behind

pub store-requires : goal.store-requires
store-requires c = let a = c.args in
    let x = a.clean.now in
    let o = x.opened in
    let w = c.events in
    let f = found o.settings o.events.bytes.now o.events.count w.i c.turn.ensures.given_value c.in-Some.is in
    record {
      inside = holds-all o.settings o.events.bytes.now o.events.count a.first a.window.now a.writes.now a.reads.now x.listable x.clean w.invariant c.events-test.true f;
      supplied = masks-fit o.settings o.events.bytes.now o.events.count a.first a.window.now a.writes.now a.reads.now
          x.listable x.clean w.invariant c.events-test.true f (get_or o.settings 0 0) c.requires.coded c.if-burst.true;
    }

pub overflow_add-taken : goal.overflow_add-taken
overflow_add-taken c = let a = c.args in
    let x = a.clean.now in
    let o = x.opened in
    let w = c.events in
    let f = found o.settings o.events.bytes.now o.events.count w.i c.turn.ensures.given_value c.in-Some.is in
    omega (
      arith,
      all-taken o.settings o.events.bytes.now o.events.count a.first a.window.now a.writes.now a.reads.now
          x.listable x.clean w.invariant c.events-test.true f (get_or o.settings 0 0) c.requires.coded c.if-burst.true,
      c.burst_length.ensures,
      data-length a.writes.now,
    )

pub events-preserved-then-burst : goal.events-preserved-then-burst
events-preserved-then-burst c = let a = c.args in
    let x = a.clean.now in
    let o = x.opened in
    let w = c.events in
    let f = found o.settings o.events.bytes.now o.events.count w.i c.turn.ensures.given_value c.in-Some.is in
    stores-on o.settings o.events.bytes.now o.events.count a.first a.window.now a.writes.now a.reads.now
    x.listable x.clean w.invariant c.events-test.true f (get_or o.settings 0 0) c.requires.coded c.if-burst.true
    c.burst_length.ensures c.store.ensures c.turn.ensures.behind

pub fetch-requires : goal.fetch-requires
fetch-requires c = let a = c.args in
    let x = a.clean.now in
    let o = x.opened in
    let w = c.events in
    let f = found o.settings o.events.bytes.now o.events.count w.i c.turn.ensures.given_value c.in-Some.is in
    record {
      inside = holds-all o.settings o.events.bytes.now o.events.count a.first a.window.now a.writes.now a.reads.now x.listable x.clean w.invariant c.events-test.true f;
      room = reads_fit o.settings o.events.bytes.now o.events.count a.first a.window.now a.writes.now a.reads.now
          x.listable x.clean w.invariant c.events-test.true f (get_or o.settings 0 0) c.requires.coded c.if-burst.false;
    }

pub overflow_add-next : goal.overflow_add-next
overflow_add-next c = let a = c.args in
    let x = a.clean.now in
    let o = x.opened in
    let w = c.events in
    let f = found o.settings o.events.bytes.now o.events.count w.i c.turn.ensures.given_value c.in-Some.is in
    omega (
      arith,
      reads_fit o.settings o.events.bytes.now o.events.count a.first a.window.now a.writes.now a.reads.now
          x.listable x.clean w.invariant c.events-test.true f (get_or o.settings 0 0) c.requires.coded c.if-burst.false,
      as_long o.settings o.events.bytes.now o.events.count a.first a.window.now a.writes.now a.reads.now w.invariant,
    )

pub events-preserved : goal.events-preserved
events-preserved c = let a = c.args in
    let x = a.clean.now in
    let o = x.opened in
    let w = c.events in
    let f = found o.settings o.events.bytes.now o.events.count w.i c.turn.ensures.given_value c.in-Some.is in
    reads_on o.settings o.events.bytes.now o.events.count a.first a.window.now a.writes.now a.reads.now
    x.listable x.clean w.invariant c.events-test.true f (get_or o.settings 0 0) c.requires.coded c.if-burst.false c.fetch.ensures c.turn.ensures.behind

pub shape_of-window : goal.shape_of-window
shape_of-window c = let a = c.args in
    let o = a.clean.now.opened in
    as_wide o.settings o.events.bytes.now o.events.count a.first a.window.now a.writes.now a.reads.now c.events.invariant

pub shape_of-reads : goal.shape_of-reads
shape_of-reads c = let a = c.args in
    let o = a.clean.now.opened in
    as_long o.settings o.events.bytes.now o.events.count a.first a.window.now a.writes.now a.reads.now c.events.invariant

pub returns : goal.returns
returns c = let a = c.args in
    let o = a.clean.now.opened in
    let p = ends o.settings o.events.bytes.now o.events.count a.first a.window.now a.writes.now a.reads.now c.events.invariant (omega (arith, c.events-test.false)) in
    record { window_after = p.0; reads_after = p.1 }
