-- The invariant: the beats are those counted, and those of the events from i on (Counting).
use mathlib.Core.Path.{refl}
use native.Mathlib.Omega.{arith}
use Rattle.beats.specs.Kept.{at, behind}
use Rattle.beats.proofs.Looking.{kept-le}
use Rattle.cells.specs.Telling.{judged_by}
use Rattle.cells.proofs.Pairs.{pair-kept}
use Rattle.cells.proofs.Counting.{begins, room, goes_on, all_read, all-written}
use Rattle.cells.proofs.held.Clean.kept_beats.Goals as goal

pub events-init : goal.events-init
events-init c = let x = c.args.self.now in
    begins x.opened.settings x.opened.events.bytes.now x.opened.events.count x.listable x.clean

pub pairs-beats-requires-clause-keeps_pair : goal.pairs-beats-requires-clause-keeps_pair
pairs-beats-requires-clause-keeps_pair c = let x = c.args.self.now in
    pair-kept x.opened.settings x.opened.events.bytes.now x.opened.events.count x.listable x.clean c.events.i c.events-test.true c.events.invariant.on.moded

pub overflow_mul-beats : goal.overflow_mul-beats
overflow_mul-beats c = let x = c.args.self.now in
    omega (arith, c.pairs-beats.ensures, kept-le (judged_by x) c.events.mode (at x.opened.events c.events.i) (behind x.opened.events c.events.i))

pub overflow_add-read : goal.overflow_add-read
overflow_add-read c = let x = c.args.self.now in
    omega (
      arith,
      room x.opened.settings x.opened.events.bytes.now x.opened.events.count c.events.invariant c.events-test.true c.pins-w.ensures
          c.pairs-beats.ensures 10 (omega arith) c.beats_by-read.ensures,
      x.listable.few,
      c.events-test.true,
    )

pub overflow_add-written : goal.overflow_add-written
overflow_add-written c = let x = c.args.self.now in
    omega (
      arith,
      room x.opened.settings x.opened.events.bytes.now x.opened.events.count c.events.invariant c.events-test.true c.pins-w.ensures
          c.pairs-beats.ensures 2 (omega arith) c.beats_by-written.ensures,
      x.listable.few,
      c.events-test.true,
    )

pub events-preserved : goal.events-preserved
events-preserved c = let x = c.args.self.now in
    goes_on x.opened.settings x.opened.events.bytes.now x.opened.events.count c.events.invariant c.events-test.true c.pins-w.ensures
    c.pairs-beats.ensures refl c.beats_by-read.ensures c.beats_by-written.ensures c.mode_after-mode.ensures

pub returns : goal.returns
returns c = let x = c.args.self.now in
    record {
      read_value = all_read x.opened.settings x.opened.events.bytes.now x.opened.events.count c.events.invariant (omega (arith, c.events-test.false));
      written_value = all-written x.opened.settings x.opened.events.bytes.now x.opened.events.count c.events.invariant (omega (arith, c.events-test.false));
    }
