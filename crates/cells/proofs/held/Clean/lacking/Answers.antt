use Prim.Native.Nat.{◌+◌}
use native.Mathlib.Omega.{arith}
use borrow.Author.Tests.{lt-ltb, le-ltb}
use Rattle.cells.proofs.Counting.{all-beats}
use Rattle.cells.proofs.Room.{sixteen-each, enough}
use Rattle.cells.proofs.held.Clean.lacking.Goals as goal

pub overflow_mul-self : goal.overflow_mul-self
overflow_mul-self c = omega (arith, c.args.self.now.listable.few)

pub returns-then-self-room : goal.returns-then-self-room
returns-then-self-room c = let x = c.args.self.now in
    enough x.opened.settings x.opened.events.bytes.now x.opened.events.count x.listable x.clean (omega (arith, c.if-self-room.true))

pub overflow_add-cells : goal.overflow_add-cells
overflow_add-cells c = let kept = c.kept_beats-kept.ensures in
    let x = c.args.self.now in
    omega (
      arith,
      all-beats x.opened.settings x.opened.events.bytes.now x.opened.events.count kept.read_value kept.written_value,
      sixteen-each x.opened.settings x.opened.events.bytes.now x.opened.events.count x.listable x.clean,
      x.listable.few,
    )

pub returns-then-room-cells : goal.returns-then-room-cells
returns-then-room-cells c = let kept = c.kept_beats-kept in
    let x = c.args.self.now in
    rw (
      ← all-beats x.opened.settings x.opened.events.bytes.now x.opened.events.count kept.ensures.read_value kept.ensures.written_value,
      lt-ltb c.args.room (kept.result.read + kept.result.written) (omega (arith, c.if-room-cells.true)),
    )

pub returns : goal.returns
returns c = let kept = c.kept_beats-kept in
    let x = c.args.self.now in
    rw (
      ← all-beats x.opened.settings x.opened.events.bytes.now x.opened.events.count kept.ensures.read_value kept.ensures.written_value,
      le-ltb c.args.room (kept.result.read + kept.result.written) (omega (arith, c.if-room-cells.false)),
    )
