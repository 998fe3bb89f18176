-- The invariant: the buffer as it was, with the cells of the events before i stored from its front on (Writing).
use mathlib.Core.Path.{refl}
use native.Mathlib.Omega.{arith}
use Rattle.cells.proofs.Stepping.{step-told, step-none}
use Rattle.cells.proofs.Writing.{begins, stands_at, size, room, goes_on, passes, counted, ends}
use Rattle.cells.proofs.held.Clean.write.Goals as goal

pub bursts-init : goal.bursts-init
bursts-init g c = let x = c.args.self.now in
    begins x.opened.settings x.opened.events.bytes.now x.opened.events.count c.args.out.now x.listable x.clean c.start-mode.ensures

pub step-requires-clause-before : goal.step-requires-clause-before
step-requires-clause-before g c = let o = c.args.self.now.opened in
    stands_at o.settings o.events.bytes.now o.events.count c.args.out.now c.bursts.invariant

pub bursts-preserved-in_default : goal.bursts-preserved-in_default
bursts-preserved-in_default g c = let x = c.args.self.now in
    let o = x.opened in
    let w = c.bursts in
    passes o.settings o.events.bytes.now o.events.count c.args.out.now w.invariant c.bursts-test.true
    (step-none x c.bursts-test.true (stands_at o.settings o.events.bytes.now o.events.count c.args.out.now w.invariant)
    c.step.ensures c.in_default.is)
    c.pass-mode.ensures

pub write-requires : goal.write-requires
write-requires g c = let x = c.args.self.now in
    let o = x.opened in
    let w = c.bursts in
    let a = stands_at o.settings o.events.bytes.now o.events.count c.args.out.now w.invariant in
    let is = step-told x c.bursts-test.true a c.step.ensures c.in-Some.is in
    room o.settings o.events.bytes.now o.events.count c.args.out.now w.invariant c.bursts-test.true is.kept c.requires.room

pub bursts-preserved : goal.bursts-preserved
bursts-preserved g c = let x = c.args.self.now in
    let o = x.opened in
    let w = c.bursts in
    let a = stands_at o.settings o.events.bytes.now o.events.count c.args.out.now w.invariant in
    let is = step-told x c.bursts-test.true a c.step.ensures c.in-Some.is in
    goes_on o.settings o.events.bytes.now o.events.count c.args.out.now w.invariant c.bursts-test.true is.kept is refl c.write.ensures

pub overflow_add-next : goal.overflow_add-next
overflow_add-next g c = let x = c.args.self.now in
    let o = x.opened in
    let w = c.bursts in
    let a = stands_at o.settings o.events.bytes.now o.events.count c.args.out.now w.invariant in
    let is = step-told x c.bursts-test.true a c.step.ensures c.in-Some.is in
    omega (
      arith,
      room o.settings o.events.bytes.now o.events.count c.args.out.now w.invariant c.bursts-test.true is.kept c.requires.room,
      size o.settings o.events.bytes.now o.events.count c.args.out.now w.invariant,
    )

pub overflow_cast-result : goal.overflow_cast-result
overflow_cast-result g c = let b = c.bursts.invariant in
    omega (arith, b.on.small, b.on.within, c.args.self.now.listable.few)

pub shape_of-out : goal.shape_of-out
shape_of-out g c = let o = c.args.self.now.opened in
    size o.settings o.events.bytes.now o.events.count c.args.out.now c.bursts.invariant

pub returns : goal.returns
returns g c = let o = c.args.self.now.opened in
    record {
      value = counted o.settings o.events.bytes.now o.events.count c.args.out.now c.bursts.invariant (omega (arith, c.bursts-test.false));
      out_after = ends o.settings o.events.bytes.now o.events.count c.args.out.now c.bursts.invariant (omega (arith, c.bursts-test.false));
    }
