-- The invariant: the bursts of the events from i on, with the words left, decide (Trying).
use mathlib.Core.Path.{refl}
use native.Mathlib.Omega.{arith}
use Rattle.player.proofs.Given.{found, found_none}
use Rattle.player.proofs.Trying.{begins, passes, outside, reads_on, lacks, takes-on, ends}
use Rattle.player.proofs.attempt.Goals as goal

pub events-init : goal.events-init
events-init c = let a = c.args in
    let x = a.clean.now in
    let o = x.opened in
    begins o.settings o.events.bytes.now o.events.count a.first a.size a.supply x.listable x.clean c.start-state.ensures

pub turn-requires-clause-before : goal.turn-requires-clause-before
turn-requires-clause-before c = c.events.invariant.at

pub events-preserved-in_default : goal.events-preserved-in_default
events-preserved-in_default c = let a = c.args in
    let x = a.clean.now in
    let o = x.opened in
    let w = c.events in
    passes o.settings o.events.bytes.now o.events.count a.first a.size a.supply x.listable x.clean w.invariant c.events-test.true
    (found_none o.settings o.events.bytes.now o.events.count w.i c.turn.ensures.given_value c.in_default.is) c.turn.ensures.behind

pub returns-then-not-holds_burst : goal.returns-then-not-holds_burst
returns-then-not-holds_burst c = let a = c.args in
    let x = a.clean.now in
    let o = x.opened in
    let w = c.events in
    let f = found o.settings o.events.bytes.now o.events.count w.i c.turn.ensures.given_value c.in-Some.is in
    outside o.settings o.events.bytes.now o.events.count a.first a.size a.supply x.listable x.clean w.invariant c.events-test.true f c.holds_burst.ensures c.if-not-holds_burst.true

pub overflow_add-read : goal.overflow_add-read
overflow_add-read c = let z = c.args.clean.now.listable in
    omega (arith, c.events.invariant.small, z.few, c.events-test.true)

pub events-preserved-then-not-burst : goal.events-preserved-then-not-burst
events-preserved-then-not-burst c = let a = c.args in
    let x = a.clean.now in
    let o = x.opened in
    let w = c.events in
    let f = found o.settings o.events.bytes.now o.events.count w.i c.turn.ensures.given_value c.in-Some.is in
    reads_on o.settings o.events.bytes.now o.events.count a.first a.size a.supply x.listable x.clean w.invariant c.events-test.true f c.holds_burst.ensures
    c.if-not-holds_burst.false c.if-not-burst.true refl c.turn.ensures.behind

pub returns-then-left-length : goal.returns-then-left-length
returns-then-left-length c = let a = c.args in
    let x = a.clean.now in
    let o = x.opened in
    let w = c.events in
    let f = found o.settings o.events.bytes.now o.events.count w.i c.turn.ensures.given_value c.in-Some.is in
    lacks o.settings o.events.bytes.now o.events.count a.first a.size a.supply x.listable x.clean w.invariant c.events-test.true f c.holds_burst.ensures
    c.if-not-burst.false c.burst_length-length.ensures c.if-not-holds_burst.false c.if-left-length.true

pub events-preserved : goal.events-preserved
events-preserved c = let a = c.args in
    let x = a.clean.now in
    let o = x.opened in
    let w = c.events in
    let f = found o.settings o.events.bytes.now o.events.count w.i c.turn.ensures.given_value c.in-Some.is in
    takes-on o.settings o.events.bytes.now o.events.count a.first a.size a.supply x.listable x.clean w.invariant c.events-test.true f c.holds_burst.ensures
    c.if-not-burst.false c.burst_length-length.ensures c.if-not-holds_burst.false (omega (arith, c.if-left-length.false)) c.turn.ensures.behind

pub returns : goal.returns
returns c = let a = c.args in
    let o = a.clean.now.opened in
    ends o.settings o.events.bytes.now o.events.count a.first a.size a.supply c.events.invariant (omega (arith, c.events-test.false))
