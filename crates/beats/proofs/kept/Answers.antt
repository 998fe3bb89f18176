use Rattle.beats.specs.Kept.{at, behind}
use Rattle.beats.proofs.Looking.{kept-none, kept-all, kept-cut}
use Rattle.beats.proofs.kept.Goals as goal

pub returns-then-not-gives_burst : goal.returns-then-not-gives_burst
returns-then-not-gives_burst c = let a = c.args in
    kept-none a.mode (at a.events.now a.i) (behind a.events.now a.i) c.pins-w.ensures c.gives_burst.ensures c.if-not-gives_burst.true

pub returns-then-ten : goal.returns-then-ten
returns-then-ten c = let a = c.args in
    kept-all a.mode (at a.events.now a.i) (behind a.events.now a.i) c.pins-w.ensures
    c.gives_burst.ensures c.if-not-gives_burst.false c.ten.ensures c.if-ten.true c.half-half.ensures

pub returns : goal.returns
returns c = let a = c.args in
    kept-cut a.mode (at a.events.now a.i) (behind a.events.now a.i) c.pins-w.ensures
    c.gives_burst.ensures c.if-not-gives_burst.false c.ten.ensures c.if-ten.false c.look_ahead.ensures
