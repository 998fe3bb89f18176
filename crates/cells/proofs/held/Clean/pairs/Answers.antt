use mathlib.Core.Path.{refl}
use Rattle.beats.specs.Kept.{at, behind}
use Rattle.beats.proofs.Looking.{early-keeps, kept-early, kept-else, kept-old}
use Rattle.cells.specs.Telling.{judged_by}
use Rattle.cells.proofs.held.Clean.pairs.Goals.{else-this-ne0-via-then-this-ne0+else-interruptible, else-this-ne0-via-else-this-ne0}
use Rattle.cells.proofs.held.Clean.pairs.Goals as goal

pub interrupted-requires-clause-bound : goal.interrupted-requires-clause-bound
interrupted-requires-clause-bound g c = let a = c.args in
    let x = a.self.now in
    early-keeps (judged_by x) a.mode (at x.opened.events a.i) (behind x.opened.events a.i) c.pins.ensures c.interruptible.ensures
    c.if-interruptible.true c.requires.keeps_pair

pub returns-then-interruptible : goal.returns-then-interruptible
returns-then-interruptible g c = let a = c.args in
    let x = a.self.now in
    kept-early (judged_by x) a.mode (at x.opened.events a.i) (behind x.opened.events a.i) c.pins.ensures c.interruptible.ensures
    c.if-interruptible.true c.interrupted.ensures

pub returns : goal.returns
returns g c = let a = c.args in
    let x = a.self.now in
    let s = judged_by x in
    let e = at x.opened.events a.i in
    let later = behind x.opened.events a.i in
    elim c.else-this-ne0.branch [
      | else-this-ne0-via-then-this-ne0+else-interruptible w ↦
          kept-else s a.mode e later w.pins.ensures w.interruptible.ensures w.if-interruptible.false c.kept.ensures
      | else-this-ne0-via-else-this-ne0 w ↦
          kept-old s a.mode e later (c.requires.edition (rw w.if-this-ne0.false refl)) c.kept.ensures
    ]
