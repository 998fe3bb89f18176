use borrow.Author.Rules.{rules}
use Rattle.reading.specs.Settings.{settings_of}
use Rattle.beats.specs.Kept.{at, behind}
use Rattle.beats.proofs.Looking.{one-there, one_left, both_leave}
use Rattle.beats.proofs.interrupted.Goals as goal

pub returns-then-half-eq1 : goal.returns-then-half-eq1
returns-then-half-eq1 c = let a = c.args in
    one-there (settings_of a.s.now) a.mode (at a.events.now a.i) (behind a.events.now a.i) c.requires.bound c.half-half.ensures c.if-half-eq1.true

pub returns-then-next-eq1 : goal.returns-then-next-eq1
returns-then-next-eq1 c = let a = c.args in
    one_left (settings_of a.s.now) a.mode (at a.events.now a.i) (behind a.events.now a.i) c.requires.bound
    c.half-half.ensures c.next_leaves-next.ensures c.if-next-eq1.true

pub returns : goal.returns
returns c = let a = c.args in
    search (rules, both_leave (settings_of a.s.now) a.mode (at a.events.now a.i) (behind a.events.now a.i) c.half-half.ensures c.next_leaves-next.ensures c.row_leaves.ensures)
