use Prim.Native.Nat.{ℕ}
use mathlib.Core.List.{List}
use mathlib.Core.Path.{ap}
use Rattle.reading.specs.Settings.{settings_of}
use Rattle.deadlines.specs.Deadlines.{PAIRS, at, plain_write, auto_write, write_after}
use Rattle.effects.proofs.Writing.{cut-over}
use Rattle.effects.proofs.write_after.Goals as goal

pub returns-then-auto : goal.returns-then-auto
unfolding write_after
returns-then-auto c = let a = c.args in
    let pairs = at a.pace.now PAIRS in
    rw (c.auto_write.ensures, c.if-auto.true, c.new_write.ensures, c.cut_write.ensures)
    (ap (λ (d : List ℕ). auto_write (settings_of a.s.now) d a.t pairs a.b.number) (cut-over (settings_of a.s.now) a.d.now a.t pairs a.b.number))

pub returns : goal.returns
unfolding write_after
returns c = let a = c.args in
    let pairs = at a.pace.now PAIRS in
    rw (c.plain_write.ensures, c.if-auto.false, c.new_write.ensures, c.cut_write.ensures)
    (ap (λ (d : List ℕ). plain_write (settings_of a.s.now) d a.t a.b.number) (cut-over (settings_of a.s.now) a.d.now a.t pairs a.b.number))
