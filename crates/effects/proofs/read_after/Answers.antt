use Rattle.deadlines.specs.Deadlines.{read_after}
use Rattle.effects.proofs.read_after.Goals as goal

pub returns-then-auto : goal.returns-then-auto
unfolding read_after
returns-then-auto c = rw (c.auto_after.ensures, c.after2-then-auto.ensures, c.after.ensures, c.if-auto.true, c.after2.ensures)

pub returns : goal.returns
unfolding read_after
returns c = rw (c.if-auto.false, c.after2.ensures)
