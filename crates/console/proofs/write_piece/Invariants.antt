use Rattle.std.specs.Io.KnownBytes.{Keeps}
use Rattle.console.proofs.write_piece.Given as goal

abbrev pub invariant-loop-tried : goal.invariant-loop-tried
invariant-loop-tried g l = Keeps (g.W.Write.contents l.initial.to) (g.W.Write.contents l.to)
