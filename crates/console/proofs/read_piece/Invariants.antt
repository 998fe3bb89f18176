use Rattle.std.proofs.Common.{◌≡◌, length}
use Rattle.std.specs.Io.KnownBytes.{Keeps}
use Rattle.console.proofs.read_piece.Given as goal

abbrev pub invariant-loop-tried : goal.invariant-loop-tried
invariant-loop-tried g l = (length l.buf ≡ length l.initial.buf) × Keeps (g.R.Read.remaining l.initial.from) (g.R.Read.remaining l.from)
