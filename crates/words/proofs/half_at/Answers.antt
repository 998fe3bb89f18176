use native.Mathlib.Omega.{arith}
use Rattle.reading.specs.Words.{half_at}
use Rattle.words.proofs.half_at.Goals as goal

pub returns : goal.returns
unfolding half_at
returns c = rw c.from_le_bytes.ensures (omega arith)
