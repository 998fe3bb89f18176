use native.Mathlib.Omega.{arith}
use Rattle.reading.specs.Words.{word_at}
use Rattle.words.proofs.word_at.Goals as goal

pub returns : goal.returns
unfolding word_at
returns c = rw c.from_le_bytes.ensures (omega arith)
