use native.Mathlib.Numerals.{add-one}
use Rattle.reading.specs.Words.{half_bytes}
use Rattle.words.proofs.put_half.Goals as goal

pub returns : goal.returns
unfolding half_bytes
returns c = rw (c.to_le_bytes.ensures, add-one)
