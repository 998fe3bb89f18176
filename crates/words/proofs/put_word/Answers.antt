use native.Mathlib.Numerals.{add-one, add-two, add-three}
use Rattle.reading.specs.Words.{word_bytes}
use Rattle.words.proofs.put_word.Goals as goal

pub returns : goal.returns
unfolding word_bytes
returns c = rw (c.to_le_bytes.ensures, add-one, add-two, add-three)
