use native.Mathlib.Omega.{arith}
use Rattle.words.proofs.Storing.{stores-none, stores-on}
use Rattle.words.proofs.put_words.Goals as goal

pub words-init : goal.words-init
words-init c = let a = c.args in stores-none a.out.now a.at a.list.now

pub words-preserved : goal.words-preserved
words-preserved c = stores-on c.words.invariant (omega arith) c.put_word.ensures
