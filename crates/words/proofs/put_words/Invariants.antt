use Rattle.words.proofs.Storing.{Storing}
use Rattle.words.proofs.put_words.Given as goal

abbrev pub invariant-words : goal.invariant-words
invariant-words l = Storing l.initial.out l.at l.list l.out l.i
