-- The invariant: with the words from i on stored too, all are there.
use Rattle.capture.proofs.Walks.{LoadingFirst}
use Rattle.capture.proofs.setting_words.Given as goal

abbrev pub invariant-loop-i : goal.invariant-loop-i
invariant-loop-i l = LoadingFirst l.capture l.stated l.n l.i
