-- The invariant: what is found from setting i on is what is found at all.
use Rattle.settings.proofs.Rows.{Sought}
use Rattle.settings.proofs.lowest_bad.Given as goal

abbrev pub invariant-settings : goal.invariant-settings
invariant-settings l = Sought l.words l.n l.i
