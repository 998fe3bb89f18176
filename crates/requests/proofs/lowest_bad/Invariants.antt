use Rattle.requests.proofs.Asking.{Sought}
use Rattle.reading.specs.Settings.{settings_of}
use Rattle.requests.proofs.lowest_bad.Given as goal

abbrev pub invariant-requests : goal.invariant-requests
invariant-requests l = Sought (settings_of l.s) l.requests l.i
