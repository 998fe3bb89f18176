-- The invariant: what was sent before the next try, and that there is room for it (Tries).
use Rattle.reading.specs.Settings.{settings_of}
use Rattle.serving.proofs.Tries.{Trying}
use Rattle.serving.proofs.serve.Given as goal

abbrev pub invariant-tries : goal.invariant-tries
invariant-tries l = Trying (settings_of l.scheduler.settings.now) l.scheduler.closed l.q l.margin l.initial.state l.initial.words l.sure l.state l.words l.refreshed
