use native.Mathlib.Omega.{arith}
use Rattle.reading.specs.Settings.{settings_of}
use Rattle.serving.proofs.Serves.{timely-idle, timely-open}
use Rattle.serving.proofs.in_time.Goals as goal

pub returns-then-all_idle : goal.returns-then-all_idle
returns-then-all_idle c = rw c.from.ensures
    (timely-idle (settings_of c.args.scheduler.now.settings.now) c.args.state.now (omega arith) c.all_idle.ensures c.if-all_idle.true
    c.refresh.ensures c.cycle_for-t.ensures)

pub returns : goal.returns
returns c = rw c.from-2.ensures
    (timely-open (settings_of c.args.scheduler.now.settings.now) c.args.state.now (omega arith) c.all_idle.ensures c.if-all_idle.false
    c.closed_refresh_at-t.ensures)
