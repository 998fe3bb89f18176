use native.Mathlib.Omega.{arith}
use Rattle.reading.specs.Settings.{settings_of}
use Rattle.serving.proofs.Serves.{closed_at}
use Rattle.serving.proofs.closed_refresh_at.Goals as goal

pub returns : goal.returns
returns c = closed_at (settings_of c.args.scheduler.now.settings.now) c.args.state.now (omega arith) c.args.scheduler.now.paced c.close_all.ensures c.cycle_for-t.ensures
    c.close_all_after.ensures c.after.ensures c.refresh.ensures c.cycle_for.ensures
