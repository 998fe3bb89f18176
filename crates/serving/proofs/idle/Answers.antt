use Rattle.reading.specs.Settings.{settings_of}
use Rattle.drafts.specs.Room.{draft}
use Rattle.serving.proofs.Serves.{idle-already, idle-closed}
use Rattle.serving.proofs.idle.Goals as goal

pub returns-then-all_idle : goal.returns-then-all_idle
returns-then-all_idle c = idle-already (settings_of c.args.scheduler.now.settings.now) (draft c.args.state.now c.args.words.now) c.all_idle.ensures c.if-all_idle.true

pub returns : goal.returns
returns c = idle-closed (settings_of c.args.scheduler.now.settings.now) (draft c.args.state.now c.args.words.now) c.all_idle.ensures c.if-all_idle.false c.close_all.ensures
