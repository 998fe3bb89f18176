use Rattle.reading.specs.Settings.{settings_of}
use Rattle.drafts.specs.Room.{draft}
use Rattle.serving.proofs.Growing.{idle-grows, room_after}
use Rattle.serving.proofs.Serves.{refreshed}
use Rattle.serving.proofs.refresh.Goals as goal

pub refresh-requires : goal.refresh-requires
refresh-requires c = room_after c.args.state.now 1 1 c.requires
    (idle-grows (settings_of c.args.scheduler.now.settings.now) (draft c.args.state.now c.args.words.now)) _ c.idle.ensures

pub returns : goal.returns
returns c = refreshed (settings_of c.args.scheduler.now.settings.now) (draft c.args.state.now c.args.words.now) c.idle.ensures c.refresh.ensures
