use native.Mathlib.Omega.{arith}
use Rattle.player.proofs.Lanes.{two-shown, four-shown}
use Rattle.player.proofs.shown.Goals as goal

pub returns-then-lane-eq1 : goal.returns-then-lane-eq1
returns-then-lane-eq1 c = two-shown c.args.lane c.args.word c.if-lane-eq1.true

pub returns : goal.returns
returns c = four-shown c.args.lane c.args.word (omega arith) c.if-lane-eq1.false
