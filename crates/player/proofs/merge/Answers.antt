use Rattle.player.proofs.Lanes.{two_lanes, four_lanes}
use Rattle.player.proofs.merge.Goals as goal

pub returns-then-code-eq1 : goal.returns-then-code-eq1
returns-then-code-eq1 c = let a = c.args in
    two_lanes a.code a.old a.word a.mask c.lane.ensures c.lane-low.ensures c.if-code-eq1.true

pub returns : goal.returns
returns c = let a = c.args in
    four_lanes a.code a.old a.word a.mask c.lane.ensures c.lane-low.ensures c.if-code-eq1.false c.lane-2.ensures
    c.lane-3.ensures
