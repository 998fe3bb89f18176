use Rattle.std.proofs.Common.{◌%◌}
use Rattle.reading.specs.Export.{around}
use Rattle.exports.proofs.Bridges.{stamp-and-pins}
use Rattle.exports.proofs.put_record.Goals as goal

pub returns : goal.returns
returns c = let a = c.args in
    stamp-and-pins a.out.now a.at (a.cycle % around) a.pins c.put_half.ensures c.put_word.ensures
