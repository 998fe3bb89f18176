use Rattle.exports.proofs.Filling.{two-words}
use Rattle.exports.proofs.put_event.Goals as goal

pub returns : goal.returns
returns c = let a = c.args in
    two-words a.out.now a.at a.cycle a.pins c.put_word.ensures c.put_word-2.ensures
