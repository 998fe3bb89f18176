use Rattle.capture.proofs.Fronted.{fronted}
use Rattle.capture.proofs.front.put.Goals as goal

pub returns : goal.returns
returns c = let a = c.args in
    fronted a.settings.now a.edition a.n a.out.now c.requires.fourteen c.size.ensures c.put_words.ensures
    c.put_words-2.ensures
