use Rattle.schedule.proofs.Writing.{too_short, wrote}
use Rattle.schedule.proofs.write.Goals as goal

pub returns-then-out-bytes : goal.returns-then-out-bytes
returns-then-out-bytes c = let a = c.args in
    let p = too_short a.settings.now a.list.now a.n a.out.now c.size-bytes.ensures c.if-out-bytes.true in
    record { value = p.0; out_after = p.1 }

pub returns : goal.returns
returns c = let a = c.args in
    let p = wrote a.settings.now a.list.now a.n a.out.now c.size-bytes.ensures c.if-out-bytes.false c.requires.fourteen c.put.ensures
    c.put_words.ensures in
    record { value = p.0; out_after = p.1 }
