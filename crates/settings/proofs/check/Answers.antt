use mathlib.Core.Path.{sym}
use Rattle.settings.proofs.Rows.{wrong-count, all_fit, one-unfit}
use Rattle.settings.proofs.check.Goals as goal

pub returns-then-words-ne-COUNT : goal.returns-then-words-ne-COUNT
returns-then-words-ne-COUNT c = sym (wrong-count c.args.words.now c.if-words-ne-COUNT.true)

pub returns-in_default : goal.returns-in_default
returns-in_default c = let call = c.lowest_bad in
    sym (all_fit c.args.words.now c.if-words-ne-COUNT.false call.result c.in_default.is call.ensures)

pub returns : goal.returns
returns c = let call = c.lowest_bad in
    sym (one-unfit c.args.words.now c.if-words-ne-COUNT.false call.result c.in-Some.is call.ensures)
