use mathlib.Core.Path.{sym}
use Rattle.std.proofs.lemmas.Result.{err_from_is_err_and}
use Rattle.reading.specs.Answers.{judge_answer_to}
use Rattle.capture.proofs.Accepted.{refused-to}
use Rattle.capture.proofs.Opened.{opens-held}
use Rattle.judge.proofs.Judging.{fit, judged-so}
use Rattle.judge.proofs.judge_to.Goals as goal

pub returns-in_err-opened : goal.returns-in_err-opened
unfolding judge_answer_to
returns-in_err-opened c = let p = err_from_is_err_and c.from_residual.result c.from_residual.ensures.1 in
    rw (p.1, p.2) (sym (refused-to c.args.most c.args.capture.now _ (sym c.in_err-opened.ensures.answer)))

pub judged-requires : goal.judged-requires
judged-requires c = let o = c.in_ok-opened in fit (opens-held o.ensures.answer o.opened o.ensures.holds)

pub returns : goal.returns
returns c = let o = c.in_ok-opened in rw c.judged.ensures (judged-so (opens-held o.ensures.answer o.opened o.ensures.holds))
