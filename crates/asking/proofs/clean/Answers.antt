use mathlib.Core.Path.{sym, ap, ◌∙◌}
use Rattle.std.proofs.lemmas.Result.{err_from_is_err_and}
use Rattle.reading.specs.Answers.{answered}
use Rattle.judge.specs.declared.Verdict.{Verdict}
use Rattle.judge.specs.Meaning.{report_of}
use Rattle.asking.proofs.Refusing.{clean_by, by-judge}
use Rattle.asking.proofs.clean.Goals as goal

pub returns-in_err-judge : goal.returns-in_err-judge
returns-in_err-judge c = let p = err_from_is_err_and c.from_residual.result c.from_residual.ensures.1 in
    rw (p.1, p.2) (ap clean_by c.in_err-judge.ensures ∙ by-judge c.args.capture.now)

pub returns-in-Clean : goal.returns-in-Clean
returns-in-Clean c = ap (λ (v : Verdict). clean_by (answered (report_of v))) (sym c.in-Clean.is) ∙ ap clean_by c.in_ok-judge.ensures ∙ by-judge c.args.capture.now

pub returns-in-Broken : goal.returns-in-Broken
returns-in-Broken c = ap (λ (v : Verdict). clean_by (answered (report_of v))) (sym c.in-Broken.is) ∙ ap clean_by c.in_ok-judge.ensures ∙ by-judge c.args.capture.now
