-- What is told of a verdict, or of a refusal in its place, is told of no other.
use mathlib.Core.Path.{◌≡◌, refl, sym, ap, ◌∙◌}
use Rattle.std.specs.Prelude.{Result}
use Rattle.reading.specs.Verdict as is
use Rattle.reading.specs.Answers.{Report}
use Rattle.refusal.specs.declared.Refusal.{Refusal}
use Rattle.refusal.specs.Refusal.{told}
use Rattle.refusal.proofs.Unique.{one_result}
use Rattle.rules.specs.declared.Rule.{Rule}
use Rattle.rules.proofs.Numbers.{numbered, numbered_is}
use Rattle.judge.specs.declared.Verdict.{Verdict}
use Rattle.judge.specs.declared.Verdict.TheVariants.{Clean, Broken}
use Rattle.judge.specs.Meaning.{report_of}

-- the verdict that a report comes from
verdict_from : Report → Verdict
verdict_from r = found r.verdict
  where
    found : is.Verdict → Verdict
    found is.clean = Clean r.events r.judged
    found (is.broken rule event cycle) = Broken r.events r.judged (numbered rule) event cycle

back : (v : Verdict) → verdict_from (report_of v) ≡ v
unfolding verdict_from
back (Clean events judged) = refl
back (Broken events judged rule event cycle) = ap (λ (k : Rule). Broken events judged k event cycle) (numbered_is rule)

pub one_verdict : (r q : Result Verdict Refusal) → told report_of r ≡ told report_of q → r ≡ q
one_verdict = one_result report_of verdict_from back

pub one_report : (v w : Verdict) → report_of v ≡ report_of w → v ≡ w
one_report v w h = sym (back v) ∙ ap verdict_from h ∙ back w
