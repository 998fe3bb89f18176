-- A line, and totals, are told by what they mean.
use mathlib.Core.Path.{◌≡◌, ap}
use Rattle.reading.specs.Month as month
use Rattle.judge.proofs.Unique.{one_verdict}
use Rattle.monthly.specs.declared.Line.{Line}
use Rattle.monthly.specs.declared.Totals.{Totals}
use Rattle.monthly.specs.Meaning.{line_means, totals_mean}

pub one_line : (x y : Line) → line_means x ≡ line_means y → x ≡ y
one_line x y e =
    let same = one_verdict x.verdict y.verdict (ap (λ (z : month.Line). z.answer) e) in
    λ i. record { verdict = same i; read = (e i).read; written = (e i).written; cycles = (e i).cycles }

pub one-sum : (t u : Totals) → totals_mean t ≡ totals_mean u → t ≡ u
one-sum t u e =
    λ i.
    record {
      captures = (e i).captures;
      clean = (e i).clean;
      broken = (e i).broken;
      refused = (e i).refused;
      events = (e i).events;
      judged = (e i).judged;
      read = (e i).read;
      written = (e i).written;
      cycles = (e i).cycles;
    }
