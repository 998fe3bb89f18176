-- Refusal 8: whether the judging ends before the last event, and where.
use Prim.Native.Nat.{ℕ}
use mathlib.Core.List.{List}
use mathlib.Core.Option.{none, some}
use mathlib.Core.Path.{◌≡◌, sym, ap, ◌∙◌}
use Rattle.reading.specs.Settings.{settings_of}
use Rattle.reading.specs.Verdict.{verdict_of}
use Rattle.reading.specs.Answers.{Report, not_clean}
use Rattle.rules.specs.declared.Rule.{Rule}
use Rattle.judge.specs.declared.Verdict.{Verdict}
use Rattle.judge.specs.declared.Verdict.TheVariants.{Clean, Broken}
use Rattle.judge.specs.Meaning.{report_of, events_in, report_on}

module _ (settings bytes : List ℕ) (n : ℕ) {v : Verdict} (judged : report_of v ≡ report_on (settings_of settings) bytes n) where
  pub nothing-broken : {events judged : ℕ} → v ≡ Clean events judged → none ≡ not_clean (verdict_of (settings_of settings) (events_in bytes n))
  unfolding report_on
  nothing-broken b = ap (λ (r : Report). not_clean r.verdict) (sym (ap report_of b) ∙ judged)

  pub broken-first : {events judged i t : ℕ} {r : Rule} → v ≡ Broken events judged r i t → some i ≡ not_clean (verdict_of (settings_of settings) (events_in bytes n))
  unfolding report_on
  broken-first b = ap (λ (r : Report). not_clean r.verdict) (sym (ap report_of b) ∙ judged)
