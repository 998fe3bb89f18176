use mathlib.Core.Path.{ap, sym, ◌∙◌, subst}
use Rattle.monthly.specs.Meaning.{totals_mean, Held}
use Rattle.monthly.proofs.Sums.{none-added, none-held, are-zeros}
use Rattle.monthly.proofs.nothing.Goals as goal

pub returns : goal.returns
returns c = let same = are-zeros c.default.ensures in
    record { result_value = ap totals_mean same ∙ none-added; held = subst Held (sym same) none-held }
