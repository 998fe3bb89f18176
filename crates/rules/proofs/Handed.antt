-- An answer that `?` hands on names the same rule; and no rule has the number 0.
use mathlib.Core.Path.{◌≡◌, ap, ◌∙◌}
use native.Mathlib.Omega.{arith}
use Rattle.std.specs.Prelude.{⊤, Result}
use Rattle.std.specs.Result.{IsErrAnd}
use Rattle.std.proofs.lemmas.Result.{err_from_is_err_and}
use Rattle.rules.specs.declared.Rule.{Rule}
use Rattle.rules.specs.declared.Rule.TheVariants.{Row, ModeWord, BankState, Busy, Precharge, RowCycle, OtherActive, RowToColumn, RowHeld, WriteRecovery, WriteToRead, Bus, AutoPrecharge, Refresh, Sleep}
use Rattle.rules.specs.Rule.{number_of, broken}

pub handed : (r : Result ⊤ Rule) (rule : Rule) → IsErrAnd r (λ e. e ≡ rule) → broken r ≡ number_of rule
handed r rule k = let p = err_from_is_err_and r k in ap broken p.1 ∙ ap number_of p.2

pub some_rule : (rule : Rule) → number_of rule ≡ 0 → ⊥
some_rule Row e = absurd (omega (arith, e))
some_rule ModeWord e = absurd (omega (arith, e))
some_rule BankState e = absurd (omega (arith, e))
some_rule Busy e = absurd (omega (arith, e))
some_rule Precharge e = absurd (omega (arith, e))
some_rule RowCycle e = absurd (omega (arith, e))
some_rule OtherActive e = absurd (omega (arith, e))
some_rule RowToColumn e = absurd (omega (arith, e))
some_rule RowHeld e = absurd (omega (arith, e))
some_rule WriteRecovery e = absurd (omega (arith, e))
some_rule WriteToRead e = absurd (omega (arith, e))
some_rule Bus e = absurd (omega (arith, e))
some_rule AutoPrecharge e = absurd (omega (arith, e))
some_rule Refresh e = absurd (omega (arith, e))
some_rule Sleep e = absurd (omega (arith, e))
