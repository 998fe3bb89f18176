-- What is left by a command that breaks a rule, and what its answer says.
use Prim.Native.Nat.{ℕ}
use mathlib.Core.List.{List}
use mathlib.Core.Path.{◌≡◌}
use borrow.Author.Tests.{ne_eqb}
use Rattle.std.specs.Prelude.{⊤, Result, Ok, Err}
use Rattle.steps.specs.Steps.{rule_of, left_by}
use Rattle.rules.specs.declared.Rule.{Rule}
use Rattle.rules.specs.Rule.{number_of, broken}
use Rattle.rules.proofs.Handed.{some_rule}
use Rattle.part.specs.Means.{means}

-- what was there stays
pub stays : (rule : Rule) {number : ℕ} → number_of rule ≡ number → (after before : List ℕ) → before ≡ left_by number after before
stays rule e after before = rw (← e, ne_eqb (number_of rule) 0 (some_rule rule))

pub meant : (r : Result ⊤ Rule) {number : ℕ} → broken r ≡ number → means r ≡ rule_of number
meant (Ok done) e = rw (← e)
meant (Err rule) e = rw (← e, ne_eqb (number_of rule) 0 (some_rule rule))
