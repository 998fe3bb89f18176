-- The contracts allow one answer alone.
use Prim.Native.Nat.{ℕ}
use mathlib.Core.Bool.{cond}
use mathlib.Core.Path.{◌≡◌, refl, sym, ap, ◌∙◌}
use lib.Dec.{eqb}
use borrow.Author.Tests.{ne_eqb}
use Rattle.std.specs.Prelude.{⊤, Result, Ok, Err}
use Rattle.rules.specs.declared.Rule.{Rule}
use Rattle.rules.specs.Rule.{number_of, broken}
use Rattle.rules.proofs.Handed.{some_rule}
use Rattle.rules.proofs.Numbers.{numbered, numbered_is}

meant : ℕ → Result ⊤ Rule
meant number = cond (eqb number 0) (Ok (record {})) (Err (numbered number))

meant-broken : (r : Result ⊤ Rule) → meant (broken r) ≡ r
unfolding meant
meant-broken (Ok done) = refl
meant-broken (Err rule) = rw (ne_eqb (number_of rule) 0 (some_rule rule)) (ap Err (numbered_is rule))

pub one_answer : (r q : Result ⊤ Rule) → broken r ≡ broken q → r ≡ q
one_answer r q h = sym (meant-broken r) ∙ ap meant h ∙ meant-broken q
