-- The contract of `step` allows one answer alone.
use Prim.Native.Nat.{ℕ}
use mathlib.Core.Option.{Option, none, some}
use mathlib.Core.Path.{◌≡◌, refl, sym, ap, ◌∙◌}
use Rattle.std.specs.Prelude.{⊤, Result, Ok, Err}
use Rattle.rules.specs.declared.Rule.{Rule}
use Rattle.rules.proofs.Numbers.{numbered, numbered_is}
use Rattle.part.specs.Means.{means}

meant : Option ℕ → Result ⊤ Rule
meant none = Ok (record {})
meant (some number) = Err (numbered number)

meant-means : (r : Result ⊤ Rule) → meant (means r) ≡ r
unfolding meant
meant-means (Ok done) = refl
meant-means (Err rule) = ap Err (numbered_is rule)

pub one_answer : (r q : Result ⊤ Rule) → means r ≡ means q → r ≡ q
one_answer r q h = sym (meant-means r) ∙ ap meant h ∙ meant-means q
