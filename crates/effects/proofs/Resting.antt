-- The banks that are open become idle, one after the other.
use Prim.Native.Nat.{ℕ, zero, suc, ◌+◌}
use mathlib.Core.List.{List}
use mathlib.Core.Path.{◌≡◌, refl, ap}
use native.Mathlib.Numerals.{add-one}
use Rattle.deadlines.specs.Deadlines.{rest_after, rest_all}

pub rested : List ℕ → ℕ → ℕ → List ℕ
rested d from zero = d
rested d from (suc b) = rest_after (rested d from b) b from

module _ (d : List ℕ) (from : ℕ) where
  pub none_yet : d ≡ rested d from 0
  unfolding rested
  none_yet = refl

  pub one_more : (b : ℕ) → rested d from (b + 1) ≡ rest_after (rested d from b) b from
  unfolding rested
  one_more b = ap (rested d from) (add-one b)

  pub all_four : rested d from 4 ≡ rest_all d from
  unfolding rested rest_all
  all_four = refl
