use Rattle.std.specs.Prelude.{ℕ, Bool, ◌≡◌, ◌<◌}
use Rattle.exports.proofs.Searching.{Sought}
use Rattle.exports.proofs.lowest.Given as goal

abbrev pub invariant-records : goal.invariant-records
invariant-records g l = (f : ℕ → Bool) → ((i : ℕ) (r : Bool) → i < l.n → goal.F-post g l.fn.test i r → r ≡ f i) → Sought f l.n l.i
