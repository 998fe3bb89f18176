-- Settings stored one behind another.
use Prim.Native.Nat.{ℕ, ◌+◌, ◌-◌, ◌*◌, ◌≤◌, ◌<◌}
use mathlib.Core.List.{List}
use mathlib.Core.Path.{◌≡◌, refl, sym, ap, ◌∙◌}
use native.Mathlib.Omega.{arith}
use lib.ListN.{length, get_or}
use Rattle.words.proofs.Search.{one_less, none_left}
use Rattle.trials.specs.Stored.{stored, stored_from}

pub record Storing (list out₀ out : List ℕ) (i : ℕ) : Type 0 where
  pub within : i ≤ 14
  pub long : length out ≡ length out₀
  pub same : stored_from out list i (14 - i) ≡ stored_from out₀ list 0 14

pub stores-none : (list out : List ℕ) → Storing list out out 0
stores-none list out = record { within = omega arith; long = refl; same = refl }

module _ {list out₀ out : List ℕ} {i : ℕ} (x : Storing list out₀ out i) where
  pub stores-on : (next : List ℕ) → next ≡ stored out (24 + 4 * i) (get_or list i 0) → length next ≡ length out → i < 14 → Storing list out₀ next (i + 1)
  stores-on next stands long m =
      record {
        within = omega arith;
        long = long ∙ x.long;
        same =
            rw stands
            (sym (ap (stored_from out list i) (one_less 14 i m)) ∙ x.same);
      }

  pub stored-all : 14 ≤ i → out ≡ stored_from out₀ list 0 14
  stored-all m = sym (ap (stored_from out list i) (none_left 14 i m)) ∙ x.same
