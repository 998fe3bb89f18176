-- What is told of a question is told of no other answer.
use mathlib.Core.Path.{◌≡◌, refl}
use mathlib.Core.List.{List, map}
use mathlib.Core.Option.{Option}
use Prim.Native.Nat.{ℕ}
use Rattle.std.specs.Prelude as std
use Rattle.std.specs.Prelude.{Result, Some, None}
use Rattle.reading.specs.Openings.{Record}
use Rattle.words.specs.Found.{place_of}
use Rattle.refusal.specs.declared.Refusal.{Refusal}
use Rattle.refusal.specs.Refusal.{told}
use Rattle.refusal.proofs.Unique.{one_result}
use Rattle.banks.specs.declared.Told.{Told}
use Rattle.banks.specs.Banks.{bank_of, row_asked, found}
use Rattle.banks.proofs.Filling.{same_back}

back : Option ℕ × List Record → Told
back p = record { row = row_asked p.0; banks = map bank_of p.1 }

back-found : (t : Told) → back (found t) ≡ t
unfolding back
back-found t = λ i. record { row = row t.row i; banks = same_back t.banks i }
  where
    row : (r : std.Option ℕ) → row_asked (place_of r) ≡ r
    row None = refl
    row (Some x) = refl

pub one_told : (r q : Result Told Refusal) → told found r ≡ told found q → r ≡ q
one_told = one_result found back back-found
