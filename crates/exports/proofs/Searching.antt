-- A search among n records for the lowest of a kind, a record at a time.
use Rattle.std.proofs.Common.{◌≡◌, ℕ, ◌+◌, ◌<◌, ◌≤◌, Bool, true, false, sym, ◌∙◌, arith}
use mathlib.Core.Option.{none, some}
use Rattle.reading.specs.Search.{lowest}
use Rattle.words.proofs.Search as search
use Rattle.words.proofs.Search.{found_from}

-- it has come to record i
pub record Sought (f : ℕ → Bool) (n i : ℕ) : Type 0 where
  pub within : i ≤ n
  pub same : found_from f n i ≡ lowest f n

pub begins : (f : ℕ → Bool) (n : ℕ) → Sought f n 0
begins f n = record { within = omega arith; same = search.begins f n }

module _ {f : ℕ → Bool} {n i : ℕ} (x : Sought f n i) where
  pub goes_on : i < n → f i ≡ false → Sought f n (i + 1)
  goes_on l e = record { within = omega arith; same = sym (search.goes_on f n i l e) ∙ x.same }

  pub stops : i < n → f i ≡ true → some i ≡ lowest f n
  stops l e = sym (search.stops f n i l e) ∙ x.same

  pub ends : n ≤ i → none ≡ lowest f n
  ends l = sym (search.ends f n i l) ∙ x.same
