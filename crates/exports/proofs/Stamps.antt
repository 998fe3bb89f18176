-- Stamps and the cycles that they count.
use Rattle.std.proofs.Common.{◌≡◌, ℕ, zero, suc, ◌+◌, ◌/◌, ◌%◌, ◌^◌, ◌<◌, ◌≤◌, Bool, true, false, not, eqb, List, length, sym, refl, ap, arith, le-ltb, lt-ltb, eq-eqb, ne_eqb, eqb-true}
use mathlib.Core.Option.{some}
use borrow.Author.Tests.{eqb-false}
use Rattle.reading.specs.Search.{lowest}
use Rattle.exports.specs.Meaning.{too_high}
use Rattle.reading.specs.Export.{stamp_at, record_pins, apart, cycle_of, stands, bad_export}

-- two stamps are apart unless they are the same
apart_none : (a b : ℕ) → a < 2 ^ 16 → b < 2 ^ 16 → eqb (apart b a) 0 ≡ eqb a b
apart_none a b k l = go (eqb a b) refl
  where
    go : (v : Bool) → eqb a b ≡ v → eqb (apart b a) 0 ≡ v
    go true e = eq-eqb (apart b a) 0 (omega (arith, eqb-true a b e))
    go false e = ne_eqb (apart b a) 0 (λ z. eqb-false a b e (omega arith))

-- refusal 11
module _ (records : List ℕ) where
  pub not-whole : (length records % 6 ≡ 0 → ⊥) → some 0 ≡ bad_export records
  unfolding bad_export
  not-whole e = sym (rw (ne_eqb (length records % 6) 0 e))

  module _ (whole : length records % 6 ≡ 0) where
    pub too_many : 8000 < length records / 6 → some 8000 ≡ bad_export records
    unfolding bad_export
    too_many l = sym (rw (whole, lt-ltb 8000 (length records / 6) l))

    pub standing : length records / 6 ≤ 8000 → bad_export records ≡ lowest (stands records) (length records / 6)
    unfolding bad_export
    standing l = rw (whole, le-ltb 8000 (length records / 6) l)

-- pins that there are, and that there are not
module _ (records : List ℕ) (i : ℕ) where
  pub low : {w : ℕ} → w ≡ record_pins records i → w < 2 ^ 20 → too_high records i ≡ false
  low e l = ap not (lt-ltb (record_pins records i) (2 ^ 20) (omega arith))

  pub high : {w : ℕ} → w ≡ record_pins records i → 2 ^ 20 ≤ w → too_high records i ≡ true
  high e l = ap not (le-ltb (record_pins records i) (2 ^ 20) (omega arith))

-- ---- cycles

-- the cycle and the stamp that record i is counted from
abbrev pub from : List ℕ → ℕ → ℕ
from records zero = 0
from records (suc i) = cycle_of records i

abbrev pub behind : List ℕ → ℕ → ℕ
behind records zero = 0
behind records (suc i) = stamp_at records i

pub cycle-is : (records : List ℕ) (i : ℕ) → stamp_at records i < 2 ^ 16 → from records i + apart (behind records i) (stamp_at records i) ≡ cycle_of records i
unfolding cycle_of
cycle-is records zero l = omega arith
cycle-is records (suc i) l = refl
