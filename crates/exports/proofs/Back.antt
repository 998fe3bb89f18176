-- Events no further apart than stamps can tell: no NOP comes between them, and written as an export they are read back.
use Rattle.std.proofs.Common.{◌≡◌, ℕ, zero, suc, ◌+◌, ◌-◌, ◌*◌, ◌%◌, ◌^◌, ◌<◌, ◌≤◌, false, not, List, [], ◌∷◌, ◌++◌, map, length, drop, sym, refl, ap, ◌∙◌, subst, add-zero, add-suc, suc-add, arith, drop-cons, le-ltb, lt-ltb, ne_eqb}
use mathlib.Core.Option.{none}
use lib.Dec.{eqb-suc-zero}
use Rattle.reading.specs.Search.{count}
use Rattle.reading.specs.Words.{word_at, word_bytes, half_at, half_bytes}
use Rattle.reading.specs.Capture.{Event}
use Rattle.reading.specs.Export.{most_records, record_count, stamp_at, record_pins, around, apart, cycle_of, record_of, records_of, stands, bad_export, bad_pins, reach, between, nop, nops, bridged_from, bridged, record_bytes, export_of, first_cycle}
use Rattle.reading.proofs.Meaning.{event_of}
use Rattle.words.proofs.Counting.{counted}
use Rattle.words.proofs.Halves.{half-drop, first-half}
use Rattle.words.proofs.Search.{nothing-below}
use Rattle.words.proofs.Words.{word-drop, first_word}
use Rattle.capture.proofs.Rising.{Rises, Low, low-at, rises-at}
use Rattle.capture.proofs.Whole.{Orderly}
use Rattle.exports.specs.Meaning.{too_high}
use Rattle.exports.proofs.Bridges.{export-length}

-- each event at most 65,535 cycles behind the one before, the first behind cycle `last`
abbrev pub Near : ℕ → List Event → Type 0
Near last [] = Unit {0}
Near last (e ∷ es) = (e.cycle ≤ last + reach) × Near e.cycle es

-- event by event
pub points_near : (last : ℕ) (es : List Event) → (0 < length es → (event_of es 0).cycle ≤ last + reach) →
    ((i : ℕ) → suc i < length es → (event_of es (suc i)).cycle ≤ (event_of es i).cycle + reach) → Near last es
points_near last [] f r = tt
points_near last (e ∷ es) f r =
    (f (omega arith), points_near e.cycle es (λ l. r 0 (omega arith)) (λ i l. r (suc i) (omega arith)))

pub points-rise : (from : ℕ) (es : List Event) → (0 < length es → from ≤ (event_of es 0).cycle) →
    ((i : ℕ) → suc i < length es → (event_of es i).cycle < (event_of es (suc i)).cycle) → Rises from es
points-rise from [] f r = tt
points-rise from (e ∷ es) f r =
    (f (omega arith), points-rise (suc e.cycle) es (λ l. r 0 (omega arith)) (λ i l. r (suc i) (omega arith)))

pub points-low : (limit : ℕ) (es : List Event) → ((i : ℕ) → i < length es → (event_of es i).pins < limit) → Low limit es
points-low limit [] r = tt
points-low limit (e ∷ es) r = (r 0 (omega arith), points-low limit es (λ i l. r (suc i) (omega arith)))

-- no NOP comes between them
pub near-bridged : (last : ℕ) (es : List Event) → Near last es → bridged_from last es ≡ es
unfolding bridged_from nops
near-bridged last [] n = refl
near-bridged last (e ∷ es) n =
    let none : between last e.cycle ≡ 0 = omega (arith, n.0) in
    rw none (ap (λ (l : List Event). e ∷ l) (near-bridged e.cycle es n.1))

near_first : (last : ℕ) (es : List Event) → Near last es → 0 < length es → (event_of es 0).cycle ≤ last + reach
near_first last [] n l = absurd (omega arith)
near_first last (e ∷ es) n l = n.0

near_next : (last : ℕ) (es : List Event) → Near last es → (i : ℕ) → suc i < length es → (event_of es (suc i)).cycle ≤ (event_of es i).cycle + reach
near_next last [] n i l = absurd (omega arith)
near_next last (e ∷ es) n zero l = near_first e.cycle es n.1 (omega arith)
near_next last (e ∷ es) n (suc i) l = near_next e.cycle es n.1 i (omega arith)

near-early : (last : ℕ) (es : List Event) → Near last es → (i : ℕ) → i < length es → (event_of es i).cycle ≤ last + reach * suc i
near-early last [] n i l = absurd (omega arith)
near-early last (e ∷ es) n zero l = omega (arith, n.0)
near-early last (e ∷ es) n (suc i) l = omega (arith, n.0, near-early e.cycle es n.1 i (omega arith))

-- ---- with their NOPs, events are so near

nops-near : (last : ℕ) (rest : List Event) (j n : ℕ) → Near (last + reach * (j + n)) rest → Near (last + reach * j) (map (nop last) (count j n) ++ rest)
nops-near last rest j zero r = subst (λ (k : ℕ). Near (last + reach * k) rest) (add-zero j) r
nops-near last rest j (suc n) r = (
  omega arith,
  nops-near last rest (suc j) n (subst (λ (k : ℕ). Near (last + reach * k) rest) (add-suc j n ∙ sym (suc-add j n)) r),
)

pub bridged-near : (last : ℕ) (es : List Event) → Near last (bridged_from last es)
unfolding bridged_from nops
bridged-near last [] = tt
bridged-near last (e ∷ es) =
    let k = between last e.cycle in
    let start : last + reach * 0 ≡ last = omega arith in
    subst (λ (from : ℕ). Near from (map (nop last) (count 0 k) ++ e ∷ bridged_from e.cycle es)) start
    (nops-near last (e ∷ bridged_from e.cycle es) 0 k (omega arith, bridged-near e.cycle es))

-- they rise
nops-rise : (last : ℕ) (rest : List Event) (j n : ℕ) → Rises (suc (last + reach * (j + n))) rest →
    Rises (suc (last + reach * j)) (map (nop last) (count j n) ++ rest)
nops-rise last rest j zero r = subst (λ (k : ℕ). Rises (suc (last + reach * k)) rest) (add-zero j) r
nops-rise last rest j (suc n) r = (
  omega arith,
  nops-rise last rest (suc j) n (subst (λ (k : ℕ). Rises (suc (last + reach * k)) rest) (add-suc j n ∙ sym (suc-add j n)) r),
)

bridged-rises : (last : ℕ) (es : List Event) → Rises (suc last) es → Rises (suc last) (bridged_from last es)
unfolding bridged_from nops
bridged-rises last [] r = tt
bridged-rises last (e ∷ es) r =
    let k = between last e.cycle in
    let start : last + reach * 0 ≡ last = omega arith in
    subst (λ (from : ℕ). Rises (suc from) (map (nop last) (count 0 k) ++ e ∷ bridged_from e.cycle es)) start
    (nops-rise last (e ∷ bridged_from e.cycle es) 0 k (omega (arith, r.0), bridged-rises e.cycle es r.1))

-- none before the first, which is not too late
pub all-rise : (es : List Event) → first_cycle es ≤ reach → Rises 0 es → Rises 0 (bridged es)
unfolding bridged_from nops
all-rise [] f r = tt
all-rise (e ∷ es) f r =
    let none : between 0 e.cycle ≡ 0 = omega arith in
    rw none (omega arith, bridged-rises e.cycle es r.1)

nops-low : (limit last : ℕ) (rest : List Event) → 0xE0000 < limit → Low limit rest → (j n : ℕ) → Low limit (map (nop last) (count j n) ++ rest)
nops-low limit last rest l r j zero = r
nops-low limit last rest l r j (suc n) = (l, nops-low limit last rest l r (suc j) n)

pub bridged-low : (limit last : ℕ) (es : List Event) → 0xE0000 < limit → Low limit es → Low limit (bridged_from last es)
unfolding bridged_from nops
bridged-low limit last [] l r = tt
bridged-low limit last (e ∷ es) l r =
    nops-low limit last (e ∷ bridged_from e.cycle es) l (r.0, bridged-low limit e.cycle es l r.1) 0 (between last e.cycle)

-- ---- records in the bytes of an export

from-record : (es : List Event) (i : ℕ) → drop (6 * i) (export_of es) ≡ export_of (drop i es)
unfolding export_of half_bytes word_bytes
from-record es zero = refl
from-record [] (suc i) = let k : 6 * suc i ≡ suc (5 + 6 * i) = omega arith in rw k
from-record (e ∷ es) (suc i) = let k : 6 * suc i ≡ suc (suc (suc (suc (suc (suc (6 * i)))))) = omega arith in rw k (from-record es i)

module _ (es : List Event) (i : ℕ) (l : i < length es) where
  abbrev e : Event
  e = event_of es i

  record-there : drop (6 * i) (export_of es) ≡ record_bytes e ++ export_of (drop (suc i) es)
  unfolding export_of
  record-there = from-record es i ∙ ap export_of (drop-cons es i (record { cycle = 0; pins = 0 }) l)

  stamp-back : stamp_at (export_of es) i ≡ e.cycle % around
  unfolding half_bytes export_of
  stamp-back =
      ap (half_at (export_of es)) (sym (add-zero (6 * i))) ∙ sym (half-drop (6 * i) (export_of es) 0)
      ∙ ap (λ (b : List ℕ). half_at b 0) record-there ∙ first-half (e.cycle % around) (word_bytes e.pins ++ export_of (drop (suc i) es)) (omega arith)

  pins-back : e.pins < 2 ^ 32 → record_pins (export_of es) i ≡ e.pins
  unfolding half_bytes
  pins-back k =
      sym (word-drop (6 * i) (export_of es) 2) ∙ ap (λ (b : List ℕ). word_at b 2) record-there
      ∙ sym (word-drop 2 (record_bytes e ++ export_of (drop (suc i) es)) 0) ∙ first_word e.pins (export_of (drop (suc i) es)) k

-- ---- read back

module _ (es : List Event) (near : Near 0 es) (rises : Rises 0 es) (low : Low (2 ^ 20) es) where
  abbrev X : List ℕ
  X = export_of es

  cycle-back : (i : ℕ) → i < length es → cycle_of X i ≡ (event_of es i).cycle
  unfolding cycle_of
  cycle-back zero l = omega (arith, stamp-back es 0 l, near_first 0 es near l)
  cycle-back (suc i) l =
      omega (
        arith,
        cycle-back i (omega arith),
        stamp-back es i (omega arith),
        stamp-back es (suc i) l,
        near_next 0 es near i l,
        rises-at 0 es rises i l,
      )

  size_back : record_count X ≡ length es
  size_back = omega (arith, export-length es)

  low-back : (i : ℕ) → i < length es → record_pins X i ≡ (event_of es i).pins
  low-back i l = pins-back es i l (omega (arith, low-at (2 ^ 20) es low i l))

  pub records-back : records_of X ≡ es
  unfolding records_of
  records-back =
      ap (λ (n : ℕ). map (record_of X) (count 0 n)) size_back
      ∙ counted (record_of X) (record { cycle = 0; pins = 0 }) es (λ i l j. record { cycle = cycle-back i l j; pins = low-back i l j })

  module _ (few : length es ≤ most_records) where
    moves-back : (i : ℕ) → i < length es → stands X i ≡ false
    moves-back zero l = refl
    moves-back (suc i) l =
        let k : suc i - 1 ≡ i = omega arith in
        rw (k, eqb-suc-zero i)
        (ne_eqb (apart (stamp_at X i) (stamp_at X (suc i))) 0
        (λ z.
        omega (
          arith,
          stamp-back es i (omega arith),
          stamp-back es (suc i) l,
          near_next 0 es near i l,
          rises-at 0 es rises i l,
        )))

    pub export-fine : bad_export X ≡ none
    unfolding bad_export
    export-fine =
        let whole : length X % 6 ≡ 0 = omega (arith, export-length es) in
        rw (whole, size_back, le-ltb most_records (length es) few) (nothing-below (stands X) (length es) moves-back)

    pub pins-fine : bad_pins X ≡ none
    unfolding bad_pins
    pins-fine =
        rw size_back
        (nothing-below (too_high X) (length es)
        (λ i l. ap not (lt-ltb (record_pins X i) (2 ^ 20) (omega (arith, low-back i l, low-at (2 ^ 20) es low i l)))))

    -- and they may stand in a capture
    pub near-orderly : Orderly (2 ^ 20) es
    near-orderly =
        record {
          few = few;
          rise = rises-at 0 es rises;
          low = low-at (2 ^ 20) es low;
          early = λ i l. omega (arith, near-early 0 es near i l);
        }
