-- A request's tests, one at a time; and the walk over the requests.
use Prim.Native.Nat.{ℕ, zero, suc, ◌+◌, ◌*◌, ◌/◌, ◌%◌, ◌^◌, ◌≤◌, ◌<◌}
use mathlib.Core.Bool.{Bool, true, false, not, ◌&&◌, and-eq-true_iff}
use mathlib.Core.List.{List}
use mathlib.Core.Option.{none, some}
use mathlib.Core.Path.{◌≡◌, refl, sym, ap, ◌∙◌}
use native.Mathlib.Decide.{dec_lt}
use native.Mathlib.Nat.{mod-eq_of_lt}
use native.Mathlib.Omega.{arith}
use lib.Dec.{ltb, eqb}
use lib.ListN.{length, get_or}
use lib.Pow.{pow_pos, pow_mono, pow-add, shr_lt, shl-shr, shr-shr, shr_mono, field}
use borrow.Author.Tests.{ltb-true, ltb-false, lt-ltb, le-ltb, eq-eqb, ne_eqb}
use Rattle.reading.specs.Settings.{Settings}
use Rattle.reading.specs.Schedule.{first_cell, cell_bank, request_fits, bad_request}
use Rattle.memory.specs.Serving.{Sized}
use Rattle.words.proofs.Search as search
use Rattle.words.proofs.Search.{found_from}
use Rattle.requests.specs.Asked.{Asked, cell_count, below, EachBelow}

pub all-bits : (bits : ℕ) → bits ≤ 31 → 2 ^ (bits % 32) ≡ 2 ^ bits
all-bits bits l = let e : bits % 32 ≡ bits = mod-eq_of_lt (omega arith) in rw e

pub some-numbers : (bits : ℕ) → 0 < 2 ^ bits
some-numbers bits = pow_pos bits

pub few-numbers : (bits : ℕ) → bits ≤ 14 → 2 ^ bits ≤ 16384
few-numbers bits l = pow_mono l

-- ---- one request

module _ (s : Settings) (q : ℕ) where
  bits-set : (q / 2 ^ 27 % 2 ^ 4 ≡ 0 → ⊥) → request_fits s q ≡ false
  unfolding request_fits
  bits-set h = rw (ne_eqb (q / 2 ^ 27 % 2 ^ 4) 0 h)

  bits-clear : q / 2 ^ 27 % 2 ^ 4 ≡ 0 → request_fits s q ≡ ltb (cell_bank s (first_cell q)) 4
  unfolding request_fits
  bits-clear h = rw (eq-eqb (q / 2 ^ 27 % 2 ^ 4) 0 h)

  pub bank-low : Asked s q → cell_bank s (first_cell q) < 4
  unfolding request_fits
  bank-low a = ltb-true _ 4 ((and-eq-true_iff (eqb (q / 2 ^ 27 % 2 ^ 4) 0) (ltb (cell_bank s (first_cell q)) 4)).0 a.fits).1

-- the two tests are one
module _ (s : Settings) (q : ℕ) (z : Sized s) where
  abbrev bits : ℕ
  bits = s.column_bits + s.row_bits

  abbrev cell : ℕ
  cell = first_cell q

  cells_are : cell_count s ≡ 2 ^ (2 + bits)
  cells_are = ap (λ (n : ℕ). 2 ^ n) (omega arith)

  few-cells : 2 ^ (2 + bits) ≤ 2 ^ 27
  few-cells = let l : 2 + bits ≤ 27 = omega (arith, z.columns, z.rows) in pow_mono l

  bank-is : cell_bank s cell ≡ cell / 2 ^ bits
  bank-is = shr-shr cell s.column_bits s.row_bits

  one-fits : q % 2 ^ 31 < 2 ^ (2 + bits) → request_fits s q ≡ true
  one-fits l =
      let same : cell ≡ q % 2 ^ 31 = omega (arith, few-cells) in
      bits-clear s q (omega (arith, few-cells, field q 4 27)) ∙ lt-ltb (cell_bank s cell) 4 (omega (arith, bank-is, shr_lt {n = cell} 2 bits (omega (arith, same))))

  none-fits : 2 ^ (2 + bits) ≤ q % 2 ^ 31 → request_fits s q ≡ false
  none-fits l = go (q / 2 ^ 27 % 2 ^ 4) refl
    where
      go : (n : ℕ) → q / 2 ^ 27 % 2 ^ 4 ≡ n → request_fits s q ≡ false
      go zero e =
          let high : 2 ^ 2 * 2 ^ bits ≤ cell = omega (arith, pow-add 2 2 bits) in
          bits-clear s q e ∙ le-ltb (cell_bank s cell) 4 (omega (arith, bank-is, shr_mono bits high, shl-shr (2 ^ 2) bits))
      go (suc n) e = bits-set s q (λ k. omega arith)

  fits-is : below (cell_count s) q ≡ request_fits s q
  fits-is = ap (ltb (q % 2 ^ 31)) cells_are ∙ go (ltb (q % 2 ^ 31) (2 ^ (2 + bits))) refl
    where
      go : (v : Bool) → ltb (q % 2 ^ 31) (2 ^ (2 + bits)) ≡ v → v ≡ request_fits s q
      go true e = sym (one-fits (ltb-true _ _ e))
      go false e = sym (none-fits (ltb-false _ _ e))

  fits-as : {n : ℕ} → n ≡ cell_count s → {v : Bool} → below n q ≡ v → request_fits s q ≡ v
  fits-as e k = sym fits-is ∙ ap (λ (n : ℕ). below n q) (sym e) ∙ k

-- ---- the walk: what is found from request i on is what is found at all

abbrev bad : Settings → List ℕ → ℕ → Bool
bad s qs i = not (request_fits s (get_or qs i 0))

pub record Sought (s : Settings) (qs : List ℕ) (i : ℕ) : Type 0 where
  pub within : i ≤ length qs
  pub same : found_from (bad s qs) (length qs) i ≡ bad_request s qs

module _ (s : Settings) (qs : List ℕ) where
  pub too_many : 2000 < length qs → some 2000 ≡ bad_request s qs
  unfolding bad_request
  too_many l = rw (lt-ltb 2000 (length qs) l)

  pub begins : length qs ≤ 2000 → Sought s qs 0
  unfolding bad_request
  begins l = record { within = omega arith; same = rw (le-ltb 2000 (length qs) l) (search.begins (bad s qs) (length qs)) }

module _ {s : Settings} {qs : List ℕ} {i : ℕ} (x : Sought s qs i) where
  pub goes_on : i < length qs → Sized s → {n : ℕ} → n ≡ cell_count s → below n (get_or qs i 0) ≡ true → Sought s qs (i + 1)
  goes_on l z e k = record { within = omega arith; same = sym (search.goes_on (bad s qs) (length qs) i l (ap not (fits-as s (get_or qs i 0) z e k))) ∙ x.same }

  pub stops : i < length qs → Sized s → {n : ℕ} → n ≡ cell_count s → below n (get_or qs i 0) ≡ false → some i ≡ bad_request s qs
  stops l z e k = sym (search.stops (bad s qs) (length qs) i l (ap not (fits-as s (get_or qs i 0) z e k))) ∙ x.same

  pub ends : length qs ≤ i → none ≡ bad_request s qs
  ends l = sym (search.ends (bad s qs) (length qs) i l) ∙ x.same

-- ---- all at once: fine if requests 0 to i - 1 are

pub record Looked (n : ℕ) (qs : List ℕ) (fine : Bool) (i : ℕ) : Type 0 where
  pub within : i ≤ length qs
  pub low : fine ≡ true → (j : ℕ) → j < i → below n (get_or qs j 0) ≡ true

pub looks : (n : ℕ) (qs : List ℕ) → Looked n qs true 0
looks n qs = record { within = omega arith; low = λ e j l. absurd (omega arith) }

pub looks_on : {n : ℕ} {qs : List ℕ} {fine one fine' : Bool} {i : ℕ} → Looked n qs fine i → i < length qs →
    one ≡ below n (get_or qs i 0) → fine' ≡ (fine && one) → Looked n qs fine' (i + 1)
looks_on {n} {qs} {fine} {one} {fine'} {i} x l f g = record { within = omega arith; low = λ e j k. more e j (dec_lt j i) k }
  where
    told : fine' ≡ true → (fine ≡ true) × (one ≡ true)
    told e = (and-eq-true_iff fine one).0 (sym g ∙ e)

    more : fine' ≡ true → (j : ℕ) → Dec (j < i) → j < i + 1 → below n (get_or qs j 0) ≡ true
    more e j (yes k) m = x.low (told e).0 j k
    more e j (no k) m = let z : j ≡ i = omega arith in rw z (sym f ∙ (told e).1)

pub all_asked : (s : Settings) (qs : List ℕ) → Sized s → length qs ≤ 2000 → {n : ℕ} → n ≡ cell_count s → EachBelow n qs → none ≡ bad_request s qs
unfolding bad_request
all_asked s qs z l e f =
    rw (le-ltb 2000 (length qs) l) (sym (search.nothing-below (bad s qs) (length qs) (λ i k. ap not (fits-as s (get_or qs i 0) z e (f i k)))))
