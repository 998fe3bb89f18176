-- Pin words that differ at most in pins that may be hidden are those that are blanked to the same.
use Prim.Native.Nat.{ℕ, ◌+◌, ◌*◌, ◌/◌, ◌%◌, ◌^◌, ◌<◌}
use mathlib.Core.Bool.{Bool, true, false, cond, ◌&&◌, ◌||◌}
use mathlib.Core.Logic.{◌⊎◌, inl, inr, ◌↔◌}
use mathlib.Core.Path.{◌≡◌, refl, sym, ap, ◌∙◌}
use native.Mathlib.Omega.{arith}
use lib.Dec.{eqb, ltb}
use lib.Pow.{pow_pos}
use borrow.Author.Tests.{eqb-true, eq-eqb, ltb-true, lt-ltb}
use Rattle.reading.specs.Words.{bit}
use Rattle.reading.specs.Settings.{Settings}
use Rattle.reading.specs.Blank.{names_column, names_row, above, Alike, same, columns, rows, blank_pins}
use Rattle.reading.proofs.Laws.{both}
use Rattle.pins.specs.Pins.{code_of, bank_of, address_of, low_of}
use Rattle.pins.proofs.Commands.{active-is, gives-is}

-- ---- what stands above the address: bank, command pins and CKE

module _ (v w : ℕ) (a : above v ≡ above w) where
  pub same_code : code_of v ≡ code_of w
  same_code = omega arith

  pub same-bank : bank_of v ≡ bank_of w
  same-bank = omega arith

  pub same_low : low_of v ≡ low_of w
  same_low = let e : v / 1048576 % 2 ≡ w / 1048576 % 2 = omega arith in ap (λ (k : ℕ). eqb k 1) e

-- ---- the commands by the number of their pins

module _ (w : ℕ) where
  pub column-code : names_column w ≡ true → (code_of w ≡ 10) ⊎ (code_of w ≡ 2)
  column-code e = go (eqb (code_of w) 10) (eqb (code_of w) 2) refl refl (sym (gives-is w) ∙ e)
    where
      go : (x y : Bool) → eqb (code_of w) 10 ≡ x → eqb (code_of w) 2 ≡ y → (x || y) ≡ true → (code_of w ≡ 10) ⊎ (code_of w ≡ 2)
      go true y f g h = inl (eqb-true (code_of w) 10 f)
      go false true f g h = inr (eqb-true (code_of w) 2 g)
      go false false f g h = let z : ◌≡◌ {A = ℕ} 0 1 = cc in absurd (omega arith)

  pub no-column : code_of w ≡ 12 → names_column w ≡ false
  no-column e = gives-is w ∙ ap (λ (q : ℕ). eqb q 10 || eqb q 2) e

  module _ (s : Settings) where
    pub row_is : names_row s w ≡ (eqb (code_of w) 12 && ltb (address_of w) (2 ^ s.row_bits))
    row_is = λ i. active-is w i && ltb (address_of w) (2 ^ s.row_bits)

    pub record Row : Type 0 where
      pub code : code_of w ≡ 12
      pub there : address_of w < 2 ^ s.row_bits

    pub row-code : names_row s w ≡ true → Row
    row-code e =
        let (a, b) = both (eqb (code_of w) 12) (ltb (address_of w) (2 ^ s.row_bits)) (sym row_is ∙ e) in
        record { code = eqb-true (code_of w) 12 a; there = ltb-true (address_of w) (2 ^ s.row_bits) b }

    pub code_row : Row → names_row s w ≡ true
    code_row r = row_is ∙ (λ i. eq-eqb (code_of w) 12 r.code i && lt-ltb (address_of w) (2 ^ s.row_bits) r.there i)

    -- ---- a pin word blanked, by what it names

    abbrev pub made : Bool → Bool → ℕ
    made column row = cond column (2 ^ 14 * above w + 2 ^ 10 * bit 10 w) (cond row (2 ^ 14 * above w) w)

    pub as-made : {column row : Bool} → names_column w ≡ column → names_row s w ≡ row → blank_pins s w ≡ made column row
    unfolding blank_pins
    as-made e f = λ i. made (e i) (f i)

    pub above-blank : above (blank_pins s w) ≡ above w
    above-blank = go (names_column w) (names_row s w) refl refl
      where
        go : (x y : Bool) → names_column w ≡ x → names_row s w ≡ y → above (blank_pins s w) ≡ above w
        go true y e f = ap above (as-made e f) ∙ omega arith
        go false true e f = ap above (as-made e f) ∙ omega arith
        go false false e f = ap above (as-made e f)

    ten-blank : names_column w ≡ true → bit 10 (blank_pins s w) ≡ bit 10 w
    ten-blank e = ap (bit 10) (as-made e refl) ∙ omega arith

-- ---- alike, and blanked to the same

module _ (s : Settings) (v w : ℕ) where
  abbrev Blanks : Type 0
  Blanks = blank_pins s v ≡ blank_pins s w

  same-column : above v ≡ above w → names_column v ≡ names_column w
  same-column a = gives-is v ∙ ap (λ (q : ℕ). eqb q 10 || eqb q 2) (same_code v w a) ∙ sym (gives-is w)

  -- where one is blanked to a row of 0, the other's row is 0
  row-of-0 : above v ≡ above w → names_row s v ≡ true → w ≡ 2 ^ 14 * above v → names_row s w ≡ true
  row-of-0 a r e =
      let none : address_of w ≡ 0 = omega arith in
      code_row w s (record { code = sym (same_code v w a) ∙ (row-code v s r).code; there = rw none (pow_pos s.row_bits) })

  pub alike-blank : Alike s v w → Blanks
  alike-blank (same e) = ap (blank_pins s) e
  alike-blank (columns c a b) =
      as-made v s c refl ∙ (λ i. 2 ^ 14 * a i + 2 ^ 10 * b i) ∙ sym (as-made w s (sym (same-column a) ∙ c) refl)
  alike-blank (rows r q a) =
      as-made v s (no-column v (row-code v s r).code) r ∙ ap (λ (k : ℕ). 2 ^ 14 * k) a
      ∙ sym (as-made w s (no-column w (row-code w s q).code) q)

  same_above : Blanks → above v ≡ above w
  same_above e = sym (above-blank v s) ∙ ap above e ∙ above-blank w s

  -- what is above the address is the same of both
  pub alike-above : Alike s v w → above v ≡ above w
  alike-above k = same_above (alike-blank k)

module _ (s : Settings) (v w : ℕ) where
  -- an ACTIVE's row would be there
  row-there : blank_pins s v ≡ blank_pins s w → names_column v ≡ false → names_row s v ≡ true → names_row s w ≡ false → ⊥
  row-there e c r q =
      let a = same_above s v w e in
      let zeros : w ≡ 2 ^ 14 * above v = sym (as-made w s (sym (same-column s v w a) ∙ c) q) ∙ sym e ∙ as-made v s c r in
      let z : ◌≡◌ {A = Bool} true false = sym (row-of-0 s v w a r zeros) ∙ q in
      let k : ◌≡◌ {A = ℕ} 0 1 = cc in omega arith

module _ (s : Settings) (v w : ℕ) where
  pub blank-alike : blank_pins s v ≡ blank_pins s w → Alike s v w
  blank-alike e = go (names_column v) (names_row s v) (names_row s w) refl refl refl
    where
      a : above v ≡ above w
      a = same_above s v w e

      go : (c r q : Bool) → names_column v ≡ c → names_row s v ≡ r → names_row s w ≡ q → Alike s v w
      go true r q f g h = columns f a (sym (ten-blank v s f) ∙ ap (bit 10) e ∙ ten-blank w s (sym (same-column s v w a) ∙ f))
      go false true true f g h = rows g h a
      go false true false f g h = absurd (row-there s v w e f g h)
      go false false true f g h = absurd (row-there s w v (sym e) (sym (same-column s v w a) ∙ f) h g)
      go false false false f g h = same (sym (as-made v s f g) ∙ e ∙ as-made w s (sym (same-column s v w a) ∙ f) h)

  -- Two pin words differ at most in pins that may be hidden exactly when they are blanked to the same.
  pub alike-exactly : Alike s v w ↔ blank_pins s v ≡ blank_pins s w
  alike-exactly = (alike-blank s v w, blank-alike)

-- a pin word is alike to itself blanked
pub blanked-alike : (s : Settings) (w : ℕ) → Alike s w (blank_pins s w)
blanked-alike s w = go (names_column w) (names_row s w) refl refl
  where
    go : (c r : Bool) → names_column w ≡ c → names_row s w ≡ r → Alike s w (blank_pins s w)
    go true r e f = columns e (sym (above-blank w s)) (sym (ten-blank w s e))
    go false true e f = rows f (row-of-0 s w (blank_pins s w) (sym (above-blank w s)) f (as-made w s e f)) (sym (above-blank w s))
    go false false e f = same (sym (as-made w s e f))
