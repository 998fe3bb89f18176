-- The index alone answers every question of its capture: what is looked up in its words, and in the bank's record, is what the
-- rules say. Whatever lies behind the index does not matter.
use Prim.Native.Nat.{ℕ, zero, suc, ◌+◌, ◌*◌, ◌≤◌, ◌<◌}
use native.Mathlib.Omega.{arith}
use mathlib.Core.Path.{◌≡◌, refl, sym, ap, ◌∙◌, subst}
use mathlib.Core.Bool.{Bool, true, false, cond, ◌&&◌}
use mathlib.Core.List.{List, [], ◌∷◌, ◌++◌, append_assoc, append-nil}
use mathlib.Core.Option.{Option, some}
use lib.ListN.{length, get_or, length-append}
use lib.Dec.{leb}
use Rattle.reading.specs.Search.{count, find}
use Rattle.reading.specs.Settings.{Settings}
use Rattle.reading.specs.Capture.{Event}
use Rattle.reading.specs.Verdict.{clean, verdict_of}
use Rattle.reading.specs.Openings.{Opening, Record, row_after, openings_of, opening_words, index_of, records_of}
use Rattle.reading.specs.OpenRow.{opening_at, holds, row_found, looked_up}
use Rattle.reading.proofs.Ordered.{found_in}
use Rattle.reading.proofs.CleanRows.{clean-answers}

-- these openings stand in the index, from opening k on
abbrev Stand : List ℕ → ℕ → List Opening → Type 0
Stand index k [] = Unit {0}
Stand index k (x ∷ xs) = (opening_at index k ≡ x) × Stand index (suc k) xs

-- ---- behind three words more they stand one further

module _ (x y z : ℕ) (index : List ℕ) where
  word-behind : (k m n : ℕ) → n ≡ 3 + m → get_or (x ∷ y ∷ z ∷ index) n 0 ≡ get_or index m 0
  word-behind k m n e = ap (λ (i : ℕ). get_or (x ∷ y ∷ z ∷ index) i 0) (e ∙ three m)
    where
      three : (m : ℕ) → 3 + m ≡ suc (suc (suc m))
      three m = omega arith

  opening-behind : (k : ℕ) → opening_at (x ∷ y ∷ z ∷ index) (suc k) ≡ opening_at index k
  opening-behind k =
      let row = word-behind k (3 * k) (3 * suc k) (omega arith) in
      let first = word-behind k (3 * k + 1) (3 * suc k + 1) (omega arith) in
      let last = word-behind k (3 * k + 2) (3 * suc k + 2) (omega arith) in
      λ i. record { row = row i; first = first i; last = last i }

  stand-behind : (k : ℕ) (xs : List Opening) → Stand index k xs → Stand (x ∷ y ∷ z ∷ index) (suc k) xs
  stand-behind k [] st = tt
  stand-behind k (o ∷ xs) st = (opening-behind k ∙ st.0, stand-behind (suc k) xs st.1)

stand-first : (xs more : List Opening) (rest : List ℕ) → Stand (opening_words (xs ++ more) ++ rest) 0 xs
stand-first [] more rest = tt
stand-first (o ∷ xs) more rest = (refl, stand-behind o.row o.first o.last (opening_words (xs ++ more) ++ rest) 0 xs (stand-first xs more rest))

stand-after : (before xs more : List Opening) (rest : List ℕ) → Stand (opening_words (before ++ (xs ++ more)) ++ rest) (length before) xs
stand-after [] xs more rest = stand-first xs more rest
stand-after (o ∷ before) xs more rest =
    stand-behind o.row o.first o.last (opening_words (before ++ (xs ++ more)) ++ rest) (length before) xs (stand-after before xs more rest)

-- ---- so what is looked up among them is what they answer

module _ (index : List ℕ) (j : ℕ) where
  abbrev within : Opening → Bool
  within o = leb o.first j && leb j o.last

  one-looked : (k : ℕ) (o : Opening) (xs : List Opening) (found : Option ℕ) → opening_at index k ≡ o → row_found index found ≡ found_in xs j →
      row_found index (cond (holds index j k) (some k) found) ≡ cond (within o) (some o.row) (found_in xs j)
  one-looked k o xs found e ih = go (holds index j k) (ap within e)
    where
      go : (y : Bool) → y ≡ within o → row_found index (cond y (some k) found) ≡ cond (within o) (some o.row) (found_in xs j)
      go true f = ap (λ (x : Opening). some x.row) e ∙ ap (λ (y : Bool). cond y (some o.row) (found_in xs j)) f
      go false f = ih ∙ ap (λ (y : Bool). cond y (some o.row) (found_in xs j)) f

  looks : (k : ℕ) (xs : List Opening) → Stand index k xs → row_found index (find (holds index j) (count k (length xs))) ≡ found_in xs j
  looks k [] st = refl
  looks k (o ∷ xs) st = one-looked k o xs (find (holds index j) (count (suc k) (length xs))) st.0 (looks (suc k) xs st.1)

-- ---- of each bank

module _ (s : Settings) (es : List Event) (rest : List ℕ) (j : ℕ) where
  abbrev of : ℕ → List Opening
  of = openings_of s es

  abbrev record_at : ℕ → Record
  record_at b = get_or (records_of s es) b (record { before = 0; count = 0 })

  -- the openings of the bank behind some, and before others
  finds : (r : Record) (before xs more : List Opening) → opening_words (before ++ (xs ++ more)) ≡ index_of s es → r.before ≡ length before →
      r.count ≡ length xs → looked_up r (index_of s es ++ rest) j ≡ found_in xs j
  unfolding looked_up
  finds r before xs more e f g =
      subst (λ (l : List ℕ). row_found (l ++ rest) (find (holds (l ++ rest) j) (count r.before r.count)) ≡ found_in xs j) e
      (ap (λ (k : ℕ). row_found index (find (holds index j) (count k r.count))) f
      ∙ (ap (λ (n : ℕ). row_found index (find (holds index j) (count (length before) n))) g
      ∙ looks index j (length before) xs (stand-after before xs more rest)))
    where
      index : List ℕ
      index = opening_words (before ++ (xs ++ more)) ++ rest

  flat : (a b c d : List Opening) → a ++ (b ++ (c ++ d)) ≡ a ++ b ++ c ++ d
  flat a b c d = sym (append_assoc a b (c ++ d)) ∙ sym (append_assoc (a ++ b) c d)

  looked-up : (b : ℕ) → b ≤ 3 → looked_up (record_at b) (index_of s es ++ rest) j ≡ found_in (of b) j
  unfolding index_of records_of
  looked-up zero l = finds (record_at 0) [] (of 0) (of 1 ++ (of 2 ++ of 3)) (ap opening_words (flat (of 0) (of 1) (of 2) (of 3))) refl refl
  looked-up (suc zero) l = finds (record_at 1) (of 0) (of 1) (of 2 ++ of 3) (ap opening_words (flat (of 0) (of 1) (of 2) (of 3))) (omega arith) refl
  looked-up (suc (suc zero)) l =
      finds (record_at 2) (of 0 ++ of 1) (of 2) (of 3) (ap opening_words (sym (append_assoc (of 0 ++ of 1) (of 2) (of 3))))
      (omega (arith, length-append (of 0) (of 1))) refl
  looked-up (suc (suc (suc zero))) l =
      finds (record_at 3) (of 0 ++ of 1 ++ of 2) (of 3) [] (ap (λ (l : List Opening). opening_words (of 0 ++ of 1 ++ of 2 ++ l)) (append-nil (of 3)))
      (omega (arith, length-append (of 0 ++ of 1) (of 2), length-append (of 0) (of 1))) refl
  looked-up (suc (suc (suc (suc b)))) l = absurd (omega (arith, l))

-- of a clean capture, at every event
pub index-answers : (s : Settings) (es : List Event) → verdict_of s es ≡ clean → (rest : List ℕ) (b : ℕ) → b ≤ 3 → (j : ℕ) → j < length es →
    looked_up (record_at s es rest j b) (index_of s es ++ rest) j ≡ row_after s es b j
index-answers s es e rest b l j small = looked-up s es rest j b l ∙ clean-answers s b es e j small
