-- The beats of one burst, one after another: whether the window holds their cells, and words stored there.
use Prim.Native.Nat.{ℕ, zero, suc, ◌+◌, ◌-◌, ◌*◌, ◌^◌, ◌≤◌, ◌<◌}
use mathlib.Core.Bool.{Bool, true, false, ◌&&◌}
use mathlib.Core.List.{List, map}
use mathlib.Core.Path.{◌≡◌, refl, sym, ap, ◌∙◌}
use native.Mathlib.Nat.{zero-add, add-zero, sub-zero, one-mul, mul_assoc}
use native.Mathlib.Numerals.{add-one}
use native.Mathlib.Omega.{arith}
use borrow.Author.Tests.{le-leb, lt-leb, lt-ltb, le-ltb, ltb-true, ltb-false}
use lib.Dec.{leb, ltb}
use lib.ListN.{length, get_or, set, length-set}
use Rattle.reading.specs.Search.{count, every}
use Rattle.reading.specs.Settings.{Settings}
use Rattle.reading.specs.Bursts.{cell_number}
use Rattle.reading.specs.Memory.{Datum, merged}
use Rattle.reading.specs.Player.{most_window, window_fits, in_window}
use Rattle.reading.proofs.Laws.{both}
use Rattle.words.proofs.Search.{one_less, none_left}
use Rattle.beats.specs.Rows.{first_in_row}
use Rattle.player.specs.Playing.{stored_from}
use Rattle.player.proofs.Window.{inside}

-- ---- the window

module _ (s : Settings) (first size : ℕ) where
  pub too_large : most_window < size → false ≡ window_fits s first size
  too_large l = sym (rw (lt-leb size most_window l))

  -- the cells of a part are those of four banks
  four-banks : 4 * first_in_row s 1 0 ≡ cell_number s 4 0 0
  four-banks = go (2 ^ s.row_bits) (2 ^ s.column_bits)
    where
      go : (rows columns : ℕ) → 4 * ((1 * rows + 0) * columns) ≡ (4 * rows + 0) * columns + 0
      go rows columns =
          ap (λ (k : ℕ). 4 * (k * columns)) (add-zero (1 * rows) ∙ one-mul rows)
          ∙ sym (mul_assoc 4 rows columns)
          ∙ ap (λ (k : ℕ). k * columns) (sym (add-zero (4 * rows)))
          ∙ sym (add-zero ((4 * rows + 0) * columns))

  pub not-leaving : {bank : ℕ} → bank ≡ first_in_row s 1 0 → size ≤ most_window → leb (first + size) (4 * bank) ≡ window_fits s first size
  not-leaving e l =
      ap (leb (first + size)) (ap (λ (k : ℕ). 4 * k) e ∙ four-banks)
      ∙ sym (ap (λ (v : Bool). v && leb (first + size) (cell_number s 4 0 0)) (le-leb size most_window l))

module _ (first size cell : ℕ) where
  pub before : cell < first → false ≡ in_window first size cell
  before l = sym (rw (lt-leb first cell l))

  pub behind : first ≤ cell → ltb (cell - first) size ≡ in_window first size cell
  behind l = go (ltb (cell - first) size) refl
    where
      go : (v : Bool) → ltb (cell - first) size ≡ v → ltb (cell - first) size ≡ in_window first size cell
      go true e = e ∙ sym (rw (le-leb first cell l, lt-ltb cell (first + size) (omega (arith, ltb-true (cell - first) size e))))
      go false e = e ∙ sym (rw (le-leb first cell l, le-ltb cell (first + size) (omega (arith, ltb-false (cell - first) size e, l))))

-- ---- what holds of every beat's cell

module _ (f : ℕ → Bool) (cell : ℕ → ℕ) where
  each_from : (from total : ℕ) → every f (map cell (count from total)) ≡ true → (j : ℕ) → j < total → f (cell (from + j)) ≡ true
  each_from from zero h j l = absurd (omega (arith, l))
  each_from from (suc total) h zero l = ap (λ (k : ℕ). f (cell k)) (add-zero from) ∙ (both (f (cell from)) (every f (map cell (count (suc from) total))) h).0
  each_from from (suc total) h (suc j) l =
      ap (λ (k : ℕ). f (cell k)) (omega arith)
      ∙ each_from (suc from) total (both (f (cell from)) (every f (map cell (count (suc from) total))) h).1 j (omega (arith, l))

  pub each-beat : (total : ℕ) → every f (map cell (count 0 total)) ≡ true → (j : ℕ) → j < total → f (cell j) ≡ true
  each-beat total h j l = ap (λ (k : ℕ). f (cell k)) (sym (zero-add j)) ∙ each_from 0 total h j l

  module _ (total : ℕ) where
    abbrev whole : Bool
    whole = every f (map cell (count 0 total))

    -- those from j on decide
    pub record Held (j : ℕ) : Type 0 where
      pub within : j ≤ total
      pub same : every f (map cell (count j (total - j))) ≡ whole

    pub begins : Held 0
    begins = record { within = omega arith; same = ap (λ (k : ℕ). every f (map cell (count 0 k))) (sub-zero total) }

    module _ {j : ℕ} (b : Held j) where
      next : j < total → (f (cell j) && every f (map cell (count (j + 1) (total - (j + 1))))) ≡ whole
      next l =
          ap (λ (k : ℕ). f (cell j) && every f (map cell (count k (total - (j + 1))))) (add-one j)
          ∙ ap (λ (k : ℕ). every f (map cell (count j k))) (sym (one_less total j l))
          ∙ b.same

      pub goes_on : j < total → f (cell j) ≡ true → Held (j + 1)
      goes_on l e =
          record {
            within = omega arith;
            same = ap (λ (v : Bool). v && every f (map cell (count (j + 1) (total - (j + 1))))) (sym e) ∙ next l;
          }

      pub stops : j < total → f (cell j) ≡ false → false ≡ whole
      stops l e = ap (λ (v : Bool). v && every f (map cell (count (j + 1) (total - (j + 1))))) (sym e) ∙ next l

      pub ends : total ≤ j → true ≡ whole
      ends l = ap (λ (k : ℕ). every f (map cell (count j k))) (sym (none_left total j l)) ∙ b.same

-- a beat's cell in the window, by its place there
pub in_window_lem : (first size : ℕ) (cell : ℕ → ℕ) (total : ℕ) → every (in_window first size) (map cell (count 0 total)) ≡ true → (j : ℕ) → j < total → {r : ℕ} →
    r ≡ cell j → (first ≤ r) × (r - first < size)
in_window_lem first size cell total h j l {r} e =
    let two = inside first size (cell j) (each-beat (in_window first size) cell total h j l) in
    (omega (arith, e, two.0), omega (arith, e, two.0, two.1))

-- ---- words stored, beat by beat

module _ (lanes first : ℕ) (cell : ℕ → ℕ) (word : ℕ → Datum) (total : ℕ) (window₀ : List ℕ) where
  pub record Storing (window : List ℕ) (j : ℕ) : Type 0 where
    pub within : j ≤ total
    pub size : length window ≡ length window₀
    pub same : stored_from lanes first cell word (total - j) j window ≡ stored_from lanes first cell word total 0 window₀

  pub stores-none : Storing window₀ 0
  stores-none = record { within = omega arith; size = refl; same = ap (λ (k : ℕ). stored_from lanes first cell word k 0 window₀) (sub-zero total) }

  module _ {window : List ℕ} {j : ℕ} (b : Storing window j) where
    pub stores-on : j < total → {at v : ℕ} → at ≡ cell j - first → v ≡ merged lanes (word j) (get_or window at 0) → Storing (set window at v) (j + 1)
    unfolding stored_from
    stores-on l {at} {v} e f =
        record {
          within = omega arith;
          size = length-set window at v ∙ b.size;
          same =
              (λ u. stored_from lanes first cell word (total - (j + 1)) (add-one j u) (set window (e u) (value u)))
              ∙ ap (λ (k : ℕ). stored_from lanes first cell word k j window) (sym (one_less total j l))
              ∙ b.same;
        }
      where
        value : v ≡ merged lanes (word j) (get_or window (cell j - first) 0)
        value = f ∙ ap (λ (k : ℕ). merged lanes (word j) (get_or window k 0)) e

    pub stores-all : total ≤ j → window ≡ stored_from lanes first cell word total 0 window₀
    unfolding stored_from
    stores-all l = ap (λ (k : ℕ). stored_from lanes first cell word k j window) (sym (none_left total j l)) ∙ b.same
