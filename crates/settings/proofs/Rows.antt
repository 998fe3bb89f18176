-- A row of the table, a test at a time.
use Prim.Native.Nat.{ℕ, ◌+◌, ◌≤◌, ◌<◌}
use mathlib.Core.Option.{Option, none, some}
use mathlib.Core.Bool.{Bool, true, false, not, ◌||◌}
use mathlib.Core.List.{List, map}
use mathlib.Core.Path.{◌≡◌, refl, sym, ap, subst, ◌∙◌}
use native.Mathlib.Omega.{arith}
use borrow.Author.Tests.{le-leb, lt-leb, lt-ltb, le-ltb, eq-eqb, ne_eqb, eqb-false}
use lib.ListN.{length, get_or, get_or-map}
use lib.Dec.{eqb}
use Rattle.reading.specs.Search.{or_else, given}
use Rattle.reading.specs.Mode.{mode_word}
use Rattle.reading.specs.Settings as reading
use Rattle.reading.specs.Settings.{settings_of, setting_fits, out_of_range, contradiction, bad_setting}
use Rattle.words.specs.Found.{place_of}
use Rattle.std.specs.Prelude.{Some, None}
use Rattle.std.specs.Prelude as std
use Rattle.words.proofs.Search as search
use Rattle.words.proofs.Search.{found_from}
use Rattle.reading.specs.Answers.{refused, answered}
use Rattle.settings.specs.Meaning.{checked, bad_among}
use Rattle.settings.proofs.Fitting.{row_at, at_most, in-range}
use Rattle.settings.specs.declared.Limits.{Limits}

-- ---- the code's table is the reading's

abbrev row_of : reading.Limits → Limits
row_of r = (r.least, r.most)

abbrev no_row : reading.Limits
no_row = record { least = 0; most = 0 }

abbrev pub row : ℕ → Limits
row i = get_or (map row_of reading.limits) i (row_of no_row)

same_row : (i : ℕ) → row i ≡ row_of (get_or reading.limits i no_row)
same_row i = get_or-map row_of reading.limits i no_row

module _ (i w : ℕ) where
  same-least : (row i).0 ≡ (get_or reading.limits i no_row).least
  same-least = ap (λ (r : Limits). r.0) (same_row i)

  same-most : (row i).1 ≡ (get_or reading.limits i no_row).most
  same-most = ap (λ (r : Limits). r.1) (same_row i)

  pub too_small : w < (row i).0 → setting_fits i w ≡ false
  unfolding setting_fits
  too_small h = rw (lt-leb _ w (subst (λ (n : ℕ). w < n) same-least h))

  pub too_large : (row i).0 ≤ w → (row i).1 < w → setting_fits i w ≡ false
  unfolding setting_fits
  too_large l h =
      rw (le-leb _ w (subst (λ (n : ℕ). n ≤ w) same-least l), lt-leb w _ (subst (λ (n : ℕ). n < w) same-most h))

  pub mode-row : (row i).0 ≤ w → w ≤ (row i).1 → i ≡ 3 → setting_fits i w ≡ mode_word w
  unfolding setting_fits
  mode-row l h e =
      rw (le-leb _ w (subst (λ (n : ℕ). n ≤ w) same-least l), le-leb w _ (subst (λ (n : ℕ). w ≤ n) same-most h), eq-eqb i 3 e)

  pub other_row : (row i).0 ≤ w → w ≤ (row i).1 → (i ≡ 3 → ⊥) → setting_fits i w ≡ true
  unfolding setting_fits
  other_row l h e =
      rw (le-leb _ w (subst (λ (n : ℕ). n ≤ w) same-least l), le-leb w _ (subst (λ (n : ℕ). w ≤ n) same-most h), ne_eqb i 3 e)

-- ---- the walk over the rows: what is found from setting i on is what is found at all

abbrev bad : List ℕ → ℕ → Bool
bad ws i = not (setting_fits i (get_or ws i 0))

pub record Sought (ws : List ℕ) (n i : ℕ) : Type 0 where
  pub within : i ≤ n
  pub same : found_from (bad ws) n i ≡ out_of_range ws n

pub begins : (ws : List ℕ) (n : ℕ) → Sought ws n 0
begins ws n = record { within = omega arith; same = search.begins (bad ws) n }

abbrev or_contradiction : List ℕ → Option ℕ → Option ℕ
or_contradiction ws o = or_else o (contradiction (settings_of ws))

module _ {ws : List ℕ} {n i : ℕ} (s : Sought ws n i) where
  pub goes_on : i < n → setting_fits i (get_or ws i 0) ≡ true → Sought ws n (i + 1)
  goes_on l e = record { within = omega arith; same = sym (search.goes_on (bad ws) n i l (ap not e)) ∙ s.same }

  pub stops : i < n → setting_fits i (get_or ws i 0) ≡ false → some i ≡ bad_among ws n
  stops l e = ap (or_contradiction ws) (sym (search.stops (bad ws) n i l (ap not e)) ∙ s.same)

  -- all rows are passed
  module _ (l : n ≤ i) where
    all-in-range : none ≡ out_of_range ws n
    all-in-range = sym (search.ends (bad ws) n i l) ∙ s.same

    pub row-most : (j : ℕ) → j < n → get_or ws j 0 ≤ (row_at j).most
    row-most j k = at_most j (get_or ws j 0) (in-range ws n (sym all-in-range) j k)

    pub contradicts : get_or ws 6 0 + get_or ws 5 0 < get_or ws 7 0 → some 7 ≡ bad_among ws n
    contradicts h = sym (ap (given 7) (lt-ltb _ _ h)) ∙ ap (or_contradiction ws) all-in-range

    pub agrees : get_or ws 7 0 ≤ get_or ws 6 0 + get_or ws 5 0 → none ≡ bad_among ws n
    agrees h = sym (ap (given 7) (le-ltb _ _ h)) ∙ ap (or_contradiction ws) all-in-range

-- ---- what a list of settings is answered

module _ (ws : List ℕ) where
  pub wrong-count : (length ws ≡ 14 → ⊥) → checked ws ≡ refused 2 0
  unfolding checked
  wrong-count h = rw (ne_eqb (length ws) 14 h)

  module _ (h : length ws ≡ 14) (r : std.Option ℕ) where
    pub all_fit : r ≡ None → place_of r ≡ bad_among ws 14 → checked ws ≡ answered tt
    unfolding checked bad_setting
    all_fit e p = rw (h, sym p, e)

    pub one-unfit : {i : ℕ} → r ≡ Some i → place_of r ≡ bad_among ws 14 → checked ws ≡ refused 3 i
    unfolding checked bad_setting
    one-unfit e p = rw (h, sym p, e)
