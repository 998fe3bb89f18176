-- What it means that settings fit.
use Prim.Native.Nat.{ℕ, ◌≤◌, ◌<◌}
use mathlib.Core.Bool.{Bool, true, false, not, ◌&&◌, and-eq-true_iff}
use mathlib.Core.List.{List}
use mathlib.Core.Option.{Option, none, some}
use mathlib.Core.Path.{◌≡◌, refl}
use native.Mathlib.Omega.{arith}
use borrow.Author.Tests.{eqb-true, leb-true, not-false}
use lib.ListN.{length, get_or}
use lib.Dec.{leb, eqb}
use Rattle.reading.specs.Search.{implies, or_else, given}
use Rattle.reading.specs.Mode.{mode_word}
use Rattle.reading.specs.Settings.{Limits, limits, settings_of, setting_fits, out_of_range, contradiction, bad_setting}
use Rattle.reading.specs.Answers.{answered, unless}
use Rattle.words.proofs.Search.{none_below}
use Rattle.settings.specs.Meaning.{checked}

-- ---- a setting that fits

abbrev pub row_at : ℕ → Limits
row_at i = get_or limits i (record { least = 0; most = 0 })

module _ (i w : ℕ) (h : setting_fits i w ≡ true) where
  parts : ((leb (row_at i).least w && leb w (row_at i).most) ≡ true) × (implies (eqb i 3) (mode_word w) ≡ true)
  unfolding setting_fits
  parts = (and-eq-true_iff _ _).0 h

  range : (leb (row_at i).least w ≡ true) × (leb w (row_at i).most ≡ true)
  range = (and-eq-true_iff _ _).0 parts.0

  pub at_least : (row_at i).least ≤ w
  at_least = leb-true _ _ range.0

  pub at_most : w ≤ (row_at i).most
  at_most = leb-true _ _ range.1

pub mode-valid : (w : ℕ) → setting_fits 3 w ≡ true → mode_word w ≡ true
mode-valid w h = (parts 3 w h).1

-- ---- a list of settings that is not refused

pub in-range : (ws : List ℕ) (n : ℕ) → out_of_range ws n ≡ none → (i : ℕ) → i < n → setting_fits i (get_or ws i 0) ≡ true
in-range ws n good i l = not-false _ (none_below (λ j. not (setting_fits j (get_or ws j 0))) n good i l)

none_first : (o p : Option ℕ) → or_else o p ≡ none → o ≡ none
none_first none p h = refl
none_first (some i) p h = h

pub each-in-range : (ws : List ℕ) → bad_setting ws ≡ none → out_of_range ws (length ws) ≡ none
unfolding bad_setting
each-in-range ws good = none_first (out_of_range ws (length ws)) (contradiction (settings_of ws)) good

pub record Fitting (ws : List ℕ) : Type 0 where
  pub count : length ws ≡ 14
  pub fits : (i : ℕ) → i < 14 → setting_fits i (get_or ws i 0) ≡ true

nothing-wrong : (b : Bool) (o : Option ℕ) → unless 2 (given 0 b) (unless 3 o (answered (tt {0}))) ≡ answered tt → (b ≡ false) × (o ≡ none)
nothing-wrong false none h = (refl, refl)
nothing-wrong false (some p) h = let z : ◌≡◌ {A = ℕ} 0 1 = cc in absurd (omega arith)
nothing-wrong true o h = let z : ◌≡◌ {A = ℕ} 0 1 = cc in absurd (omega arith)

pub fitting : (ws : List ℕ) → checked ws ≡ answered tt → Fitting ws
unfolding checked
fitting ws h =
    let clear = nothing-wrong (not (eqb (length ws) 14)) (bad_setting ws) h in
    let fourteen : length ws ≡ 14 = eqb-true (length ws) 14 (not-false (eqb (length ws) 14) clear.0) in
    record {
      count = fourteen;
      fits = λ i l. in-range ws (length ws) (each-in-range ws clear.1) i (omega (arith, fourteen));
    }
