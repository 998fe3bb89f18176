-- The settings as an array, filled from the front, element by element.
use Prim.Native.Nat.{ℕ, ◌+◌, ◌-◌, ◌≤◌, ◌<◌}
use mathlib.Core.List.{List, ◌++◌}
use mathlib.Core.Path.{◌≡◌, refl, sym, ap, ◌∙◌}
use native.Mathlib.Numerals.{add-one}
use native.Mathlib.Omega.{arith}
use lib.ListN.{length, set, get_or, drop, replicate, length-set}
use lib.Seq.{sets, drop-cons}
use Rattle.reading.specs.Settings.{settings_count}
use Rattle.words.proofs.Runs.{none-behind, front}
use Rattle.settings.specs.Meaning.{held_count, padded}

pub record Loading (settings s : List ℕ) (i : ℕ) : Type 0 where
  pub within : i ≤ settings_count
  pub full : length s ≡ held_count
  pub same : sets s i (drop i settings) ≡ padded settings

pub begins : (settings : List ℕ) → length settings ≡ settings_count → Loading settings (replicate held_count 0) 0
unfolding padded
begins settings h =
    let zeros : List ℕ = replicate held_count 0 in
    record {
      within = omega arith;
      full = refl;
      same =
          front settings zeros (omega arith)
          ∙ ap (λ (k : ℕ). settings ++ drop k zeros) h
          ∙ sym (ap (λ (k : ℕ). settings ++ replicate (held_count - k) 0) h);
    }

module _ {settings s : List ℕ} {i : ℕ} (h : length settings ≡ settings_count) (x : Loading settings s i) where
  pub goes_on : i < settings_count → Loading settings (set s i (get_or settings i 0)) (i + 1)
  goes_on l =
      record {
        within = omega arith;
        full = length-set s i (get_or settings i 0) ∙ x.full;
        same = rw (add-one i) (sym (ap (sets s i) (drop-cons settings i 0 (omega arith))) ∙ x.same);
      }

  pub ends : settings_count ≤ i → s ≡ padded settings
  ends l = sym (ap (sets s i) (none-behind settings i (omega arith))) ∙ x.same
