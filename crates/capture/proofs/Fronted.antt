-- Header and settings, stored one behind the other.
use Prim.Native.Nat.{ℕ}
use mathlib.Core.List.{List, [], ◌∷◌, ◌++◌}
use mathlib.Core.Path.{◌≡◌, refl, sym, ap, ◌∙◌}
use lib.ListN.{length}
use lib.Seq.{sets}
use Rattle.reading.specs.Words.{bytes_of}
use Rattle.reading.specs.Settings.{settings_count}
use Rattle.reading.specs.Capture.{settings_start, events_start, capture_size}
use Rattle.reading.specs.Schedule.{header_of}
use Rattle.words.proofs.Words.{sets-words}

module _ (settings : List ℕ) (edition n : ℕ) (out : List ℕ) (fourteen : length settings ≡ settings_count) {total : ℕ} (is-total : total ≡ capture_size settings_count n)
    {o₁ o₂ : List ℕ} (a : o₁ ≡ sets out 0 (bytes_of (total ∷ settings_count ∷ settings_start ∷ n ∷ events_start settings_count ∷ edition ∷ [])))
    (b : o₂ ≡ sets o₁ settings_start (bytes_of settings)) where
  pub fronted : o₂ ≡ sets out 0 (bytes_of (header_of edition (length settings) n ++ settings))
  fronted =
      b ∙ ap (λ (o : List ℕ). sets o settings_start (bytes_of settings)) a
      ∙ ap (λ (t : ℕ). sets (sets out 0 (bytes_of (t ∷ settings_count ∷ settings_start ∷ n ∷ events_start settings_count ∷ edition ∷ []))) settings_start (bytes_of settings)) is-total
      ∙ sets-words out 0 settings_start (header_of edition settings_count n) settings refl
      ∙ ap (λ (k : ℕ). sets out 0 (bytes_of (header_of edition k n ++ settings))) (sym fourteen)
