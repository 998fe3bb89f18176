-- Events as the words of a capture: two words each, the cycle and the pins.
use Prim.Native.Nat.{ℕ, zero, suc, ◌+◌, ◌*◌}
use mathlib.Core.List.{List, [], ◌∷◌, ◌++◌}
use mathlib.Core.Path.{◌≡◌, refl, ap}
use native.Mathlib.Omega.{arith}
use lib.ListN.{length, get_or}
use Rattle.reading.specs.Capture.{Event}
use Rattle.reading.specs.Schedule.{event_words}
use Rattle.reading.proofs.Meaning.{event_of}

pub words-length : (es : List Event) → length (event_words es) ≡ 2 * length es
unfolding event_words
words-length [] = refl
words-length (e ∷ es) = omega (arith, words-length es)

pub words_append : (es fs : List Event) → event_words (es ++ fs) ≡ event_words es ++ event_words fs
unfolding event_words
words_append [] fs = refl
words_append (e ∷ es) fs = ap (λ (l : List ℕ). e.cycle ∷ e.pins ∷ l) (words_append es fs)

pub cycle-word : (es : List Event) (i : ℕ) → get_or (event_words es) (2 * i) 0 ≡ (event_of es i).cycle
unfolding event_words
cycle-word [] i = refl
cycle-word (e ∷ es) zero = refl
cycle-word (e ∷ es) (suc i) = let k : 2 * suc i ≡ suc (suc (2 * i)) = omega arith in rw k (cycle-word es i)

pub pins-word : (es : List Event) (i : ℕ) → get_or (event_words es) (2 * i + 1) 0 ≡ (event_of es i).pins
unfolding event_words
pins-word [] i = refl
pins-word (e ∷ es) zero = refl
pins-word (e ∷ es) (suc i) = let k : 2 * suc i + 1 ≡ suc (suc (2 * i + 1)) = omega arith in rw k (pins-word es i)
