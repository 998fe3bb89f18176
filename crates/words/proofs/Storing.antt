-- Words of a list stored in a row, one after another.
use Prim.Native.Nat.{ℕ, ◌+◌, ◌*◌, ◌≤◌, ◌<◌}
use mathlib.Core.List.{List, [], ◌∷◌, ◌++◌}
use mathlib.Core.Path.{◌≡◌, refl, sym, ap, ◌∙◌}
use native.Mathlib.Numerals.{add-one}
use native.Mathlib.Omega.{arith}
use lib.ListN.{length, get_or, take, length-take}
use lib.Seq.{sets, take-suc, take_all}
use Rattle.reading.specs.Words.{word_bytes, bytes_of}
use Rattle.words.proofs.Words.{sets-words}

-- the first i words stand
pub record Storing (out₀ : List ℕ) (at : ℕ) (list out : List ℕ) (i : ℕ) : Type 0 where
  pub within : i ≤ length list
  pub same : out ≡ sets out₀ at (bytes_of (take i list))

pub stores-none : (out : List ℕ) (at : ℕ) (list : List ℕ) → Storing out at list out 0
unfolding bytes_of
stores-none out at list = record { within = omega arith; same = refl }

module _ {out₀ list out : List ℕ} {at i : ℕ} (x : Storing out₀ at list out i) where
  pub stores-on : i < length list → {next : List ℕ} → next ≡ sets out (at + 4 * i) (word_bytes (get_or list i 0)) → Storing out₀ at list next (i + 1)
  unfolding bytes_of word_bytes
  stores-on l {next} e =
      let k : length (take i list) ≡ i = simp length-take (omega arith) in
      let m : take i list ++ (get_or list i 0 ∷ []) ≡ take (i + 1) list = sym (rw (add-one i) (take-suc list i 0 (omega arith))) in
      record {
        within = omega arith;
        same =
            e ∙ ap (λ (o : List ℕ). sets o (at + 4 * i) (word_bytes (get_or list i 0))) x.same
            ∙ sets-words out₀ at (at + 4 * i) (take i list) (get_or list i 0 ∷ []) (omega arith)
            ∙ ap (λ (v : List ℕ). sets out₀ at (bytes_of v)) m;
      }

  pub stores-all : length list ≤ i → out ≡ sets out₀ at (bytes_of list)
  stores-all l = x.same ∙ ap (λ (v : List ℕ). sets out₀ at (bytes_of v)) (take_all i list l)
