-- How many beats bursts keep: one list behind another, reads and writes together, and as cells.
use Prim.Native.Nat.{◌+◌, ◌*◌}
use mathlib.Core.Bool.{Bool, true, false, cond, not}
use mathlib.Core.List.{List, [], ◌∷◌, ◌++◌}
use mathlib.Core.Path.{◌≡◌, refl, ◌∙◌}
use native.Mathlib.Omega.{arith}
use lib.ListN.{length, length-append, length-map}
use Rattle.reading.specs.Search.{count}
use Rattle.reading.specs.Settings.{Settings}
use Rattle.reading.specs.Bursts.{Burst, reads, beat_cell, burst_cells}
use Rattle.reading.specs.Cells.{cells_of, beats_by, beats_of}
use Rattle.capture.proofs.Accepted.{length-count}

pub beats-append : (kind : Burst → Bool) (xs ys : List Burst) → beats_by kind (xs ++ ys) ≡ beats_by kind xs + beats_by kind ys
beats-append kind [] ys = omega arith
beats-append kind (x ∷ xs) ys = omega (arith, beats-append kind xs ys)

-- those read and those written are all
pub beats-together : (xs : List Burst) → beats_by reads xs + beats_by (λ x. x.writes) xs ≡ beats_of xs
beats-together [] = refl
beats-together (x ∷ xs) = go x.writes (beats-together xs)
  where
    go : (w : Bool) → beats_by reads xs + beats_by (λ y. y.writes) xs ≡ beats_of xs →
        cond (not w) (2 * x.n) 0 + beats_by reads xs + (cond w (2 * x.n) 0 + beats_by (λ y. y.writes) xs) ≡ 2 * x.n + beats_of xs
    go true e = omega arith
    go false e = omega arith

-- each is a cell
module _ (s : Settings) where
  pub burst-length : (x : Burst) → length (burst_cells s x) ≡ 2 * x.n
  unfolding burst_cells
  burst-length x = length-map (count 0 (2 * x.n)) (beat_cell s x) ∙ length-count 0 (2 * x.n)

  pub cells-length : (xs : List Burst) → length (cells_of s xs) ≡ beats_of xs
  unfolding cells_of
  cells-length [] = refl
  cells-length (x ∷ xs) = length-append (burst_cells s x) (cells_of s xs) ∙ (λ i. burst-length x i + cells-length xs i)
