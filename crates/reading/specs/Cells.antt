-- The bursts of a capture: the cells that they touch, and how many beats they keep.
use Rattle.std.specs.Prelude.{ℕ, ◌+◌, ◌*◌, Bool, true, cond, List, [], ◌∷◌, ◌++◌, reverse}
use Rattle.reading.specs.Settings.{Settings}
use Rattle.reading.specs.Capture.{Event}
use Rattle.reading.specs.Bursts.{Burst, burst_cells}
use Rattle.reading.specs.Part.{start, run}

-- all bursts in event order, with the pairs that they keep in the end
unfoldable pub bursts_of : Settings → List Event → List Burst
bursts_of s es = reverse (run s (start s) es).bursts

unfoldable pub cells_of : Settings → List Burst → List ℕ
cells_of s [] = []
cells_of s (x ∷ xs) = burst_cells s x ++ cells_of s xs

-- the kept beats of the bursts of a kind, two a pair; and those of all
abbrev pub beats_by : (Burst → Bool) → List Burst → ℕ
beats_by kind [] = 0
beats_by kind (x ∷ xs) = cond (kind x) (2 * x.n) 0 + beats_by kind xs

abbrev pub beats_of : List Burst → ℕ
beats_of xs = beats_by (λ x. true) xs
