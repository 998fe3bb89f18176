-- The search behind an event.
use Rattle.std.specs.Prelude.{ℕ, Bool, cond, ◌||◌, List, [], ◌∷◌, ltb}
use Rattle.std.specs.Prelude.{Some, None}
use Rattle.std.specs.Prelude as std
use Rattle.std.proofs.Math.Option.{Option, none, some}
use Rattle.reading.specs.Capture.{Event}
use Rattle.beats.specs.Kept.{shuts_bank, takes_bank}

-- what is found, by its cycle and its pins
abbrev pub found : std.Option (ℕ × ℕ) → Option Event
found None = none
found (Some x) = some (record { cycle = x.0; pins = x.1 })

-- of some events the first before cycle `end` that a test names by its pins
unfoldable pub first_ahead : ℕ → (ℕ → Bool) → List Event → Option Event
first_ahead end f [] = none
first_ahead end f (e ∷ es) = cond (ltb e.cycle end) (cond (f e.pins) (some e) (first_ahead end f es)) none

-- the pins shut the bank, or take it
abbrev pub ends_row : ℕ → ℕ → Bool
ends_row bank w = shuts_bank bank w || takes_bank bank w
