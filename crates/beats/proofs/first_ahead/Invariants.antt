-- The invariant: what is found from event j on is what is found at all (Searching).
use Prim.Native.Nat.{ℕ}
use mathlib.Core.Bool.{Bool}
use mathlib.Core.Path.{◌≡◌}
use Rattle.beats.proofs.Searching.{Sought}
use Rattle.beats.proofs.first_ahead.Given as goal

abbrev pub invariant-later : goal.invariant-later
invariant-later g l =
    (f : ℕ → Bool) → ((w : ℕ) (r : Bool) → goal.F-post g l.fn.test w r → r ≡ f w) → Sought f l.end l.events.bytes.now l.events.count l.i l.j
