-- Events in order: cycles that rise, and pin words that are below a limit.
use Prim.Native.Nat.{ℕ, zero, suc, ◌+◌, ◌≤◌, ◌<◌}
use mathlib.Core.Bool.{true}
use mathlib.Core.List.{List, [], ◌∷◌, ◌++◌, map}
use mathlib.Core.Path.{◌≡◌}
use native.Mathlib.Omega.{arith}
use lib.ListN.{length}
use Rattle.reading.specs.Search.{count}
use Rattle.reading.specs.Capture.{Event, event_at, cycle_fits}
use Rattle.reading.specs.Schedule.{free_from}
use Rattle.reading.proofs.Meaning.{event_of}
use Rattle.capture.proofs.Accepted.{cycles-rise}

-- cycles rise, none before `from`
abbrev pub Rises : ℕ → List Event → Type 0
Rises from [] = Unit {0}
Rises from (e ∷ es) = (from ≤ e.cycle) × Rises (suc e.cycle) es

abbrev pub Low : ℕ → List Event → Type 0
Low limit [] = Unit {0}
Low limit (e ∷ es) = (e.pins < limit) × Low limit es

-- ---- one event more

pub rises-more : (from : ℕ) (es : List Event) (e : Event) → Rises from es → free_from from es ≤ e.cycle → Rises from (es ++ (e ∷ []))
unfolding free_from
rises-more from [] e r l = (l, tt)
rises-more from (x ∷ es) e r l = (r.0, rises-more (suc x.cycle) es e r.1 l)

pub low-more : (limit : ℕ) (es : List Event) (e : Event) → Low limit es → e.pins < limit → Low limit (es ++ (e ∷ []))
low-more limit [] e r l = (l, tt)
low-more limit (x ∷ es) e r l = (r.0, low-more limit es e r.1 l)

-- ---- event by event

pub low-at : (limit : ℕ) (es : List Event) → Low limit es → (i : ℕ) → i < length es → (event_of es i).pins < limit
low-at limit [] r i l = absurd (omega arith)
low-at limit (e ∷ es) r zero l = r.0
low-at limit (e ∷ es) r (suc i) l = low-at limit es r.1 i (omega arith)

above : (from : ℕ) (es : List Event) → Rises from es → from ≤ free_from from es
unfolding free_from
above from [] r = omega arith
above from (e ∷ es) r = omega (arith, r.0, above (suc e.cycle) es r.1)

pub from_on : (from : ℕ) (es : List Event) → Rises from es → (i : ℕ) → i < length es → from ≤ (event_of es i).cycle
from_on from [] r i l = absurd (omega arith)
from_on from (e ∷ es) r zero l = r.0
from_on from (e ∷ es) r (suc i) l = omega (arith, r.0, from_on (suc e.cycle) es r.1 i (omega arith))

pub before-free : (from : ℕ) (es : List Event) → Rises from es → (i : ℕ) → i < length es → (event_of es i).cycle < free_from from es
unfolding free_from
before-free from [] r i l = absurd (omega arith)
before-free from (e ∷ es) r zero l = above (suc e.cycle) es r.1
before-free from (e ∷ es) r (suc i) l = before-free (suc e.cycle) es r.1 i (omega arith)

pub rises-at : (from : ℕ) (es : List Event) → Rises from es → (i : ℕ) → suc i < length es → (event_of es i).cycle < (event_of es (suc i)).cycle
rises-at from [] r i l = absurd (omega arith)
rises-at from (e ∷ es) r zero l = from_on (suc e.cycle) es r.1 0 (omega arith)
rises-at from (e ∷ es) r (suc i) l = rises-at (suc e.cycle) es r.1 i (omega arith)

-- ---- events in bytes

pub rising : (bytes : List ℕ) (n : ℕ) → ((i : ℕ) → i < n → cycle_fits bytes i ≡ true) → (left i from : ℕ) → i + left ≤ n →
    (i < n → from ≤ (event_at bytes i).cycle) → Rises from (map (event_at bytes) (count i left))
rising bytes n f zero i from l above = tt
rising bytes n f (suc left) i from l above = (
  above (omega arith),
  rising bytes n f left (suc i) (suc (event_at bytes i).cycle) (omega arith) (λ m. omega (arith, cycles-rise bytes n f i (suc i) (omega arith) m)),
)
