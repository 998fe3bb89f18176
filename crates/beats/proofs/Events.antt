-- Of n events those from event i on; their cycles rise.
use Prim.Native.Nat.{ℕ, suc, ◌+◌, ◌-◌, ◌≤◌, ◌<◌, zero-le}
use mathlib.Core.List.{List, [], ◌∷◌}
use mathlib.Core.Path.{◌≡◌}
use native.Mathlib.Numerals.{add-one}
use native.Mathlib.Omega.{arith}
use mathlib.Core.Bool.{true}
use Rattle.reading.specs.Capture.{event_at, cycle_fits}
use Rattle.words.proofs.Search.{one_less, none_left}
use Rattle.capture.proofs.Accepted.{cycles-rise}
use Rattle.capture.proofs.Rising.{Rises, rising}
use Rattle.beats.specs.Kept.{events_from}

module _ (bytes : List ℕ) (n i : ℕ) where
  pub next-event : i < n → events_from bytes n i ≡ event_at bytes i ∷ events_from bytes n (i + 1)
  next-event l = rw (one_less n i l, add-one i)

  pub no-event : n ≤ i → events_from bytes n i ≡ []
  no-event l = rw (none_left n i l)

-- the cycles of n events rise, and are not too large
abbrev pub Fit : List ℕ → ℕ → Type 0
Fit bytes n = (i : ℕ) → i < n → cycle_fits bytes i ≡ true

module _ (bytes : List ℕ) (n : ℕ) (z : Fit bytes n) where
  pub events-rise : Rises 0 (events_from bytes n 0)
  events-rise = rising bytes n z (n - 0) 0 0 (omega arith) (λ l. zero-le)

  pub rise-behind : (i : ℕ) → i < n → Rises (suc (event_at bytes i).cycle) (events_from bytes n (i + 1))
  rise-behind i l =
      rising bytes n z (n - (i + 1)) (i + 1) (suc (event_at bytes i).cycle) (omega arith)
      (λ m. omega (arith, cycles-rise bytes n z i (i + 1) (omega arith) m))
