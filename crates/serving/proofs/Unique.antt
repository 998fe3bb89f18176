-- A contract that settles a turn's draft, and what was set aside, settles all that is lent for it; and `means` tells any two
-- answers apart.
use Prim.Native.Nat.{ℕ}
use mathlib.Core.List.{List}
use mathlib.Core.Path.{◌≡◌, refl}
use native.Mathlib.Omega.{arith}
use Rattle.std.specs.Prelude.{Result, Ok, Err}
use Rattle.soonest.specs.declared.State.{State}
use Rattle.drafts.specs.Room.{draft}
use Rattle.drafts.proofs.Unique.{one-draft}
use Rattle.serving.specs.Means.{means}
use Rattle.serving.specs.declared.Late.{Late}

pub one_answer : (r q : Result (Unit {0}) Late) → means r ≡ means q → r ≡ q
one_answer (Ok x) (Ok y) h = refl
one_answer (Ok x) (Err y) h = let z : ◌≡◌ {A = ℕ} 0 1 = cc in absurd (omega arith)
one_answer (Err x) (Ok y) h = let z : ◌≡◌ {A = ℕ} 0 1 = cc in absurd (omega arith)
one_answer (Err x) (Err y) h = refl

pub one-turn : {x y : State} {w v : List ℕ} {Aside : Type 0} → draft x w ≡ draft y v → Aside → (x ≡ y) × ((w ≡ v) × Aside)
one-turn e aside = let sent = one-draft e in (sent.0, (sent.1, aside))
