-- Laws that know of no rule: truth values, the lesser and the later of two, and what is asked of the four banks in turn.
use Prim.Native.Nat.{ℕ, zero, suc, ◌+◌, ◌≤◌, ◌<◌}
use mathlib.Core.Bool.{Bool, true, false, cond, ◌&&◌, and-false, and-eq-true_iff}
use mathlib.Core.Option.{none}
use mathlib.Core.Path.{◌≡◌, refl}
use native.Mathlib.Omega.{arith}
use lib.Dec.{leb}
use borrow.Author.Count.{below_more}
use borrow.Author.Tests.{leb-true, leb-false, le-leb}
use Rattle.reading.specs.Search.{given, lesser, later}
use Rattle.reading.specs.Rules.{every_bank}

-- ---- truth values

pub both : (a b : Bool) → (a && b) ≡ true → (a ≡ true) × (b ≡ true)
both a b e = (and-eq-true_iff a b).0 e

-- a choice between two that are the same
pub either_way : {A : Type 0} (w : Bool) (x : A) → cond w x x ≡ x
either_way true x = refl
either_way false x = refl

pub not-given : (place : ℕ) (b : Bool) → given place b ≡ none → b ≡ false
not-given place true e = let z : ◌≡◌ {A = ℕ} 0 1 = cc in absurd (omega arith)
not-given place false e = refl

-- ---- the lesser and the later of two

pub lesser-low : (a b : ℕ) → a ≤ b → lesser a b ≡ a
lesser-low a b l = rw (le-leb a b l)

pub lesser-high : (a b : ℕ) → b ≤ a → lesser a b ≡ b
lesser-high a b l = go (leb a b) refl
  where
    go : (v : Bool) → leb a b ≡ v → cond v a b ≡ b
    go true e = omega (arith, leb-true a b e)
    go false e = refl

pub later-low : (a b : ℕ) → a ≤ b → later a b ≡ b
later-low a b l = rw (le-leb a b l)

pub later-high : (a b : ℕ) → b ≤ a → later a b ≡ a
later-high a b l = go (leb a b) refl
  where
    go : (v : Bool) → leb a b ≡ v → cond v b a ≡ a
    go true e = omega (arith, leb-true a b e)
    go false e = refl

pub lesser-first : (a b : ℕ) → lesser a b ≤ a
lesser-first a b = go (leb a b) refl
  where
    go : (v : Bool) → leb a b ≡ v → cond v a b ≤ a
    go true e = omega arith
    go false e = omega (arith, leb-false a b e)

pub lesser-second : (a b : ℕ) → lesser a b ≤ b
lesser-second a b = go (leb a b) refl
  where
    go : (v : Bool) → leb a b ≡ v → cond v a b ≤ b
    go true e = leb-true a b e
    go false e = omega arith

pub later_first : (a b : ℕ) → a ≤ later a b
later_first a b = go (leb a b) refl
  where
    go : (v : Bool) → leb a b ≡ v → a ≤ cond v b a
    go true e = leb-true a b e
    go false e = omega arith

pub later_second : (a b : ℕ) → b ≤ later a b
later_second a b = go (leb a b) refl
  where
    go : (v : Bool) → leb a b ≡ v → b ≤ cond v b a
    go true e = omega arith
    go false e = omega (arith, leb-false a b e)

-- adding to both sides
pub lesser-add : (c a b : ℕ) → lesser (a + c) (b + c) ≡ lesser a b + c
lesser-add c a b = go (leb a b) refl
  where
    go : (v : Bool) → leb a b ≡ v → lesser (a + c) (b + c) ≡ cond v a b + c
    go true e = lesser-low (a + c) (b + c) (omega (arith, leb-true a b e))
    go false e = lesser-high (a + c) (b + c) (omega (arith, leb-false a b e))

pub later-add : (c a b : ℕ) → later (a + c) (b + c) ≡ later a b + c
later-add c a b = go (leb a b) refl
  where
    go : (v : Bool) → leb a b ≡ v → later (a + c) (b + c) ≡ cond v b a + c
    go true e = later-low (a + c) (b + c) (omega (arith, leb-true a b e))
    go false e = later-high (a + c) (b + c) (omega (arith, leb-false a b e))

-- ---- the four banks

-- what holds of every bank holds of each
pub every-bank : (f : ℕ → Bool) → every_bank f ≡ true → (b : ℕ) → b < 4 → f b ≡ true
every-bank f e zero l = (both (f 0) _ e).0
every-bank f e (suc zero) l = (both (f 1) _ (both (f 0) _ e).1).0
every-bank f e (suc (suc zero)) l = (both (f 2) _ (both (f 1) _ (both (f 0) _ e).1).1).0
every-bank f e (suc (suc (suc zero))) l = (both (f 2) _ (both (f 1) _ (both (f 0) _ e).1).1).1
every-bank f e (suc (suc (suc (suc b)))) l = absurd (omega arith)

one-fails : (f : ℕ → Bool) (b : ℕ) → b < 4 → f b ≡ false → every_bank f ≡ false
one-fails f zero l e = rw e
one-fails f (suc zero) l e = rw (e, and-false (f 0))
one-fails f (suc (suc zero)) l e = rw (e, and-false (f 1), and-false (f 0))
one-fails f (suc (suc (suc zero))) l e = rw (e, and-false (f 2), and-false (f 1), and-false (f 0))
one-fails f (suc (suc (suc (suc b)))) l e = absurd (omega arith)

-- the banks that a search has passed so far
pub record Passed (f : ℕ → Bool) (b : ℕ) : Type 0 where
  pub held : (i : ℕ) → i < b → f i ≡ true

module _ {f : ℕ → Bool} where
  pub none_yet : Passed f 0
  none_yet = record { held = λ i l. absurd (omega arith) }

  pub one_more : {b : ℕ} → Passed f b → f b ≡ true → Passed f (b + 1)
  one_more {b} p e = record { held = below_more (λ i. f i ≡ true) b p.held e }

  pub all-passed : {b : ℕ} → Passed f b → 4 ≤ b → every_bank f ≡ true
  all-passed p l = rw (p.held 0 (omega arith), p.held 1 (omega arith), p.held 2 (omega arith), p.held 3 (omega arith))

  pub passed_to : {b : ℕ} → Passed f b → b < 4 → f b ≡ false → every_bank f ≡ false
  passed_to {b} p l e = one-fails f b l e
