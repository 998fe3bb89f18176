-- A rule's test of the part is a comparison with a deadline of its summary.
use Prim.Native.Nat.{ℕ, ◌+◌}
use mathlib.Core.Bool.{Bool, true, false, cond, not, ◌&&◌, ◌||◌, and-false}
use mathlib.Core.List.{List, [], ◌∷◌}
use mathlib.Core.Option.{Option, none, some}
use mathlib.Core.Path.{◌≡◌, refl, sym, ap}
use native.Mathlib.Omega.{arith}
use lib.Dec.{leb, ltb, eqb, leb-zero}
use borrow.Author.Tests.{leb-true, leb-false, le-leb, lt-ltb, le-ltb}
use Rattle.reading.specs.Search.{implies, ever, every, after, later}
use Rattle.reading.specs.Mode.{h, CL}
use Rattle.reading.specs.Settings.{Settings}
use Rattle.reading.specs.Bursts.{Burst, rests_from}
use Rattle.reading.specs.Rules.{auto_over}
use Rattle.deadlines.specs.Deadlines.{rule_unless}
use Rattle.bridge.specs.Summary.{from, ended, cleared, held_by}

-- the rule's number, 0 for none
abbrev pub num : Option ℕ → ℕ
num none = 0
num (some r) = r

pub num-cond : (k : Bool) (x : Option ℕ) (r : ℕ) → num (cond (not k) (some r) x) ≡ rule_unless k r (num x)
num-cond true x r = refl
num-cond false x r = refl

pub after_is : (wait : ℕ) (o : Option ℕ) (t : ℕ) → after wait o t ≡ leb (from o wait) t
after_is wait none t = sym (leb-zero t)
after_is wait (some c) t = refl

pub ended_is : (s : Settings) (o : Option Burst) (wait t : ℕ) → ever o (λ x. leb (rests_from s x + wait) t) ≡ leb (ended s o wait) t
ended_is s none wait t = sym (leb-zero t)
ended_is s (some x) wait t = refl

pub cleared-is : (o : Option Burst) (t : ℕ) → ever o (λ x. leb (x.k + CL x.mode + x.n) t) ≡ leb (cleared o) t
cleared-is none t = sym (leb-zero t)
cleared-is (some x) t = refl

pub leb-later : (a b t : ℕ) → leb (later a b) t ≡ (leb a t && leb b t)
leb-later a b t = go (leb a b) refl
  where
    go : (v : Bool) → leb a b ≡ v → leb (cond v b a) t ≡ (leb a t && leb b t)
    go true e = by (leb b t) refl
      where
        by : (w : Bool) → leb b t ≡ w → w ≡ (leb a t && w)
        by true f = sym (rw (le-leb a t (omega (arith, leb-true a b e, leb-true b t f))))
        by false f = sym (and-false (leb a t))
    go false e = by (leb a t) refl
      where
        by : (w : Bool) → leb a t ≡ w → w ≡ (w && leb b t)
        by true f = sym (le-leb b t (omega (arith, leb-false a b e, leb-true a t f)))
        by false f = refl

pub held-is : (kind : Burst → Bool) (t : ℕ) (xs : List Burst) →
    every (λ x. implies (kind x) (auto_over t x)) xs ≡ leb (held_by kind xs) t
held-is kind t [] = sym (leb-zero t)
held-is kind t (x ∷ xs) =
    rw (leb-later (cond (kind x && x.auto) (x.k + h x.mode) 0) (held_by kind xs) t, ← held-is kind t xs)
    (ap (λ (b : Bool). b && every (λ y. implies (kind y) (auto_over t y)) xs) (one (kind x) x.auto))
  where
    one : (a b : Bool) → implies a (implies b (leb (x.k + h x.mode) t)) ≡ leb (cond (a && b) (x.k + h x.mode) 0) t
    one true true = refl
    one true false = sym (leb-zero t)
    one false b = sym (leb-zero t)

pub open_is : (o : Bool) → eqb (cond o 1 0) 0 ≡ not o
open_is true = refl
open_is false = refl

pub shut-is : (o : Bool) → not (eqb (cond o 1 0) 0) ≡ o
shut-is true = refl
shut-is false = refl

-- a bank that is not open is not asked
pub closing-is : (o n k : Bool) → n ≡ true → implies (o && n) k ≡ (k || not o)
closing-is true n true e = rw e
closing-is true n false e = rw e
closing-is false n true e = refl
closing-is false n false e = refl

pub ltb-is : (t c : ℕ) → ltb t c ≡ not (leb c t)
ltb-is t c = go (leb c t) refl
  where
    go : (v : Bool) → leb c t ≡ v → ltb t c ≡ not v
    go true e = le-ltb t c (leb-true c t e)
    go false e = lt-ltb t c (leb-false c t e)
