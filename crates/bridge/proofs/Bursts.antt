-- The bursts of a part after the cuts of one event: what is found among them, and what is held by them.
use Prim.Native.Nat.{ℕ, ◌+◌, ◌≤◌, ◌<◌}
use mathlib.Core.Bool.{Bool, true, false, cond, not, ◌&&◌, and-true, and-false}
use mathlib.Core.List.{List, [], ◌∷◌, map}
use mathlib.Core.Logic.{◌⊎◌, inl, inr}
use mathlib.Core.Option
use mathlib.Core.Option.{Option, none, some}
use mathlib.Core.Path.{◌≡◌, refl, sym, ap, ◌∙◌, subst}
use native.Mathlib.Omega.{arith}
use lib.Dec.{leb}
use borrow.Author.Tests.{leb-true, leb-false, le-leb, lt-leb}
use Rattle.reading.specs.Search.{implies, ever, every, find, later}
use Rattle.reading.specs.Mode.{h}
use Rattle.reading.specs.Settings.{Settings, newer}
use Rattle.reading.specs.Commands.{Command, READ, WRITE, PRECHARGE, is}
use Rattle.reading.specs.Bursts.{Burst, reads, data_end, rests_from, with_pairs}
use Rattle.reading.specs.Part.{Part, Bank, cuts, interrupts, at_most, cut_by}
use Rattle.reading.specs.Rules.{auto_over, untouchable}
use Rattle.reading.proofs.Cuts.{All, nil, cons, auto-uncut}
use Rattle.reading.proofs.Alone.{Spent}
use Rattle.reading.proofs.Laws.{later_first, later_second}
use Rattle.bridge.specs.Summary.{held_by}
use Rattle.bridge.proofs.Tests.{ltb-is, held-is}

-- ---- what a cut leaves alone

pub uncut : (s : Settings) (p : Part) (t : ℕ) (c : Command) (x : Burst) → cuts p c x ≡ false → interrupts s p c x ≡ false → cut_by s p t c x ≡ x
uncut s p t c x e f = rw (e, f) (go x.auto)
  where
    go : (a : Bool) → with_pairs (at_most (cond a none none) x.n) x ≡ x
    go true = refl
    go false = refl

-- only READ and PRECHARGE interrupt, and only writes
pub calm : (s : Settings) (p : Part) (c : Command) (x : Burst) → is READ c ≡ false → is PRECHARGE c ≡ false → interrupts s p c x ≡ false
calm s p c x e f = rw (e, f) (and-false (newer s && x.writes))

pub read-calm : (s : Settings) (p : Part) (c : Command) (x : Burst) → x.writes ≡ false → interrupts s p c x ≡ false
read-calm s p c x e = rw (e, and-false (newer s))

-- a write, but by WRITE, in what rules 10 and 11 wait for
pub rests-stay : (s : Settings) (p : Part) (t : ℕ) (c : Command) (x : Burst) → is WRITE c ≡ false → x.writes ≡ true →
    rests_from s (cut_by s p t c x) ≡ rests_from s x
rests-stay s p t c x e w = go x.auto refl (newer s) refl
  where
    go : (a : Bool) → x.auto ≡ a → (v : Bool) → newer s ≡ v → rests_from s (cut_by s p t c x) ≡ rests_from s x
    go true f v g = ap (rests_from s) (auto-uncut s p t c x f)
    go false f true g = rw (f, g)
    go false f false g = ap (rests_from s) (uncut s p t c x (rw (w, e)) (rw g))

pub find-same : (q : Burst → Bool) (f : Burst → Burst) → ((x : Burst) → q (f x) ≡ q x) → ((x : Burst) → q x ≡ true → f x ≡ x) →
    (xs : List Burst) → find q (map f xs) ≡ find q xs
find-same q f a b [] = refl
find-same q f a b (x ∷ xs) = rw (a x) (go (q x) refl (find-same q f a b xs))
  where
    go : (v : Bool) → q x ≡ v → find q (map f xs) ≡ find q xs → cond v (some (f x)) (find q (map f xs)) ≡ cond v (some x) (find q xs)
    go true e ih = ap {B = Option Burst} some (b x e)
    go false e ih = ih

pub find-map : (q : Burst → Bool) (f : Burst → Burst) → ((x : Burst) → q (f x) ≡ q x) → (xs : List Burst) → find q (map f xs) ≡ Option.map f (find q xs)
find-map q f a [] = refl
find-map q f a (x ∷ xs) = rw (a x) (go (q x) (find-map q f a xs))
  where
    go : (v : Bool) → find q (map f xs) ≡ Option.map f (find q xs) → cond v (some (f x)) (find q (map f xs)) ≡ Option.map f (cond v (some x) (find q xs))
    go true ih = refl
    go false ih = ih

pub find-like : (q r : Burst → Bool) → ((x : Burst) → q x ≡ r x) → (xs : List Burst) → find q xs ≡ find r xs
find-like q r e [] = refl
find-like q r e (x ∷ xs) = rw (e x, find-like q r e xs)

pub held_cut : (kind : Burst → Bool) → ((n : ℕ) (x : Burst) → kind (with_pairs n x) ≡ kind x) →
    (s : Settings) (p : Part) (t : ℕ) (c : Command) (xs : List Burst) → held_by kind (map (cut_by s p t c) xs) ≡ held_by kind xs
held_cut kind e s p t c [] = refl
held_cut kind e s p t c (x ∷ xs) = rw (held_cut kind e s p t c xs, e (cut_by s p t c x).n x)

-- ---- bursts given before a cycle

pub record Given (from : ℕ) (x : Burst) : Type 0 where
  pub before : x.k < from
  pub most : x.n ≤ h x.mode
  pub bank : x.bank < 4

-- ---- writes: of all bursts but the last they have ended

pub record Ended (from : ℕ) (x : Burst) : Type 0 where
  pub by : x.writes ≡ true → data_end x ≤ from

pub data Late (from : ℕ) : List Burst → Type 0 where
  nothing : Late from []
  behind : {x : Burst} {xs : List Burst} → All (Ended from) xs → Late from (x ∷ xs)

-- no write's data runs at t
abbrev pub write_over : ℕ → Burst → Bool
write_over t x = implies x.writes (leb (data_end x) t)

all-over : {from : ℕ} (t : ℕ) → from ≤ t → {xs : List Burst} → All (Ended from) xs → every (write_over t) xs ≡ true
all-over t l nil = refl
all-over {from} t l (cons {x = x} {xs = xs} e rest) = rw (one x.writes refl) (all-over t l rest)
  where
    one : (v : Bool) → x.writes ≡ v → implies v (leb (data_end x) t) ≡ true
    one true f = le-leb (data_end x) t (omega (arith, e.by f))
    one false f = refl

pub leb-add : (w a b : ℕ) → leb (a + w) (b + w) ≡ leb a b
leb-add w a b = go (leb a b) refl
  where
    go : (v : Bool) → leb a b ≡ v → leb (a + w) (b + w) ≡ v
    go true e = le-leb (a + w) (b + w) (omega (arith, leb-true a b e))
    go false e = lt-leb (a + w) (b + w) (omega (arith, leb-false a b e))

-- the end of the data of the last write, if it is the last burst
abbrev pub first_over : ℕ → List Burst → Bool
first_over t [] = true
first_over t (x ∷ xs) = write_over t x

pub late_is : {from : ℕ} (t : ℕ) → from ≤ t → {xs : List Burst} → Late from xs → every (write_over t) xs ≡ first_over t xs
late_is t l nothing = refl
late_is t l (behind {x = x} rest) = rw (all-over t l rest) (and-true (write_over t x))

found-over : {from : ℕ} (t : ℕ) → from ≤ t → {xs : List Burst} → All (Ended from) xs → ever (find (λ x. x.writes) xs) (λ x. leb (data_end x) t) ≡ true
found-over t l nil = refl
found-over {from} t l (cons {x = x} {xs = xs} e rest) = go x.writes refl (found-over t l rest)
  where
    go : (v : Bool) → x.writes ≡ v → ever (find (λ y. y.writes) xs) (λ y. leb (data_end y) t) ≡ true →
        ever (cond v (some x) (find (λ y. y.writes) xs)) (λ y. leb (data_end y) t) ≡ true
    go true f ih = le-leb (data_end x) t (omega (arith, e.by f))
    go false f ih = ih

pub last-over : {from : ℕ} (t : ℕ) → from ≤ t → {xs : List Burst} → Late from xs → ever (find (λ x. x.writes) xs) (λ x. leb (data_end x) t) ≡ first_over t xs
last-over t l nothing = refl
last-over t l (behind {x = x} {xs = xs} rest) = go x.writes
  where
    go : (v : Bool) → ever (cond v (some x) (find (λ y. y.writes) xs)) (λ y. leb (data_end y) t) ≡ implies v (leb (data_end x) t)
    go true = refl
    go false = found-over t l rest

-- ---- reads: one that can be cut is over, or it is the last of all and its bank is open

abbrev pub first : List Burst → Option Burst
first [] = none
first (x ∷ xs) = some x

pub record Running (from : ℕ) (banks : ℕ → Bank) (xs : List Burst) (x : Burst) : Type 0 where
  pub by : x.writes ≡ false → x.auto ≡ false → (x.k + x.n ≤ from) ⊎ ((first xs ≡ some x) × ((banks x.bank).opened ≡ true))

pub all-spent : (p : Part) (from t : ℕ) → from ≤ t → {ys xs : List Burst} → All (Running from p.banks ys) xs → All (Spent t p) xs
all-spent p from t l nil = nil
all-spent p from t l (cons {x = x} z zs) = cons (record { by = λ w a i. go i (z.by w a) }) (all-spent p from t l zs)
  where
    go : {Last : Type 0} → (p.banks x.bank).opened ≡ false →
        (x.k + x.n ≤ from) ⊎ (Last × ((p.banks x.bank).opened ≡ true)) → x.k + x.n ≤ t
    go i (inl e) = omega arith
    go i (inr (e, o)) = let k : ◌≡◌ {A = ℕ} 0 1 = cc in absurd (omega arith)

-- ---- BURST TERMINATE

swap : (a b u v : Bool) → ((a && b) && (u && v)) ≡ ((a && u) && (b && v))
swap true true u v = refl
swap true false true v = refl
swap true false false v = refl
swap false b u v = refl

module _ (from t : ℕ) (l : from ≤ t) where
  one-touchable : (x : Burst) → Given from x → not (untouchable t x) ≡ (implies (reads x) (auto_over t x) && write_over t x)
  one-touchable x g =
      rw (le-leb x.k t (omega (arith, g.before)), ltb-is t (data_end x), ltb-is t (x.k + h x.mode))
      (go x.writes x.auto (leb (data_end x) t) (leb (x.k + h x.mode) t))
    where
      go : (w a u v : Bool) → not (cond w (not u) (a && not v)) ≡ (implies (not w) (implies a v) && implies w u)
      go true a true v = refl
      go true a false v = refl
      go false true u true = refl
      go false true u false = refl
      go false false u v = refl

  touchable : {xs : List Burst} → All (Given from) xs →
      every (λ x. not (untouchable t x)) xs ≡ (every (λ x. implies (reads x) (auto_over t x)) xs && every (write_over t) xs)
  touchable nil = refl
  touchable (cons {x = x} {xs = xs} g r) =
      rw (one-touchable x g, touchable r)
      (swap (implies (reads x) (auto_over t x)) (write_over t x) (every (λ y. implies (reads y) (auto_over t y)) xs) (every (write_over t) xs))

  pub terminate-is : {xs : List Burst} → All (Given from) xs → Late from xs →
      every (λ x. not (untouchable t x)) xs ≡ (leb (held_by reads xs) t && first_over t xs)
  terminate-is {xs} g e = touchable g ∙ rw (held-is reads t xs, late_is t l e)

-- ---- what is found in a list has what all of it have

pub find-all : {P : Burst → Type 0} (q : Burst → Bool) {xs : List Burst} → All P xs → {x : Burst} → find q xs ≡ some x → P x
find-all q nil e = let z : ◌≡◌ {A = ℕ} 0 1 = cc in absurd (omega arith)
find-all {P} q (cons {x = y} {xs = ys} g r) {x} e = go (q y) e (find-all q r)
  where
    go : (v : Bool) → cond v (some y) (find q ys) ≡ some x → (find q ys ≡ some x → P x) → P x
    go true f ih = let w : y ≡ x = cc in subst P w g
    go false f ih = ih f

pub find-holds : (q : Burst → Bool) (xs : List Burst) {x : Burst} → find q xs ≡ some x → q x ≡ true
find-holds q [] e = let z : ◌≡◌ {A = ℕ} 0 1 = cc in absurd (omega arith)
find-holds q (y ∷ ys) {x} e = go (q y) refl e (find-holds q ys)
  where
    go : (v : Bool) → q y ≡ v → cond v (some y) (find q ys) ≡ some x → (find q ys ≡ some x → q x ≡ true) → q x ≡ true
    go true f h ih = let w : y ≡ x = cc in ap q (sym w) ∙ f
    go false f h ih = ih h

-- auto precharge bursts of a kind that is held until t are over
pub record Over (t : ℕ) (kind : Burst → Bool) (x : Burst) : Type 0 where
  pub by : kind x ≡ true → x.auto ≡ true → x.k + h x.mode ≤ t

pub held-over : (kind : Burst → Bool) (t : ℕ) (xs : List Burst) → held_by kind xs ≤ t → All (Over t kind) xs
held-over kind t [] l = nil
held-over kind t (x ∷ xs) l =
    cons {x = x} (record { by = λ a b. omega (arith, l, later_first (x.k + h x.mode) (held_by kind xs), here a b) })
    (held-over kind t xs (omega (arith, l, later_second (cond (kind x && x.auto) (x.k + h x.mode) 0) (held_by kind xs))))
  where
    here : kind x ≡ true → x.auto ≡ true → later (cond (kind x && x.auto) (x.k + h x.mode) 0) (held_by kind xs) ≡ later (x.k + h x.mode) (held_by kind xs)
    here a b = rw (a, b)
