-- What it means that a search finds something, or nothing.
use Prim.Native.Nat.{ℕ, zero, suc, ◌+◌, ◌≤◌, ◌<◌}
use mathlib.Core.Bool.{Bool, true, false, cond}
use mathlib.Core.List.Memᴰ
use mathlib.Core.List.{List, [], ◌∷◌, ◌++◌, Memᴰ}
use mathlib.Core.Logic.{◌⊎◌, inl, inr}
use mathlib.Core.Option.{none, some}
use mathlib.Core.Path.{◌≡◌, refl, ap, ◌∙◌}
use native.Mathlib.Decide.{dec_lt}
use native.Mathlib.Omega.{arith}
use lib.Dec.{eqb}
use lib.ListN.{length, get_or}
use Rattle.reading.specs.Search.{every, find, or_else}
use Rattle.reading.specs.Schedule.{earliest}
use Rattle.reading.proofs.Laws.{both}

module _ {A : Type 0} (f : A → Bool) where
  -- nothing: the property fails throughout
  pub find_none : (xs : List A) → find f xs ≡ none → (x : A) → Memᴰ x xs → f x ≡ false
  find_none [] h x m = absurd (Memᴰ.not-nil m)
  find_none (y ∷ ys) h x m = go (f y) refl h (Memᴰ.cases_cons m) (find_none ys)
    where
      go : (b : Bool) → f y ≡ b → cond b (some y) (find f ys) ≡ none → (x ≡ y) ⊎ Memᴰ x ys →
          (find f ys ≡ none → (z : A) → Memᴰ z ys → f z ≡ false) → f x ≡ false
      go true e v c ih = let z : ◌≡◌ {A = ℕ} 0 1 = cc in absurd (omega arith)
      go false e v (inl p) ih = ap f p ∙ e
      go false e v (inr n) ih = ih v x n

  pub none-find : (xs : List A) → ((x : A) → Memᴰ x xs → f x ≡ false) → find f xs ≡ none
  none-find [] h = refl
  none-find (y ∷ ys) h = rw (h y (Memᴰ.head refl)) (none-find ys (λ x m. h x (Memᴰ.tail m)))

  -- something: it is in the list and has the property
  pub record Has (xs : List A) (x : A) : Type 0 where
    pub member : Memᴰ x xs
    pub holds : f x ≡ true

  pub find-some : (xs : List A) (x : A) → find f xs ≡ some x → Has xs x
  find-some [] x h = let z : ◌≡◌ {A = ℕ} 0 1 = cc in absurd (omega arith)
  find-some (y ∷ ys) x h = go (f y) refl h (find-some ys x)
    where
      go : (b : Bool) → f y ≡ b → cond b (some y) (find f ys) ≡ some x → (find f ys ≡ some x → Has ys x) → Has (y ∷ ys) x
      go true e v ih = let p : x ≡ y = cc in record { member = Memᴰ.head p; holds = ap f p ∙ e }
      go false e v ih = record { member = Memᴰ.tail (ih v).member; holds = (ih v).holds }

  -- and it has whatever all have
  pub found-as-all : (g : A → Bool) (xs : List A) → every g xs ≡ true → (x : A) → find f xs ≡ some x → g x ≡ true
  found-as-all g [] a x h = let z : ◌≡◌ {A = ℕ} 0 1 = cc in absurd (omega arith)
  found-as-all g (y ∷ ys) a x h = go (f y) h (found-as-all g ys (both (g y) _ a).1 x)
    where
      go : (b : Bool) → cond b (some y) (find f ys) ≡ some x → (find f ys ≡ some x → g x ≡ true) → g x ≡ true
      go true v ih = let p : x ≡ y = cc in ap g p ∙ (both (g y) _ a).0
      go false v ih = ih v

  -- in two lists, one behind the other
  pub find-append : (xs ys : List A) → find f (xs ++ ys) ≡ or_else (find f xs) (find f ys)
  find-append [] ys = refl
  find-append (x ∷ xs) ys = go (f x) (find-append xs ys)
    where
      go : (b : Bool) → find f (xs ++ ys) ≡ or_else (find f xs) (find f ys) →
          cond b (some x) (find f (xs ++ ys)) ≡ or_else (cond b (some x) (find f xs)) (find f ys)
      go true e = refl
      go false e = e

-- properties that agree on all of a list find the same
pub same-found : {A : Type 0} (f g ok : A → Bool) → ((x : A) → ok x ≡ true → f x ≡ g x) → (xs : List A) → every ok xs ≡ true → find f xs ≡ find g xs
same-found f g ok e [] a = refl
same-found f g ok e (x ∷ xs) a =
    λ i. cond (e x (both (ok x) _ a).0 i) (some x) (same-found f g ok e xs (both (ok x) _ a).1 i)

-- a number that is found where it is looked for is in the list
pub listed : (n : ℕ) (ns : List ℕ) → find (eqb n) ns ≡ some n → Memᴰ n ns
listed n ns e = (find-some (eqb n) ns n e).member

-- what stands at a place is in the list
pub member-at : {A : Type 0} (x : A) (xs : List A) (i : ℕ) → i < length xs → Memᴰ (get_or xs i x) xs
member-at x [] i l = absurd (omega arith)
member-at x (y ∷ ys) zero l = Memᴰ.head refl
member-at x (y ∷ ys) (suc i) l = Memᴰ.tail (member-at x ys i (omega arith))

-- ---- lists of numbers that rise

abbrev pub Rising : ℕ → List ℕ → Type 0
Rising from [] = Unit {0}
Rising from (x ∷ xs) = (from ≤ x) × Rising (suc x) xs

above : (from : ℕ) (xs : List ℕ) → Rising from xs → (q : ℕ) → Memᴰ q xs → from ≤ q
above from [] r q m = absurd (Memᴰ.not-nil m)
above from (x ∷ xs) r q m = go (Memᴰ.cases_cons m) (above (suc x) xs r.1 q)
  where
    go : (q ≡ x) ⊎ Memᴰ q xs → (Memᴰ q xs → suc x ≤ q) → from ≤ q
    go (inl p) ih = omega (arith, r.0)
    go (inr n) ih = omega (arith, r.0, ih n)

module _ (f : ℕ → Bool) where
  -- what is found is the lowest
  pub find-lowest : (from : ℕ) (xs : List ℕ) → Rising from xs → (x : ℕ) → find f xs ≡ some x →
      (q : ℕ) → Memᴰ q xs → q < x → f q ≡ false
  find-lowest from [] r x h q m l = absurd (Memᴰ.not-nil m)
  find-lowest from (y ∷ ys) r x h q m l =
      go (f y) refl h (Memᴰ.cases_cons m) (λ v n. find-lowest (suc y) ys r.1 x v q n l)
    where
      go : (b : Bool) → f y ≡ b → cond b (some y) (find f ys) ≡ some x → (q ≡ y) ⊎ Memᴰ q ys →
          (find f ys ≡ some x → Memᴰ q ys → f q ≡ false) → f q ≡ false
      go true e v (inl p) ih = let z : x ≡ y = cc in absurd (omega (arith, z, p))
      go true e v (inr n) ih = let z : x ≡ y = cc in absurd (omega (arith, z, above (suc y) ys r.1 q n))
      go false e v (inl p) ih = ap f p ∙ e
      go false e v (inr n) ih = ih v n

  -- the lowest is found
  pub lowest-find : (from : ℕ) (xs : List ℕ) → Rising from xs → (x : ℕ) → Memᴰ x xs → f x ≡ true →
      ((q : ℕ) → Memᴰ q xs → q < x → f q ≡ false) → find f xs ≡ some x
  lowest-find from [] r x m t h = absurd (Memᴰ.not-nil m)
  lowest-find from (y ∷ ys) r x m t h =
      go (Memᴰ.cases_cons m) (λ n. lowest-find (suc y) ys r.1 x n t (λ q k l. h q (Memᴰ.tail k) l))
    where
      go : (x ≡ y) ⊎ Memᴰ x ys → (Memᴰ x ys → find f ys ≡ some x) → find f (y ∷ ys) ≡ some x
      go (inl p) ih = rw (← p, t)
      go (inr n) ih = rw (h y (Memᴰ.head refl) (omega (arith, above (suc y) ys r.1 x n))) (ih n)

  -- ---- the earliest cycle: f holds there, and at no cycle before it
  pub earliest-is : (from n t : ℕ) → from ≤ t → t ≤ from + n → f t ≡ true →
      ((u : ℕ) → from ≤ u → u < t → f u ≡ false) → earliest f from n ≡ t
  unfolding earliest
  earliest-is from zero t a b h g = omega arith
  earliest-is from (suc n) t a b h g = go (dec_lt from t) (λ l. earliest-is (suc from) n t (omega arith) (omega arith) h (λ u k m. g u (omega arith) m))
    where
      go : Dec (from < t) → (from < t → earliest f (suc from) n ≡ t) → cond (f from) from (earliest f (suc from) n) ≡ t
      go (yes l) ih = rw (g from (omega arith) l) (ih l)
      go (no l) ih = let e : from ≡ t = omega arith in rw (e, h)
