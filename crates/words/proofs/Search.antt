-- A search for the lowest number with a property, a turn at a time.
use Prim.Native.Nat.{ℕ, zero, suc, ◌+◌, ◌-◌, ◌≤◌, ◌<◌}
use mathlib.Core.Bool.{Bool, true, false, cond, ◌&&◌}
use mathlib.Core.List.{List, [], ◌∷◌}
use mathlib.Core.Option.{Option, none, some}
use mathlib.Core.Path.{◌≡◌, refl, sym, ap, ◌∙◌}
use native.Mathlib.Nat.{sub-zero, add-zero, zero-add, add-suc, suc-add}
use native.Mathlib.Numerals.{add-one}
use native.Mathlib.Omega.{arith}
use lib.ListN.{get_or}
use Rattle.reading.specs.Search.{every, find, count, lowest}

-- what is found from i on
unfoldable pub found_from : (ℕ → Bool) → ℕ → ℕ → Option ℕ
found_from f n i = find f (count i (n - i))

pub one_less : (n i : ℕ) → i < n → n - i ≡ suc (n - (i + 1))
one_less n i l = omega (arith, add-one (n - (i + 1)))

pub none_left : (n i : ℕ) → n ≤ i → n - i ≡ 0
none_left n i l = omega arith

module _ (f : ℕ → Bool) (n : ℕ) where
  pub begins : found_from f n 0 ≡ lowest f n
  unfolding found_from
  begins = rw (sub-zero n)

  module _ (i : ℕ) where
    pub goes_on : i < n → f i ≡ false → found_from f n i ≡ found_from f n (i + 1)
    unfolding found_from
    goes_on l e = rw (one_less n i l, e, add-one i)

    pub stops : i < n → f i ≡ true → found_from f n i ≡ some i
    unfolding found_from
    stops l e = rw (one_less n i l, e)

    pub ends : n ≤ i → found_from f n i ≡ none
    unfolding found_from
    ends l = rw (none_left n i l)

-- ---- nothing found: the property holds of no number below n

nowhere : (f : ℕ → Bool) (k n : ℕ) → find f (count k n) ≡ none → (i : ℕ) → i < n → f (k + i) ≡ false
nowhere f k zero h i l = absurd (omega arith)
nowhere f k (suc n) h i l = go (f k) refl i l h (nowhere f (suc k) n)
  where
    go : (b : Bool) → f k ≡ b → (i : ℕ) → i < suc n → cond b (some k) (find f (count (suc k) n)) ≡ none →
        (find f (count (suc k) n) ≡ none → (j : ℕ) → j < n → f (suc k + j) ≡ false) → f (k + i) ≡ false
    go true e i l v ih = let z : ◌≡◌ {A = ℕ} 0 1 = cc in absurd (omega arith)
    go false e zero l v ih = ap f (add-zero k) ∙ e
    go false e (suc i) l v ih = ap f (add-suc k i ∙ sym (suc-add k i)) ∙ ih v i (omega arith)

pub none_below : (f : ℕ → Bool) (n : ℕ) → lowest f n ≡ none → (i : ℕ) → i < n → f i ≡ false
none_below f n h i l = rw zero-add at (nowhere f 0 n h i l)

-- and the other way round
pub none_of : (f : ℕ → Bool) (k n : ℕ) → ((i : ℕ) → i < n → f (k + i) ≡ false) → find f (count k n) ≡ none
none_of f k zero h = refl
none_of f k (suc n) h =
    rw (sym (ap f (add-zero k)) ∙ h 0 (omega arith))
    (none_of f (suc k) n (λ i l. ap f (suc-add k i ∙ sym (add-suc k i)) ∙ h (suc i) (omega arith)))

pub nothing-below : (f : ℕ → Bool) (n : ℕ) → ((i : ℕ) → i < n → f i ≡ false) → lowest f n ≡ none
nothing-below f n h = none_of f 0 n (λ i l. ap f (zero-add i) ∙ h i l)

-- what holds of every element holds at each place
pub every-at : {A : Type 0} (f : A → Bool) (x : A) → f x ≡ true → (xs : List A) → every f xs ≡ true → (i : ℕ) → f (get_or xs i x) ≡ true
every-at f x d [] h i = d
every-at f x d (y ∷ xs) h i = go (f y) refl h i (every-at f x d xs)
  where
    go : (v : Bool) → f y ≡ v → (v && every f xs) ≡ true → (i : ℕ) → (every f xs ≡ true → (j : ℕ) → f (get_or xs j x) ≡ true) → f (get_or (y ∷ xs) i x) ≡ true
    go true e k zero ih = e
    go true e k (suc j) ih = ih k j
    go false e k j ih = let z : ◌≡◌ {A = ℕ} 0 1 = cc in absurd (omega arith)
