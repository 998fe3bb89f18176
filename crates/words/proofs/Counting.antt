-- Lists that a function counts out: f at so many numbers in a row.
use Prim.Native.Nat.{ℕ, zero, suc, ◌+◌, ◌<◌}
use mathlib.Core.Bool.{Bool, cond}
use mathlib.Core.List.{List, [], ◌∷◌, map}
use mathlib.Core.Option.{some}
use mathlib.Core.Path.{◌≡◌, refl, sym, ap, ◌∙◌}
use native.Mathlib.Nat.{add-zero, zero-add, add-suc, suc-add}
use native.Mathlib.Omega.{arith}
use lib.ListN.{length, get_or}
use Rattle.reading.specs.Search.{find, count, lowest}

pub at_count : {A : Type 0} (f : ℕ → A) (x : A) (from n i : ℕ) → i < n → get_or (map f (count from n)) i x ≡ f (from + i)
at_count f x from zero i l = absurd (omega arith)
at_count f x from (suc n) zero l = ap f (sym (add-zero from))
at_count f x from (suc n) (suc i) l = at_count f x (suc from) n i (omega arith) ∙ ap f (suc-add from i ∙ sym (add-suc from i))

-- a list that f counts out
counted-from : {A : Type 0} (f : ℕ → A) (x : A) (k n : ℕ) (xs : List A) → length xs ≡ n → ((i : ℕ) → i < n → f (k + i) ≡ get_or xs i x) → map f (count k n) ≡ xs
counted-from f x k zero [] l e = refl
counted-from f x k zero (y ∷ xs) l e = absurd (omega arith)
counted-from f x k (suc n) [] l e = absurd (omega arith)
counted-from f x k (suc n) (y ∷ xs) l e =
    rw (
      sym (ap f (add-zero k)) ∙ e 0 (omega arith),
      counted-from f x (suc k) n xs (omega arith) (λ i j. ap f (suc-add k i ∙ sym (add-suc k i)) ∙ e (suc i) (omega arith)),
    )

pub counted : {A : Type 0} (f : ℕ → A) (x : A) (xs : List A) → ((i : ℕ) → i < length xs → f i ≡ get_or xs i x) → map f (count 0 (length xs)) ≡ xs
counted f x xs e = counted-from f x 0 (length xs) xs refl (λ i l. ap f (zero-add i) ∙ e i l)

-- ---- functions that agree on these numbers

module _ {A : Type 0} (f g : ℕ → A) where
  -- of the number after k
  later : (k i : ℕ) → f (k + suc i) ≡ g (k + suc i) → f (suc k + i) ≡ g (suc k + i)
  later k i e = ap f (suc-add k i ∙ sym (add-suc k i)) ∙ e ∙ ap g (add-suc k i ∙ sym (suc-add k i))

  first : (k : ℕ) → f (k + 0) ≡ g (k + 0) → f k ≡ g k
  first k e = sym (ap f (add-zero k)) ∙ e ∙ ap g (add-zero k)

same_from : {A : Type 0} (f g : ℕ → A) (k n : ℕ) → ((i : ℕ) → i < n → f (k + i) ≡ g (k + i)) → map f (count k n) ≡ map g (count k n)
same_from f g k zero e = refl
same_from {A} f g k (suc n) e =
    λ j. first f g k (e 0 (omega arith)) j ∷ same_from f g (suc k) n (λ i l. later f g k i (e (suc i) (omega arith))) j

pub same-counted : {A : Type 0} (f g : ℕ → A) (n : ℕ) → ((i : ℕ) → i < n → f i ≡ g i) → map f (count 0 n) ≡ map g (count 0 n)
same-counted f g n e = same_from f g 0 n (λ i l. ap f (zero-add i) ∙ e i l ∙ sym (ap g (zero-add i)))

found_from : (f g : ℕ → Bool) (k n : ℕ) → ((i : ℕ) → i < n → f (k + i) ≡ g (k + i)) → find f (count k n) ≡ find g (count k n)
found_from f g k zero e = refl
found_from f g k (suc n) e =
    λ j.
    cond (first f g k (e 0 (omega arith)) j) (some k) (found_from f g (suc k) n (λ i l. later f g k i (e (suc i) (omega arith))) j)

pub same-lowest : (f g : ℕ → Bool) (n : ℕ) → ((i : ℕ) → i < n → f i ≡ g i) → lowest f n ≡ lowest g n
same-lowest f g n e = found_from f g 0 n (λ i l. ap f (zero-add i) ∙ e i l ∙ sym (ap g (zero-add i)))
