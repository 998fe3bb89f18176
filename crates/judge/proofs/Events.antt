-- The events of a part, from event i on.
use Prim.Native.Nat.{ℕ, zero, suc, ◌+◌, ◌≤◌, ◌<◌}
use mathlib.Core.List.{List, [], ◌∷◌, map}
use mathlib.Core.Path.{◌≡◌, refl, sym, ap, ◌∙◌}
use native.Mathlib.Nat.{add-zero, zero-add, add-suc, suc-add}
use native.Mathlib.Numerals.{add-one}
use native.Mathlib.Omega.{arith}
use lib.ListN.{length, drop}
use Rattle.reading.specs.Search.{count}
use Rattle.reading.specs.Settings.{Settings}
use Rattle.reading.specs.Capture.{Event, event_at}
use Rattle.reading.specs.Part.{Part, start, step, run}
use Rattle.judge.specs.Meaning.{part_at}

drop-map : {A B : Type 0} (f : A → B) (i : ℕ) (xs : List A) → drop i (map f xs) ≡ map f (drop i xs)
drop-map f zero xs = refl
drop-map f (suc i) [] = refl
drop-map f (suc i) (x ∷ xs) = drop-map f i xs

pub drop-count : (from n i : ℕ) → i < n → drop i (count from n) ≡ (from + i) ∷ drop (suc i) (count from n)
drop-count from zero i l = absurd (omega arith)
drop-count from (suc n) zero l = ap (λ (k : ℕ). k ∷ count (suc from) n) (sym (add-zero from))
drop-count from (suc n) (suc i) l =
    drop-count (suc from) n i (omega arith)
    ∙ ap (λ (k : ℕ). k ∷ drop (suc i) (count (suc from) n)) (suc-add from i ∙ sym (add-suc from i))

pub length-count : (from n : ℕ) → length (count from n) ≡ n
length-count from zero = refl
length-count from (suc n) = ap suc (length-count (suc from) n)

count-gone : (from n i : ℕ) → n ≤ i → drop i (count from n) ≡ []
count-gone from zero zero l = refl
count-gone from zero (suc i) l = refl
count-gone from (suc n) zero l = absurd (omega arith)
count-gone from (suc n) (suc i) l = count-gone (suc from) n i (omega arith)

module _ {A : Type 0} (f : ℕ → A) (n : ℕ) where
  -- the next of them, and those behind it
  pub next_of : (i : ℕ) → i < n → drop i (map f (count 0 n)) ≡ f i ∷ drop (suc i) (map f (count 0 n))
  next_of i l =
      drop-map f i (count 0 n) ∙ ap (map f) (drop-count 0 n i l)
      ∙ ap (λ (k : ℕ). f k ∷ map f (drop (suc i) (count 0 n))) (zero-add i)
      ∙ ap (λ (xs : List A). f i ∷ xs) (sym (drop-map f (suc i) (count 0 n)))

  pub none_of : (i : ℕ) → n ≤ i → drop i (map f (count 0 n)) ≡ []
  none_of i l = drop-map f i (count 0 n) ∙ ap (map f) (count-gone 0 n i l)

-- the part behind one event more
run-next : (s : Settings) (f : ℕ → Event) (from i : ℕ) (p : Part) →
    run s p (map f (count from (suc i))) ≡ step s (run s p (map f (count from i))) (f (from + i))
run-next s f from zero p = ap (λ (k : ℕ). step s p (f k)) (sym (add-zero from))
run-next s f from (suc i) p =
    run-next s f (suc from) i (step s p (f from))
    ∙ ap (λ (k : ℕ). step s (run s p (map f (count from (suc i)))) (f k)) (suc-add from i ∙ sym (add-suc from i))

pub part-next : (s : Settings) (bytes : List ℕ) (i : ℕ) → part_at s bytes (i + 1) ≡ step s (part_at s bytes i) (event_at bytes i)
part-next s bytes i =
    ap (part_at s bytes) (add-one i) ∙ run-next s (event_at bytes) 0 i (start s)
    ∙ ap (λ (k : ℕ). step s (part_at s bytes i) (event_at bytes k)) (zero-add i)
