-- Words that every page of document 01 uses: the first, the last, each, at least.
use Rattle.std.specs.Prelude.{ℕ, zero, suc, ◌+◌, Bool, true, cond, ◌&&◌, List, [], ◌∷◌, leb}
use Rattle.std.proofs.Math.Option.{Option, none, some}

-- where a is asked, b is wanted
abbrev pub implies : Bool → Bool → Bool
implies a b = cond a b true

-- "a rule about something that has not happened passes"
abbrev pub ever : {A : Type 0} → Option A → (A → Bool) → Bool
ever none f = true
ever (some a) f = f a

-- at least `wait` cycles after it, where it has happened
abbrev pub after : ℕ → Option ℕ → ℕ → Bool
after wait o t = ever o (λ c. leb (c + wait) t)

-- "cycle 0 if none"
abbrev pub or_zero : Option ℕ → ℕ
or_zero none = 0
or_zero (some t) = t

abbrev pub every : {A : Type 0} → (A → Bool) → List A → Bool
every f [] = true
every f (x ∷ xs) = f x && every f xs

-- the first of the list with the property: the lowest, where the list rises; the last, where it has the latest first
abbrev pub find : {A : Type 0} → (A → Bool) → List A → Option A
find f [] = none
find f (x ∷ xs) = cond (f x) (some x) (find f xs)

-- n numbers in a row, beginning with `from`
abbrev pub count : ℕ → ℕ → List ℕ
count from zero = []
count from (suc n) = from ∷ count (suc from) n

-- the lowest number below n with the property
abbrev pub lowest : (ℕ → Bool) → ℕ → Option ℕ
lowest f n = find f (count 0 n)

-- the first of two, if it is there
abbrev pub or_else : {A : Type 0} → Option A → Option A → Option A
or_else none other = other
or_else (some a) other = some a

-- the place of something that may be wrong
abbrev pub given : ℕ → Bool → Option ℕ
given place wrong = cond wrong (some place) none

abbrev pub lesser : ℕ → ℕ → ℕ
lesser a b = cond (leb a b) a b

abbrev pub later : ℕ → ℕ → ℕ
later a b = cond (leb a b) b a
