-- What a call answers and leaves in a lent buffer, whatever it is asked: laws of `unless`, `fitting` and `leaves`.
use Prim.Native.Nat.{ℕ, ◌≤◌, ◌<◌}
use mathlib.Core.Bool.{Bool, true, false}
use mathlib.Core.List.{List, ◌++◌}
use mathlib.Core.Logic.{◌⊎◌, inl, inr}
use mathlib.Core.Option.{Option, none, some}
use mathlib.Core.Path.{◌≡◌, refl, sym, ap, ◌∙◌}
use native.Mathlib.Omega.{arith}
use borrow.Author.Tests.{ltb-true, ltb-false, lt-ltb, le-ltb}
use lib.Dec.{ltb}
use lib.ListN.{length, take, drop, length-append}
use lib.Seq.{sets, take_at, drop_at}
use Rattle.reading.specs.Search.{given}
use Rattle.reading.specs.Answers.{Answer, refused, answered, unless, leaves, fitting}
use Rattle.words.proofs.Runs.{front}
use Rattle.capture.specs.Calls.{Meets}

-- ---- an answer is no refusal

pub not-refused : {A B : Type 0} {x : A} {number place : ℕ} → ◌≡◌ {A = Answer A} (answered x) (refused number place) → B
not-refused e = let z : ◌≡◌ {A = ℕ} 0 1 = cc in absurd (omega arith)

pub not-answered : {A B : Type 0} {x : A} {number place : ℕ} → ◌≡◌ {A = Answer A} (refused number place) (answered x) → B
not-answered e = not-refused (sym e)

-- ---- a test, and what follows

-- refused by the test, with its number and place; or it passes, and what follows is refused
pub refused-by : {A : Type 0} (number : ℕ) (o : Option ℕ) (rest : Answer A) {k place : ℕ} → unless number o rest ≡ refused k place →
    ((k ≡ number) × (o ≡ some place)) ⊎ ((o ≡ none) × (rest ≡ refused k place))
refused-by number none rest e = inr (refl, e)
refused-by number (some p) rest e = inl (cc, cc)

-- what is answered passed the test
pub passed : {A : Type 0} (number : ℕ) (o : Option ℕ) (rest : Answer A) {x : A} → unless number o rest ≡ answered x → (o ≡ none) × (rest ≡ answered x)
passed number none rest e = (refl, e)
passed number (some place) rest e = not-answered e

-- tests that end in an answer are those of whatever follows: refused alike, or what follows
abbrev pub follow : {A : Type 0} → Answer (Unit {0}) → Answer A → Answer A
follow (refused number place) rest = refused number place
follow (answered u) rest = rest

pub follow-unless : {A : Type 0} (number : ℕ) (o : Option ℕ) (a : Answer (Unit {0})) (rest : Answer A) →
    unless number o (follow a rest) ≡ follow (unless number o a) rest
follow-unless number none a rest = refl
follow-unless number (some place) a rest = refl

pub follows-refused : {A : Type 0} {a : Answer (Unit {0})} (rest : Answer A) {number place : ℕ} → a ≡ refused number place → follow a rest ≡ refused number place
follows-refused rest e = ap (λ (a : Answer (Unit {0})). follow a rest) e

pub follows-answered : {A : Type 0} {a : Answer (Unit {0})} (rest : Answer A) → a ≡ answered tt → follow a rest ≡ rest
follows-answered rest e = ap (λ (a : Answer (Unit {0})). follow a rest) e

-- and back
pub follow-refused : {A : Type 0} (a : Answer (Unit {0})) (rest : Answer A) {number place : ℕ} → follow a rest ≡ refused number place →
    (a ≡ refused number place) ⊎ ((a ≡ answered tt) × (rest ≡ refused number place))
follow-refused (refused k p) rest e = inl (cc)
follow-refused (answered tt) rest e = inr (refl, e)

pub follow-answered : {A : Type 0} (a : Answer (Unit {0})) (rest : Answer A) {x : A} → follow a rest ≡ answered x → (a ≡ answered tt) × (rest ≡ answered x)
follow-answered (refused k p) rest e = not-answered e
follow-answered (answered tt) rest e = (refl, e)

-- ---- refusal 7: want of room

module _ (out xs : List ℕ) where
  pub too_long : length out < length xs → fitting out xs ≡ refused 7 (length xs)
  too_long l = rw (lt-ltb (length out) (length xs) l)

  pub room : length xs ≤ length out → fitting out xs ≡ answered xs
  room l = rw (le-ltb (length out) (length xs) l)

  pub lacking : {number place : ℕ} → fitting out xs ≡ refused number place → (number ≡ 7) × (place ≡ length xs) × (length out < length xs)
  lacking {number} {place} e = go (ltb (length out) (length xs)) refl e
    where
      go : (v : Bool) → ltb (length out) (length xs) ≡ v → unless 7 (given (length xs) v) (answered xs) ≡ refused number place →
          (number ≡ 7) × (place ≡ length xs) × (length out < length xs)
      go true f k = (cc, cc, ltb-true (length out) (length xs) f)
      go false f k = not-refused k

  pub fits : {ys : List ℕ} → fitting out xs ≡ answered ys → (xs ≡ ys) × (length xs ≤ length out)
  fits {ys} e = go (ltb (length out) (length xs)) refl e
    where
      go : (v : Bool) → ltb (length out) (length xs) ≡ v → unless 7 (given (length xs) v) (answered xs) ≡ answered ys → (xs ≡ ys) × (length xs ≤ length out)
      go true f k = not-answered k
      go false f k = (cc, ltb-false (length out) (length xs) f)

-- ---- the buffer

-- what a call ends with: refused, it leaves the buffer as it was
pub refused-meets : {x : Answer (List ℕ)} {out : List ℕ} {number place : ℕ} → x ≡ refused number place → Meets (refused number place) out (leaves x out)
refused-meets {x} {out} e =
    (ap (λ (y : Answer (List ℕ)). (leaves y out).answer) (sym e), ap (λ (y : Answer (List ℕ)). (leaves y out).buffer) (sym e))

-- else it wrote the elements from the front on, and what lies behind them stays
pub wrote-meets : {x : Answer (List ℕ)} (out xs : List ℕ) → x ≡ fitting out xs → length xs ≤ length out → {n : ℕ} {left : List ℕ} →
    n ≡ length xs → left ≡ sets out 0 xs → Meets (answered n) left (leaves x out)
wrote-meets out xs e l c w =
    let is = e ∙ room out xs l in (
      ap answered c ∙ ap (λ (y : Answer (List ℕ)). (leaves y out).answer) (sym is),
      w ∙ front xs out l ∙ ap (λ (y : Answer (List ℕ)). (leaves y out).buffer) (sym is),
    )

-- and back: a refusal is that of the answer, and left the buffer
module _ (x : Answer (List ℕ)) (out : List ℕ) where
  pub leaves-refused : {number place : ℕ} → (leaves x out).answer ≡ refused number place → (x ≡ refused number place) × ((leaves x out).buffer ≡ out)
  leaves-refused e = go x e
    where
      go : {number place : ℕ} (y : Answer (List ℕ)) → (leaves y out).answer ≡ refused number place → (y ≡ refused number place) × ((leaves y out).buffer ≡ out)
      go (refused k p) e = (cc, refl)
      go (answered xs) e = not-refused e

  -- what was written stands in front
  pub record Wrote (n : ℕ) : Type 0 where
    pub list : List ℕ
    pub is : x ≡ answered list
    pub count : n ≡ length list
    pub front : take n (leaves x out).buffer ≡ list
    pub behind : drop n (leaves x out).buffer ≡ drop n out
    pub within : n ≤ length (leaves x out).buffer

  pub wrote : {n : ℕ} → (leaves x out).answer ≡ answered n → Wrote n
  wrote {n} e = go x refl e
    where
      go : (y : Answer (List ℕ)) → x ≡ y → (leaves y out).answer ≡ answered n → Wrote n
      go (refused k p) h e = not-answered e
      go (answered xs) h e =
          let same : length xs ≡ n = cc in
          let left : (leaves x out).buffer ≡ xs ++ drop (length xs) out = ap (λ (y : Answer (List ℕ)). (leaves y out).buffer) h in
          record {
            list = xs;
            is = h;
            count = sym same;
            front = ap (take n) left ∙ take_at xs (drop (length xs) out) n same;
            behind = ap (drop n) left ∙ drop_at xs (drop (length xs) out) n same ∙ ap (λ (k : ℕ). drop k out) same;
            within = omega (arith, ap length left, length-append xs (drop (length xs) out));
          }
