-- What is told of a result is told of no other.
use Prim.Native.Nat.{ℕ}
use mathlib.Core.Bool.{cond}
use mathlib.Core.Path.{◌≡◌, refl, sym, ap, ◌∙◌}
use lib.Dec.{eqb}
use Rattle.std.specs.Prelude.{Result, Ok, Err}
use Rattle.reading.specs.Answers.{Answer, refused, answered}
use Rattle.refusal.specs.Refusal.{number_of, place_of, told, passed}
use Rattle.refusal.specs.declared.Refusal.{Refusal}
use Rattle.refusal.specs.declared.Refusal.TheVariants.{Length, Header, Setting, Event, Request, Late, Room, Broken, Policy, Export, Distance, Question, Window}

refusal_of : ℕ → ℕ → Refusal
refusal_of n place =
    cond (eqb n 1) Length
    (cond (eqb n 2) Header
    (cond (eqb n 3) (Setting place)
    (cond (eqb n 4) (Event place)
    (cond (eqb n 5) (Request place)
    (cond (eqb n 6) (Late place)
    (cond (eqb n 7) (Room place)
    (cond (eqb n 8) (Broken place)
    (cond (eqb n 10) Policy
    (cond (eqb n 11) (Export place)
    (cond (eqb n 12) Distance
    (cond (eqb n 13) Question (Window place))))))))))))

refusal_is : (r : Refusal) → refusal_of (number_of r) (place_of r) ≡ r
unfolding refusal_of
refusal_is Length = refl
refusal_is Header = refl
refusal_is (Setting i) = refl
refusal_is (Event i) = refl
refusal_is (Request i) = refl
refusal_is (Late i) = refl
refusal_is (Room n) = refl
refusal_is (Broken i) = refl
refusal_is Policy = refl
refusal_is (Export i) = refl
refusal_is Distance = refl
refusal_is Question = refl
refusal_is (Window i) = refl

-- where the value can be had back from what is said of it
module _ {A B : Type 0} (view : A → B) (back : B → A) (same : (x : A) → back (view x) ≡ x) where
  meant : Answer B → Result A Refusal
  meant (answered y) = Ok (back y)
  meant (refused number place) = Err (refusal_of number place)

  meant-told : (r : Result A Refusal) → meant (told view r) ≡ r
  unfolding meant
  meant-told (Ok x) = ap Ok (same x)
  meant-told (Err r) = ap Err (refusal_is r)

  pub one_result : (r q : Result A Refusal) → told view r ≡ told view q → r ≡ q
  one_result r q h = sym (meant-told r) ∙ ap meant h ∙ meant-told q

pub one_count : (r q : Result ℕ Refusal) → told (λ n. n) r ≡ told (λ n. n) q → r ≡ q
one_count = one_result (λ n. n) (λ n. n) (λ n. refl)

pub one_test : (r q : Result (Unit {0}) Refusal) → passed r ≡ passed q → r ≡ q
one_test = one_result (λ x. tt) (λ x. tt) (λ x. refl)
