-- What a refusal means in document 01: its number and place; and what a call's result means.
use Rattle.std.specs.Prelude.{ℕ, Result, Ok, Err}
use Rattle.reading.specs.Answers.{Answer, refused, answered}
use Rattle.refusal.specs.declared.Refusal.{Refusal}
use Rattle.refusal.specs.declared.Refusal.TheVariants.{Length, Header, Setting, Event, Request, Late, Room, Broken, Policy, Export, Distance, Question, Window}

abbrev pub number_of : Refusal → ℕ
number_of Length = 1
number_of Header = 2
number_of (Setting i) = 3
number_of (Event i) = 4
number_of (Request i) = 5
number_of (Late i) = 6
number_of (Room n) = 7
number_of (Broken i) = 8
number_of Policy = 10
number_of (Export i) = 11
number_of Distance = 12
number_of Question = 13
number_of (Window i) = 15

abbrev pub place_of : Refusal → ℕ
place_of Length = 0
place_of Header = 0
place_of (Setting i) = i
place_of (Event i) = i
place_of (Request i) = i
place_of (Late i) = i
place_of (Room n) = n
place_of (Broken i) = i
place_of Policy = 0
place_of (Export i) = i
place_of Distance = 0
place_of Question = 0
place_of (Window i) = i

-- a result, of which `view` says what the value is
abbrev pub told : {A B : Type 0} → (A → B) → Result A Refusal → Answer B
told view (Ok x) = answered (view x)
told view (Err r) = refused (number_of r) (place_of r)

-- the same of a call that only tests
abbrev pub passed : {A : Type 0} → Result A Refusal → Answer (Unit {0})
passed r = told (λ x. tt) r
