-- Captures that differ only in addresses, and what `hidden::blank` writes: about whatever the contracts allow.
use Prim.Native.Nat.{ℕ, ◌+◌, ◌*◌, ◌<◌}
use mathlib.Core.Bool.{false}
use mathlib.Core.List.{List}
use mathlib.Core.Logic.{◌↔◌, ◌⊎◌, inl, inr}
use mathlib.Core.Path.{◌≡◌, sym, ap, ◌∙◌, subst}
use native.Mathlib.Omega.{arith}
use lib.ListN.{length, get_or, take, drop}
use Rattle.reading.specs.Capture.{most_events, events_start, count_in, event_count, event_bytes, event_at}
use Rattle.reading.specs.Answers.{Answer, refused, answered, accepted, settings_in, fitting}
use Rattle.reading.specs.Blank.{names_column, names_row, OnlyAddressesDiffer, blanked, blank_outcome}
use Rattle.capture.proofs.Outcome as outcome
use Rattle.capture.proofs.Outcome.{Wrote, too_long, lacking, fits, refused-meets, leaves-refused}
use Rattle.capture.proofs.Accepted.{accepted-rest, refused-rest, refused-in, answered-in}
use Rattle.std.specs.Prelude.{Ok}
use Rattle.alike.proofs.Captures.{same-accepted, judged-alike}
use Rattle.alike.proofs.Pins.{as-made}
use Rattle.alike.proofs.Blanked.{same-blanked, blanked-length, blanked-pins, blanked-differs, differ-blanked}
use Rattle.words.proofs.Bytes.{Bytes}
use Rattle.alike.proofs.Bytes.{front_bytes, cycle-bytes, pin-bytes, blanked-bytes}
use Rattle.demands.specs.Allowed.{Judged, Counted, Refuses, Judges, Blanks}
use Rattle.demands.specs.Refused.{opened, Accepted, BlankRefused, unopened, scant}
use Rattle.demands.proofs.Judging.{one_answer}
use Rattle.demands.proofs.Opening.{capture-refused-exactly}

-- ---- two captures that differ only in addresses

-- Whatever the judge may say of the one it says of the other: verdict, rule, event, cycle and judged count, or the refusal.
pub judged-same : (a b : List ℕ) → OnlyAddressesDiffer a b → (r q : Judged) → Judges a r → Judges b q → r ≡ q
judged-same a b only r q x y = one_answer b r q (x ∙ judged-alike a b only) y

-- If one is accepted, so is the other.
pub accepted-same : (a b : List ℕ) → OnlyAddressesDiffer a b → Accepted a → Accepted b
accepted-same a b only open-to = sym (same-accepted a b only (answered tt)) ∙ open-to

-- They are blanked to the same bytes.
pub blanked-same : (a b : List ℕ) → OnlyAddressesDiffer a b → blanked a ≡ blanked b
blanked-same = same-blanked

-- Two captures that are accepted differ only in addresses exactly when they are blanked to the same bytes.
pub differ-exactly : (a b : List ℕ) → Accepted a → Accepted b → OnlyAddressesDiffer a b ↔ blanked a ≡ blanked b
differ-exactly a b x y = (same-blanked a b, differ-blanked a b x y)

-- ---- a capture blanked

-- It is accepted, and differs only in addresses from what it was.
pub blanked-related : (capture : List ℕ) → Accepted capture → OnlyAddressesDiffer capture (blanked capture)
blanked-related = blanked-differs

pub blanked-accepted : (capture : List ℕ) → Accepted capture → Accepted (blanked capture)
blanked-accepted capture open-to = accepted-same capture (blanked capture) (blanked-related capture open-to) open-to

-- So it is judged alike.
pub blanked-judged : (capture : List ℕ) → Accepted capture → (r q : Judged) → Judges capture r → Judges (blanked capture) q → r ≡ q
blanked-judged capture open-to = judged-same capture (blanked capture) (blanked-related capture open-to)

-- To blank it once more changes nothing.
pub blanked-twice : (capture : List ℕ) → Accepted capture → blanked (blanked capture) ≡ blanked capture
blanked-twice capture open-to = sym (blanked-same capture (blanked capture) (blanked-related capture open-to))

-- ---- of bytes, nothing else is touched

-- header and settings
pub front_kept : (capture : List ℕ) → Accepted capture → Bytes capture → (j : ℕ) → j < events_start (count_in capture) →
    get_or capture j 0 ≡ get_or (blanked capture) j 0
front_kept capture open-to bytes = front_bytes capture (blanked capture) bytes (blanked-bytes capture bytes) (blanked-related capture open-to)

-- the four bytes of every cycle
pub cycle-kept : (capture : List ℕ) → Accepted capture → Bytes capture → (i : ℕ) → i < event_count capture → (j : ℕ) → j < 4 →
    get_or (event_bytes capture) (8 * i + j) 0 ≡ get_or (event_bytes (blanked capture)) (8 * i + j) 0
cycle-kept capture open-to bytes = cycle-bytes capture (blanked capture) bytes (blanked-bytes capture bytes) (blanked-related capture open-to)

-- the four bytes of the pins of an event that names neither a column nor a row of the part
pub pins-kept : (capture : List ℕ) → Accepted capture → Bytes capture → (i : ℕ) → i < event_count capture →
    names_column (event_at (event_bytes capture) i).pins ≡ false → names_row (settings_in capture) (event_at (event_bytes capture) i).pins ≡ false →
    (j : ℕ) → j < 4 → get_or (event_bytes capture) (8 * i + 4 + j) 0 ≡ get_or (event_bytes (blanked capture)) (8 * i + 4 + j) 0
pins-kept capture open-to bytes i l c r =
    pin-bytes capture (blanked capture) bytes (blanked-bytes capture bytes) (blanked-related capture open-to) i l
    (sym (blanked-pins capture open-to i l ∙ as-made (event_at (event_bytes capture) i).pins (settings_in capture) c r))

-- ---- what `blank` answers and leaves

module _ (capture out : List ℕ) where
  abbrev rest : Answer (List ℕ)
  rest = fitting out (blanked capture)

  -- Refused exactly in the cases that are written out in specs/Refused, with their place.
  case-of : (number place : ℕ) → (blank_outcome capture out).answer ≡ refused number place → BlankRefused capture out number place
  unfolding blank_outcome
  case-of number place k = go (refused-in most_events capture rest (leaves-refused (accepted capture rest) out k).0)
    where
      go : (opened capture ≡ refused number place) ⊎ (Accepted capture × (rest ≡ refused number place)) → BlankRefused capture out number place
      go (inl h) = unopened ((capture-refused-exactly capture number place).0 h)
      go (inr (h, e)) =
          let (n, p, l) = lacking out (blanked capture) e in
          scant h n (p ∙ sym (blanked-length capture h)) (rw p l)

  of-case : (number place : ℕ) → BlankRefused capture out number place → (blank_outcome capture out).answer ≡ refused number place
  unfolding blank_outcome
  of-case number place (unopened c) = sym (refused-meets (refused-rest capture rest ((capture-refused-exactly capture number place).1 c))).0
  of-case number place (scant h n p l) =
      sym
      (refused-meets
      (accepted-rest capture rest h ∙ too_long out (blanked capture) (omega (arith, p, l, blanked-length capture h))
      ∙ (λ i. refused (sym n i) ((sym (blanked-length capture h) ∙ sym p) i)))
      ).0

pub blank-refused-exactly : (capture out : List ℕ) (r : Counted) (left : List ℕ) → Blanks capture out r left → (number place : ℕ) →
    Refuses r number place ↔ BlankRefused capture out number place
blank-refused-exactly capture out r left a number place = (
  λ e. case-of capture out number place (sym a.0 ∙ e),
  λ c. a.0 ∙ of-case capture out number place c,
)

-- A refused call leaves the buffer.
pub blank-refused : (capture out left : List ℕ) (number place : ℕ) (r : Counted) → Refuses r number place → Blanks capture out r left → left ≡ out
unfolding blank_outcome
blank-refused capture out left number place r e a =
    a.1 ∙ (leaves-refused (accepted capture (fitting out (blanked capture))) out (sym a.0 ∙ e)).1

-- ---- what `blank` wrote

module _ (capture out left : List ℕ) (n : ℕ) (a : Blanks capture out (Ok n) left) where
  abbrev answer : Answer (List ℕ)
  answer = accepted capture (fitting out (blanked capture))

  wrote : Wrote answer out n
  unfolding blank_outcome
  wrote = outcome.wrote answer out (sym a.0)

  is-blanked : Accepted capture × (blanked capture ≡ wrote.list)
  is-blanked =
      let (h, e) = answered-in most_events capture _ wrote.is in
      (h, (fits out (blanked capture) e).0)

-- The capture was accepted, and its bytes, blanked, are what stands at the front of the buffer; bytes behind them stay.
pub written-opened : (capture out left : List ℕ) (n : ℕ) → Blanks capture out (Ok n) left → Accepted capture
written-opened capture out left n a = (is-blanked capture out left n a).0

pub written_is : (capture out left : List ℕ) (n : ℕ) → Blanks capture out (Ok n) left → take n left ≡ blanked capture
unfolding blank_outcome
written_is capture out left n a = ap (take n) a.1 ∙ (wrote capture out left n a).front ∙ sym (is-blanked capture out left n a).1

pub written-long : (capture out left : List ℕ) (n : ℕ) → Blanks capture out (Ok n) left → n ≡ length capture
written-long capture out left n a =
    let (h, e) = is-blanked capture out left n a in (wrote capture out left n a).count ∙ sym (ap length e) ∙ sym (blanked-length capture h)

pub behind-stays : (capture out left : List ℕ) (n : ℕ) → Blanks capture out (Ok n) left → drop n left ≡ drop n out
unfolding blank_outcome
behind-stays capture out left n a = ap (drop n) a.1 ∙ (wrote capture out left n a).behind

-- What was written is accepted, differs only in addresses from what was given, and so is judged alike.
pub written-accepted : (capture out left : List ℕ) (n : ℕ) → Blanks capture out (Ok n) left → Accepted (take n left)
written-accepted capture out left n a =
    subst Accepted (sym (written_is capture out left n a)) (blanked-accepted capture (written-opened capture out left n a))

pub written-related : (capture out left : List ℕ) (n : ℕ) → Blanks capture out (Ok n) left → OnlyAddressesDiffer capture (take n left)
written-related capture out left n a =
    subst (OnlyAddressesDiffer capture) (sym (written_is capture out left n a)) (blanked-related capture (written-opened capture out left n a))

pub written-judged : (capture out left : List ℕ) (n : ℕ) → Blanks capture out (Ok n) left →
    (r q : Judged) → Judges capture r → Judges (take n left) q → r ≡ q
written-judged capture out left n a = judged-same capture (take n left) (written-related capture out left n a)

-- Of two captures that differ only in addresses the same bytes are written.
pub written_same : (a b : List ℕ) → OnlyAddressesDiffer a b → (out other left rest : List ℕ) (n m : ℕ) →
    Blanks a out (Ok n) left → Blanks b other (Ok m) rest → take n left ≡ take m rest
written_same a b only out other left rest n m x y =
    written_is a out left n x ∙ blanked-same a b only ∙ sym (written_is b other rest m y)
