-- What was open when, of whatever `morgazell_open_row` may answer: refused exactly so; the answer is what the reading's part says
-- after that event; the openings of a bank are disjoint, in order and cover exactly the events after which it stands open; and
-- the records and the index alone answer every question of their capture.
use Prim.Native.Nat.{ℕ, ◌≤◌, ◌<◌}
use mathlib.Core.Bool.{Bool, true, false, not, ◌&&◌}
use mathlib.Core.List.{List, [], ◌∷◌, ◌++◌, map}
use mathlib.Core.Logic.{◌↔◌}
use mathlib.Core.Option.{Option, none}
use mathlib.Core.Path.{◌≡◌, refl, sym, ap, ◌∙◌, subst}
use native.Mathlib.Omega.{arith}
use borrow.Author.Tests.{le-leb, leb-true, leb-false, lt-ltb, ltb-true, le-ltb, ltb-false}
use lib.Dec.{leb, ltb}
use lib.ListN.{length, length-map, get_or, drop}
use Rattle.reading.specs.Search.{count, given}
use Rattle.reading.specs.Capture.{event_count, event_bytes, event_at, events_of}
use Rattle.reading.specs.Verdict as is
use Rattle.reading.specs.Answers.{Answer, refused, answered, unless, settings_in, verdict_in, not_clean}
use Rattle.reading.specs.Openings.{openings_of}
use Rattle.reading.specs.OpenRow.{RowOutcome, openings_in, index_in, records_in, row_in, question_fits, open_row_answer, open_row_outcome, over, looked_up}
use Rattle.reading.specs.Part.{start}
use Rattle.reading.proofs.Meaning.{BrokenAt, verdict-clean, verdict-broken}
use Rattle.reading.proofs.Ordered.{InOrder, Below, found_in, all-below}
use Rattle.reading.proofs.CleanRows.{clean-in-order, clean-answers}
use Rattle.reading.proofs.Index.{index-answers}
use Rattle.capture.proofs.Outcome.{not-refused}
use Rattle.capture.proofs.Accepted.{accepted-rest, refused-rest, length-count}
use Rattle.banks.specs.declared.Bank.{Bank}
use Rattle.banks.specs.Banks.{bank_of, record_of}
use Rattle.morgazell.specs.Packing.{packed, row_told}
use Rattle.demands.specs.Allowed.{Tells}
use Rattle.demands.specs.Refused.{opened, Accepted, Clean, RowRefused, unread, unsound, unasked, unlent, unwritten}
use Rattle.demands.proofs.Opening.{capture-refused-exactly}

-- ---- refused exactly so

module _ (capture : List ℕ) (bank event records words : ℕ) where
  abbrev answer : Answer (Option ℕ)
  answer = open_row_answer capture bank event records words

  abbrev needed : ℕ
  needed = length (index_in capture)

  -- by what is known of the capture, the question and the buffers
  abbrev by : Option ℕ → Bool → Bool → Bool → Answer (Option ℕ)
  by o fits few short =
      unless 8 o (unless 13 (given 0 (not fits)) (unless 7 (given 4 few) (unless 7 (given needed short) (answered (row_in capture bank event)))))

  module _ (open-to : Accepted capture) where
    rest : answer ≡ by (not_clean (verdict_in capture)) (question_fits capture bank event) (ltb records 4) (ltb words needed)
    unfolding open_row_answer
    rest = accepted-rest capture _ open-to

    clean-verdict : Clean capture → verdict_in capture ≡ is.clean
    unfolding verdict_in
    clean-verdict c = (verdict-clean (settings_in capture) (events_of capture)).1 c

    of-clean : Clean capture → answer ≡ by none (question_fits capture bank event) (ltb records 4) (ltb words needed)
    of-clean c = rest ∙ ap (λ (v : is.Verdict). by (not_clean v) (question_fits capture bank event) (ltb records 4) (ltb words needed)) (clean-verdict c)

    asked : Clean capture → {y : Bool} → question_fits capture bank event ≡ y → answer ≡ by none y (ltb records 4) (ltb words needed)
    asked c e = of-clean c ∙ ap (λ (y : Bool). by none y (ltb records 4) (ltb words needed)) e

    fits : bank ≤ 3 → event < event_count capture → question_fits capture bank event ≡ true
    fits l m = rw (le-leb bank 3 l, lt-ltb event (event_count capture) m)

    unfit : (bank ≤ 3 → event_count capture ≤ event) → question_fits capture bank event ≡ false
    unfit h = go (leb bank 3) refl
      where
        go : (y : Bool) → leb bank 3 ≡ y → (y && ltb event (event_count capture)) ≡ false
        go true e = le-ltb event (event_count capture) (h (leb-true bank 3 e))
        go false e = refl

    lent : Clean capture → bank ≤ 3 → event < event_count capture → {y z : Bool} → ltb records 4 ≡ y → ltb words needed ≡ z → answer ≡ by none true y z
    lent c l m {y} {z} e f =
        asked c (fits l m) ∙ (ap (λ (b : Bool). by none true b (ltb words needed)) e ∙ ap (λ (b : Bool). by none true y b) f)

  broken-verdict : (rule place cycle : ℕ) → BrokenAt (settings_in capture) (start (settings_in capture)) (events_of capture) place rule cycle ↔
      verdict_in capture ≡ is.broken rule place cycle
  unfolding verdict_in
  broken-verdict rule place cycle =
      ((verdict-broken (settings_in capture) (events_of capture) rule place cycle).1, (verdict-broken (settings_in capture) (events_of capture) rule place cycle).0)

  -- each of the five cases is refused
  gives : {number place : ℕ} → RowRefused capture bank event records words number place → answer ≡ refused number place
  unfolding open_row_answer
  gives {number} {place} (unread c) = refused-rest capture _ ((capture-refused-exactly capture number place).1 c)
  gives {number} {place} (unsound a n rule cycle b) =
      rest a
      ∙ (ap (λ (v : is.Verdict). by (not_clean v) (question_fits capture bank event) (ltb records 4) (ltb words needed)) ((broken-verdict rule place cycle).0 b)
      ∙ ap (λ (k : ℕ). refused k place) (sym n))
  gives (unasked a c n p h) = asked a c (unfit a h) ∙ (λ i. refused (sym n i) (sym p i))
  gives (unlent a c l m n p s) = lent a c l m (lt-ltb records 4 s) refl ∙ (λ i. refused (sym n i) (sym p i))
  gives {number} {place} (unwritten a c l m k n p s) =
      lent a c l m (le-ltb records 4 k) (lt-ltb words needed (subst (λ (x : ℕ). words < x) p s)) ∙ (λ i. refused (sym n i) (sym p i))

  numbers : {k j number place : ℕ} → ◌≡◌ {A = Answer (Option ℕ)} (refused k j) (refused number place) → (number ≡ k) × (place ≡ j)
  numbers {k} {j} {number} {place} e =
      let n : k ≡ number = cc in
      let p : j ≡ place = cc in
      (sym n, sym p)

  -- and nothing else
  module _ (number place : ℕ) (e : answer ≡ refused number place) where
    abbrev Case : Type 0
    Case = RowRefused capture bank event records words number place

    if-lent : (a : Accepted capture) (c : Clean capture) → bank ≤ 3 → event < event_count capture → (y z : Bool) → ltb records 4 ≡ y → ltb words needed ≡ z →
        by none true y z ≡ refused number place → Case
    if-lent a c l m true z f g h = let (n, p) = numbers h in unlent a c l m n p (ltb-true records 4 f)
    if-lent a c l m false true f g h =
        let (n, p) = numbers h in unwritten a c l m (ltb-false records 4 f) n p (subst (λ (x : ℕ). words < x) (sym p) (ltb-true words needed g))
    if-lent a c l m false false f g h = not-refused h

    if-asked : (a : Accepted capture) (c : Clean capture) (y z : Bool) → leb bank 3 ≡ y → ltb event (event_count capture) ≡ z → Case
    if-asked a c true true f g =
        let l = leb-true bank 3 f in
        let m = ltb-true event (event_count capture) g in
        if-lent a c l m (ltb records 4) (ltb words needed) refl refl (sym (lent a c l m refl refl) ∙ e)
    if-asked a c true false f g =
        let (n, p) = numbers (sym (asked a c {y = false} (rw (f, g))) ∙ e) in unasked a c n p (λ l. ltb-false event (event_count capture) g)
    if-asked a c false z f g =
        let (n, p) = numbers (sym (asked a c {y = false} (rw f)) ∙ e) in unasked a c n p (λ l. absurd (omega (arith, l, leb-false bank 3 f)))

    if-judged : (a : Accepted capture) (v : is.Verdict) → verdict_in capture ≡ v → Case
    unfolding verdict_in
    if-judged a is.clean f = if-asked a ((verdict-clean (settings_in capture) (events_of capture)).0 f) (leb bank 3) (ltb event (event_count capture)) refl refl
    if-judged a (is.broken rule i cycle) f =
        let (n, p) = numbers
        (sym (rest a ∙ ap (λ (v : is.Verdict). by (not_clean v) (question_fits capture bank event) (ltb records 4) (ltb words needed)) f) ∙ e) in
        unsound a n rule cycle (subst (λ (k : ℕ). BrokenAt (settings_in capture) (start (settings_in capture)) (events_of capture) k rule cycle) (sym p)
        ((broken-verdict rule i cycle).1 f))

    only : (x : Answer (Unit {0})) → opened capture ≡ x → Case
    unfolding open_row_answer
    only (refused k j) h = let (n, p) = numbers (sym (refused-rest capture _ h) ∙ e) in unread ((capture-refused-exactly capture number place).0 (h ∙ (λ i. refused (sym n i) (sym p i))))
    only (answered tt) h = if-judged h (verdict_in capture) refl

-- A question is refused exactly in the cases that are written out in specs/Refused, with their place.
pub row-refused : (capture : List ℕ) (bank event records words number place : ℕ) →
    open_row_answer capture bank event records words ≡ refused number place ↔ RowRefused capture bank event records words number place
row-refused capture bank event records words number place = (
  λ e. only capture bank event records words number place e (opened capture) refl,
  gives capture bank event records words,
)

-- ---- what is said of a clean capture

module _ (capture : List ℕ) (clean : Clean capture) where
  cleaned : is.verdict_of (settings_in capture) (events_of capture) ≡ is.clean
  cleaned = (verdict-clean (settings_in capture) (events_of capture)).1 clean

  events-length : length (events_of capture) ≡ event_count capture
  unfolding events_of
  events-length = length-map (count 0 (event_count capture)) (event_at (event_bytes capture)) ∙ length-count 0 (event_count capture)

-- The openings of a bank are disjoint and in order, and end before event N.
pub openings-in-order : (capture : List ℕ) → Clean capture → (b : ℕ) →
    InOrder 0 (openings_in capture b) × Below (event_count capture) (openings_in capture b)
unfolding openings_in
openings-in-order capture clean b = (
  clean-in-order (settings_in capture) b (events_of capture) (cleaned capture clean),
  subst (λ (n : ℕ). Below n (openings_of (settings_in capture) (events_of capture) b)) (events-length capture clean)
      (all-below (settings_in capture) b (events_of capture)),
)

-- They cover exactly the events after which the bank stands open: the row of the one in which an event lies is the row that
-- the rules say, and an event that lies in none finds the bank idle.
pub openings-cover : (capture : List ℕ) → Clean capture → (b j : ℕ) → j < event_count capture → found_in (openings_in capture b) j ≡ row_in capture b j
unfolding openings_in row_in
openings-cover capture clean b j l =
    clean-answers (settings_in capture) b (events_of capture) (cleaned capture clean) j (omega (arith, l, events-length capture clean))

-- The records and the index alone answer every question; what lies behind the index does not matter.
pub index-tells : (capture : List ℕ) → Clean capture → (rest : List ℕ) (b : ℕ) → b ≤ 3 → (j : ℕ) → j < event_count capture →
    looked_up (get_or (records_in capture) b (record { before = 0; count = 0 })) (index_in capture ++ rest) j ≡ row_in capture b j
unfolding records_in index_in row_in
index-tells capture clean rest b k j l =
    index-answers (settings_in capture) (events_of capture) (cleaned capture clean) rest b k j (omega (arith, l, events-length capture clean))

-- ---- the call

module _ (capture : List ℕ) (bank event : ℕ) (records : List Bank) (index : List ℕ) (r : ℕ) (left : List Bank) (words : List ℕ)
    (told : Tells capture bank event records index r left words) where
  abbrev outcome : RowOutcome
  outcome = open_row_outcome capture bank event (map record_of records) index

  back : (l : List Bank) → map bank_of (map record_of l) ≡ l
  back [] = refl
  back (b ∷ l) = ap (λ (m : List Bank). b ∷ m) (back l)

  said : outcome.answer ≡ open_row_answer capture bank event (length records) (length index)
  unfolding open_row_outcome
  said = ap (λ (n : ℕ). open_row_answer capture bank event n (length index)) (length-map records record_of)

-- Refused, it says number and place, and leaves both buffers.
pub refusal-told : (capture : List ℕ) (bank event : ℕ) (records : List Bank) (index : List ℕ) (r : ℕ) (left : List Bank) (words : List ℕ) →
    Tells capture bank event records index r left words → (number place : ℕ) →
    RowRefused capture bank event (length records) (length index) number place →
    (r ≡ packed (row_told (refused number place))) × (left ≡ records) × (words ≡ index)
unfolding open_row_outcome
refusal-told capture bank event records index r left words told number place h =
    let e =
    said capture bank event records index r left words told
    ∙ (row-refused capture bank event (length records) (length index) number place).1 h in (
      told.0 ∙ ap (λ (a : Answer (Option ℕ)). packed (row_told a)) e,
      told.1
          ∙ (ap (λ (a : Answer (Option ℕ)). map bank_of (over a (records_in capture) (map record_of records))) e
          ∙ back capture bank event records index r left words told records),
      told.2 ∙ ap (λ (a : Answer (Option ℕ)). over a (index_in capture) index) e,
    )

-- Else it says the row that the reading's part has open in the bank after the event, or idle, and fills both buffers; what lies
-- behind the records and the index stays.
pub row_told_lem : (capture : List ℕ) (bank event : ℕ) (records : List Bank) (index : List ℕ) (r : ℕ) (left : List Bank) (words : List ℕ) →
    Tells capture bank event records index r left words →
    Accepted capture → Clean capture → bank ≤ 3 → event < event_count capture → 4 ≤ length records → length (index_in capture) ≤ length index →
    (r ≡ packed (row_told (answered (row_in capture bank event))))
    × (left ≡ map bank_of (records_in capture ++ drop (length (records_in capture)) (map record_of records)))
    × (words ≡ index_in capture ++ drop (length (index_in capture)) index)
unfolding open_row_outcome
row_told_lem capture bank event records index r left words told open-to clean small early four room =
    let e =
    said capture bank event records index r left words told
    ∙ lent capture bank event (length records) (length index) open-to clean small early (le-ltb (length records) 4 four)
    (le-ltb (length index) (length (index_in capture)) room) in (
      told.0 ∙ ap (λ (a : Answer (Option ℕ)). packed (row_told a)) e,
      told.1 ∙ ap (λ (a : Answer (Option ℕ)). map bank_of (over a (records_in capture) (map record_of records))) e,
      told.2 ∙ ap (λ (a : Answer (Option ℕ)). over a (index_in capture) index) e,
    )
