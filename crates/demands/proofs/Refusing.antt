-- Demand 1: a call is refused exactly with the number and the place of document 01's table, and then leaves the buffer as it was.
use Prim.Native.Nat.{ℕ, ◌≤◌}
use mathlib.Core.Bool.{Bool, true, false, not}
use mathlib.Core.List.{List}
use mathlib.Core.Logic.{◌↔◌, ◌⊎◌, inl, inr}
use mathlib.Core.Option.{Option, none, some}
use mathlib.Core.Path.{◌≡◌, refl, sym, ap, ◌∙◌}
use native.Mathlib.Omega.{arith}
use borrow.Author.Tests.{eqb-true, eqb-false, ne_eqb, eq-eqb, ltb-true, lt-ltb, le-ltb, ltb-false}
use lib.Dec.{ltb, eqb}
use lib.ListN.{length}
use Rattle.reading.specs.Search.{given}
use Rattle.reading.specs.Settings.{settings_of, bad_setting}
use Rattle.reading.specs.Capture.{most_events, events_of}
use Rattle.reading.specs.Schedule.{Schedule, planned, late, bad_request, schedule_of, capture_of}
use Rattle.reading.specs.Verdict as is
use Rattle.reading.specs.Answers.{Answer, refused, unless, accepted, settings_in, verdict_in, not_clean, judge_answer_to, cells_in, when_planned, fitting, cells_outcome, schedule_outcome}
use Rattle.reading.proofs.Meaning.{verdict-clean, verdict-broken}
use Rattle.capture.specs.Calls.{opened_to}
use Rattle.capture.proofs.Outcome.{too_long, lacking, refused-meets, leaves-refused}
use Rattle.capture.proofs.Accepted.{accepted-rest, refused-rest, refused-to, refused-in, refused-only}
use Rattle.demands.specs.Allowed.{Judged, Counted, says, Refuses, JudgesTo, Judges, Lists, Schedules}
use Rattle.demands.specs.Captures.{CaptureRefused}
use Rattle.demands.specs.Refused.{opened, Accepted, ListRefused, unaccepted, unclean, ScheduleRefused}
use Rattle.demands.specs.Refused as case
use Rattle.demands.proofs.Judging.{through}
use Rattle.demands.proofs.Opening.{capture-refused-exactly}

-- ---- the judge

pub judge-refused-to : (most : ℕ) (capture : List ℕ) (r : Judged) → JudgesTo most capture r → (number place : ℕ) →
    says r ≡ refused number place ↔ opened_to most capture ≡ refused number place
unfolding judge_answer_to
judge-refused-to most capture r a number place = (
  λ e. refused-only most capture _ refl (sym a ∙ e),
  λ h. a ∙ refused-to most capture _ h,
)

pub judge-refused : (capture : List ℕ) (r : Judged) → Judges capture r → (number place : ℕ) →
    says r ≡ refused number place ↔ CaptureRefused capture number place
judge-refused capture r a number place =
    through (judge-refused-to most_events capture r a number place) (capture-refused-exactly capture number place)

-- ---- burst lists

module _ (capture out : List ℕ) where
  abbrev rest : Answer (List ℕ)
  rest = unless 8 (not_clean (verdict_in capture)) (fitting out (cells_in capture))

  refuses : {number place : ℕ} → accepted capture rest ≡ refused number place → (cells_outcome capture out).answer ≡ refused number place
  unfolding cells_outcome
  refuses e = sym (refused-meets e).0

  judged-as : (v : is.Verdict) → verdict_in capture ≡ v → Accepted capture → accepted capture rest ≡ unless 8 (not_clean v) (fitting out (cells_in capture))
  judged-as v e h = accepted-rest capture rest h ∙ ap (λ (v : is.Verdict). unless 8 (not_clean v) (fitting out (cells_in capture))) e

  list-case : (number place : ℕ) → (cells_outcome capture out).answer ≡ refused number place → ListRefused capture out number place
  unfolding verdict_in cells_outcome
  list-case number place k = go (refused-in most_events capture rest (leaves-refused (accepted capture rest) out k).0)
    where
      decided : Accepted capture → (v : is.Verdict) → verdict_in capture ≡ v → unless 8 (not_clean v) (fitting out (cells_in capture)) ≡ refused number place →
          ListRefused capture out number place
      decided h is.clean e k =
          let (n, p, l) = lacking out (cells_in capture) k in
          case.ListRefused.short h ((verdict-clean (settings_in capture) (events_of capture)).0 e) n p (rw p l)
      decided h (is.broken rule event cycle) e k =
          let n : 8 ≡ number = cc in
          let p : event ≡ place = cc in
          unclean h (sym n) rule cycle ((verdict-broken (settings_in capture) (events_of capture) rule place cycle).0 (e ∙ ap (λ (i : ℕ). is.broken rule i cycle) p))

      go : (opened capture ≡ refused number place) ⊎ (Accepted capture × (rest ≡ refused number place)) → ListRefused capture out number place
      go (inl h) = unaccepted ((capture-refused-exactly capture number place).0 h)
      go (inr (h, e)) = decided h (verdict_in capture) refl e

  case-list : (number place : ℕ) → ListRefused capture out number place → (cells_outcome capture out).answer ≡ refused number place
  unfolding verdict_in
  case-list number place (unaccepted c) = refuses (refused-rest capture rest ((capture-refused-exactly capture number place).1 c))
  case-list number place (unclean h n rule cycle b) =
      refuses
      (judged-as (is.broken rule place cycle) ((verdict-broken (settings_in capture) (events_of capture) rule place cycle).1 b) h
      ∙ ap (λ (k : ℕ). refused k place) (sym n))
  case-list number place (case.ListRefused.short h c n p l) =
      refuses
      (judged-as is.clean ((verdict-clean (settings_in capture) (events_of capture)).1 c) h ∙ too_long out (cells_in capture) (omega (arith, p, l))
      ∙ (λ i. refused (sym n i) (sym p i)))

pub list-refused-exactly : (capture out : List ℕ) (r : Counted) (left : List ℕ) → Lists capture out r left → (number place : ℕ) →
    Refuses r number place ↔ ListRefused capture out number place
list-refused-exactly capture out r left a number place = (
  λ e. list-case capture out number place (sym a.0 ∙ e),
  λ c. a.0 ∙ case-list capture out number place c,
)

pub list-refused : (capture out left : List ℕ) (number place : ℕ) (r : Counted) → Refuses r number place → Lists capture out r left → left ≡ out
unfolding cells_outcome
list-refused capture out left number place r e a =
    a.1 ∙ (leaves-refused (accepted capture (unless 8 (not_clean (verdict_in capture)) (fitting out (cells_in capture)))) out (sym a.0 ∙ e)).1

-- ---- schedules

module _ (ws qs : List ℕ) (policy : ℕ) (out : List ℕ) where
  -- the answer, by what each test says
  abbrev by : Option ℕ → Option ℕ → Option ℕ → Option ℕ → Schedule → Answer (List ℕ)
  by a b d c x = unless 2 a (unless 3 b (unless 10 d (unless 5 c (when_planned x (λ es. fitting out (capture_of ws es))))))

  abbrev answer : Answer (List ℕ)
  answer =
      by (given 0 (not (eqb (length ws) 14))) (bad_setting ws) (given 0 (not (ltb policy 2))) (bad_request (settings_of ws) qs)
      (schedule_of (settings_of ws) policy qs)

  tested : {a b d c : Option ℕ} {x : Schedule} → given 0 (not (eqb (length ws) 14)) ≡ a → bad_setting ws ≡ b → given 0 (not (ltb policy 2)) ≡ d →
      bad_request (settings_of ws) qs ≡ c → schedule_of (settings_of ws) policy qs ≡ x → {number place : ℕ} →
      (schedule_outcome ws qs policy out).answer ≡ refused number place ↔ by a b d c x ≡ refused number place
  unfolding schedule_outcome
  tested {a} {b} {d} {c} {x} f g m h k =
      let so : answer ≡ by a b d c x = λ i. by (f i) (g i) (m i) (h i) (k i) in
      (λ e. sym so ∙ (leaves-refused answer out e).0, λ e. sym (refused-meets (so ∙ e)).0)

  counted : length ws ≡ 14 → given 0 (not (eqb (length ws) 14)) ≡ none
  counted e = rw (eq-eqb (length ws) 14 e)

  known : policy ≤ 1 → given 0 (not (ltb policy 2)) ≡ none
  known l = rw (lt-ltb policy 2 (omega arith))

  module _ (number place : ℕ) where
    schedule-case : (schedule_outcome ws qs policy out).answer ≡ refused number place → ScheduleRefused ws qs policy out number place
    schedule-case k =
        go (eqb (length ws) 14) (bad_setting ws) (ltb policy 2) (bad_request (settings_of ws) qs) (schedule_of (settings_of ws) policy qs) refl refl refl refl refl
      where
        told : {b : Bool} {v : Bool} → b ≡ v → given 0 (not b) ≡ given 0 (not v)
        told f = ap (λ (v : Bool). given 0 (not v)) f

        go : (a : Bool) (b : Option ℕ) (d : Bool) (c : Option ℕ) (x : Schedule) → eqb (length ws) 14 ≡ a → bad_setting ws ≡ b → ltb policy 2 ≡ d →
            bad_request (settings_of ws) qs ≡ c → schedule_of (settings_of ws) policy qs ≡ x → ScheduleRefused ws qs policy out number place
        go false b d c x f g m h z =
            let so : ◌≡◌ {A = Answer (List ℕ)} (refused 2 0) (refused number place) = (tested (told f) g (told m) h z).0 k in
            let n : 2 ≡ number = cc in
            let e : 0 ≡ place = cc in
            case.ScheduleRefused.count (eqb-false (length ws) 14 f) (sym n) (sym e)
        go true (some i) d c x f g m h z =
            let so : ◌≡◌ {A = Answer (List ℕ)} (refused 3 i) (refused number place) = (tested (told f) g (told m) h z).0 k in
            let n : 3 ≡ number = cc in
            let e : i ≡ place = cc in
            case.ScheduleRefused.setting (eqb-true (length ws) 14 f) (sym n) (g ∙ ap some e)
        go true none false c x f g m h z =
            let so : ◌≡◌ {A = Answer (List ℕ)} (refused 10 0) (refused number place) = (tested (told f) g (told m) h z).0 k in
            let n : 10 ≡ number = cc in
            let e : 0 ≡ place = cc in
            case.ScheduleRefused.policy (record { count = eqb-true (length ws) 14 f; each = g }) (ltb-false policy 2 m) (sym n) (sym e)
        go true none true (some i) x f g m h z =
            let so : ◌≡◌ {A = Answer (List ℕ)} (refused 5 i) (refused number place) = (tested (told f) g (told m) h z).0 k in
            let n : 5 ≡ number = cc in
            let e : i ≡ place = cc in
            case.ScheduleRefused.request (record { count = eqb-true (length ws) 14 f; each = g }) (omega (arith, ltb-true policy 2 m)) (sym n) (h ∙ ap some e)
        go true none true none (late i) f g m h z =
            let so : ◌≡◌ {A = Answer (List ℕ)} (refused 6 i) (refused number place) = (tested (told f) g (told m) h z).0 k in
            let n : 6 ≡ number = cc in
            let e : i ≡ place = cc in
            case.ScheduleRefused.untimely (record { count = eqb-true (length ws) 14 f; each = g }) (omega (arith, ltb-true policy 2 m)) h (sym n) (z ∙ ap late e)
        go true none true none (planned es) f g m h z =
            let (n, p, l) = lacking out (capture_of ws es) ((tested (told f) g (told m) h z).0 k) in
            case.ScheduleRefused.short (record { count = eqb-true (length ws) 14 f; each = g }) (omega (arith, ltb-true policy 2 m)) h es z n p (rw p l)

    case-schedule : ScheduleRefused ws qs policy out number place → (schedule_outcome ws qs policy out).answer ≡ refused number place
    case-schedule (case.ScheduleRefused.count f n p) =
        (tested (ap (λ (v : Bool). given 0 (not v)) (ne_eqb (length ws) 14 f)) refl refl refl refl).1 (λ i. refused (sym n i) (sym p i))
    case-schedule (case.ScheduleRefused.setting f n b) = (tested (counted f) b refl refl refl).1 (ap (λ (k : ℕ). refused k place) (sym n))
    case-schedule (case.ScheduleRefused.policy f l n p) =
        (tested (counted f.count) f.each (ap (λ (v : Bool). given 0 (not v)) (le-ltb policy 2 l)) refl refl).1 (λ i. refused (sym n i) (sym p i))
    case-schedule (case.ScheduleRefused.request f m n b) =
        (tested (counted f.count) f.each (known m) b refl).1 (ap (λ (k : ℕ). refused k place) (sym n))
    case-schedule (case.ScheduleRefused.untimely f m b n l) =
        (tested (counted f.count) f.each (known m) b l).1 (ap (λ (k : ℕ). refused k place) (sym n))
    case-schedule (case.ScheduleRefused.short f m b es e n p l) =
        (tested (counted f.count) f.each (known m) b e).1 (too_long out (capture_of ws es) (omega (arith, p, l)) ∙ (λ i. refused (sym n i) (sym p i)))

pub schedule-refused-exactly : (ws qs : List ℕ) (policy : ℕ) (out : List ℕ) (r : Counted) (left : List ℕ) → Schedules ws qs policy out r left → (number place : ℕ) →
    Refuses r number place ↔ ScheduleRefused ws qs policy out number place
schedule-refused-exactly ws qs policy out r left a number place = (
  λ e. schedule-case ws qs policy out number place (sym a.0 ∙ e),
  λ c. a.0 ∙ case-schedule ws qs policy out number place c,
)

pub schedule-refused : (ws qs : List ℕ) (policy : ℕ) (out left : List ℕ) (number place : ℕ) (r : Counted) → Refuses r number place →
    Schedules ws qs policy out r left → left ≡ out
unfolding schedule_outcome
schedule-refused ws qs policy out left number place r e a = a.1 ∙ (leaves-refused (answer ws qs policy out) out (sym a.0 ∙ e)).1
