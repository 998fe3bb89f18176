-- Recordings, which have no limit but what a header's words can state: demands 1 and 2, about whatever the contract of
-- `judge::judge_to` allows; and what they are to captures.
use Prim.Native.Nat.{ℕ, ◌^◌, ◌≤◌, ◌<◌}
use mathlib.Core.Bool.{Bool, true, false, not, ◌&&◌, and-false}
use mathlib.Core.List.{List}
use mathlib.Core.Logic.{◌↔◌, ◌⊎◌, inl, inr}
use mathlib.Core.Option.{Option, none, some}
use mathlib.Core.Path.{◌≡◌, refl, sym, ap, ◌∙◌}
use native.Mathlib.Decide.{dec_lt}
use native.Mathlib.Omega.{arith}
use borrow.Author.Tests.{eqb-true, eq-eqb, ne_eqb, le-leb, lt-leb}
use lib.Dec.{leb, eqb}
use lib.ListN.{length}
use Rattle.reading.specs.Search.{given}
use Rattle.reading.specs.Settings.{bad_setting}
use Rattle.reading.specs.Capture.{most_events, most_recorded, header_word, count_in, event_count, edition_in, newest_edition, settings_start, events_start, capture_size, setting_words, event_bytes, length_fits_to, header_fits_to, pin_limit, bad_event}
use Rattle.reading.specs.Answers.{Answer, refused, answered, unless, accepted_to, accepted, judge_answer_to, judge_answer, leaves, cells_outcome}
use Rattle.reading.specs.Blank.{blank_outcome}
use Rattle.words.proofs.Bytes.{Bytes}
use Rattle.words.proofs.Words.{word_fits}
use Rattle.capture.specs.Calls.{opened_to, AcceptedTo, Accepted}
use Rattle.capture.proofs.Outcome.{not-refused}
use Rattle.capture.proofs.Accepted.{count-range, stated, accepted-sound}
use Rattle.demands.specs.Allowed.{Judged, says, tells_clean, tells_broken, Judges, Records}
use Rattle.demands.specs.Captures.{RecordingRefused}
use Rattle.demands.specs.Refused.{Clean, Broken}
use Rattle.demands.specs.Limit.{limited_accepted, limited_judge_answer, limited_cells_outcome, limited_blank_outcome}
use Rattle.demands.proofs.Judging.{one-answer-to, through, clean-to, broken-to, never-6-to, never-15-to}
use Rattle.demands.proofs.Opening.{refused-exactly-to, accepted-exactly-to}
use Rattle.demands.proofs.Refusing.{judge-refused-to}

-- ---- demands 1 and 2

-- One answer for every byte string.
pub recording-one-answer : (recording : List ℕ) (r q : Judged) → Records recording r → Records recording q → r ≡ q
recording-one-answer = one-answer-to most_recorded

-- Refused exactly with the number and the place of refusals 1 to 4, which are asked of the whole recording before it is judged.
pub recording-refused : (recording : List ℕ) (r : Judged) → Records recording r → (number place : ℕ) →
    says r ≡ refused number place ↔ RecordingRefused recording number place
recording-refused recording r a number place =
    through (judge-refused-to most_recorded recording r a number place) (refused-exactly-to most_recorded recording number place)

-- In no other case.
pub recording-accepted : (recording : List ℕ) → AcceptedTo most_recorded recording ↔ ((number place : ℕ) → RecordingRefused recording number place → ⊥)
recording-accepted = accepted-exactly-to most_recorded

-- Clean exactly when every event, after the events before it, breaks no rule; and then all were judged.
pub recording-clean : (recording : List ℕ) → AcceptedTo most_recorded recording → (r : Judged) → Records recording r →
    says r ≡ tells_clean (event_count recording) (event_count recording) ↔ Clean recording
recording-clean = clean-to most_recorded

-- Else the first event that breaks a rule, the lowest rule that it breaks, its cycle, and as many judged as stand before it.
pub recording-broken : (recording : List ℕ) → AcceptedTo most_recorded recording → (r : Judged) → Records recording r → (rule event cycle : ℕ) →
    says r ≡ tells_broken (event_count recording) event rule event cycle ↔ Broken recording rule event cycle
recording-broken = broken-to most_recorded

-- None is told to break rule 6, nor, with fourteen settings, rule 15.
pub recording-never-6 : (recording : List ℕ) → AcceptedTo most_recorded recording → (r : Judged) → Records recording r →
    (events judged event cycle : ℕ) → says r ≡ tells_broken events judged 6 event cycle → ⊥
recording-never-6 = never-6-to most_recorded

pub recording-never-15 : (recording : List ℕ) → AcceptedTo most_recorded recording → header_word recording 1 ≡ 14 → (r : Judged) → Records recording r →
    (events judged event cycle : ℕ) → says r ≡ tells_broken events judged 15 event cycle → ⊥
recording-never-15 = never-15-to most_recorded

-- ---- limits, one above the other

-- alike where the last of what is asked is so
where-last : (a b last : Bool) → (last ≡ true → a ≡ b) → (a && last) ≡ (b && last)
where-last a b true h = ap (λ (x : Bool). x && true) (h refl)
where-last a b false h = and-false a ∙ sym (and-false b)

module _ (most more : ℕ) (wider : most ≤ more) (capture : List ℕ) (within : length capture ≤ capture_size (count_in capture) most) where
  same_length : length_fits_to most capture ≡ length_fits_to more capture
  unfolding length_fits_to
  same_length =
      rw (
        le-leb (length capture) (capture_size (count_in capture) most) within,
        le-leb (length capture) (capture_size (count_in capture) more) (omega arith),
      )

  -- the header but for its total, by what is said of how many events there may be
  abbrev but-total : Bool → Bool
  but-total few =
      eqb (header_word capture 1) (count_in capture)
      && eqb (header_word capture 2) settings_start
      && few
      && eqb (header_word capture 4) (events_start (count_in capture))
      && leb (edition_in capture) newest_edition

  same-header : length_fits_to most capture ≡ true → header_fits_to most capture ≡ header_fits_to more capture
  unfolding header_fits_to
  same-header h =
      where-last (but-total (leb (event_count capture) most)) (but-total (leb (event_count capture) more))
      (eqb (header_word capture 0) (capture_size (count_in capture) (event_count capture)))
      (λ e.
      let total = eqb-true (header_word capture 0) (capture_size (count_in capture) (event_count capture)) e in
      let few : event_count capture ≤ most = omega (arith, stated capture most h) in
      ap but-total (le-leb (event_count capture) most few ∙ sym (le-leb (event_count capture) more (omega arith))))

  same-accepted : {A : Type 0} (rest : Answer A) → accepted_to most capture rest ≡ accepted_to more capture rest
  unfolding accepted_to
  same-accepted {A} rest = go (length_fits_to most capture) refl
    where
      behind : Bool → Answer A
      behind h =
          unless 2 (given 0 (not h))
          (unless 3 (bad_setting (setting_words capture)) (unless 4 (bad_event (pin_limit capture) (event_bytes capture) (event_count capture)) rest))

      go : (v : Bool) → length_fits_to most capture ≡ v → accepted_to most capture rest ≡ accepted_to more capture rest
      go false e = rw (e, sym same_length ∙ e)
      go true e = rw (e, sym same_length ∙ e) (ap behind (same-header e))

  answers-same : judge_answer_to most capture ≡ judge_answer_to more capture
  unfolding judge_answer_to
  answers-same = same-accepted _

-- Every byte string that is no longer than a capture may be gets from both calls the same answer: verdict or refusal.
pub same_answer : (capture : List ℕ) → length capture ≤ capture_size (count_in capture) most_events → (r q : Judged) → Judges capture r → Records capture q → r ≡ q
same_answer capture within r q a b =
    recording-one-answer capture r q (a ∙ answers-same most_events most_recorded (omega arith) capture within) b

-- So does every accepted capture.
pub accepted-same-answer : (capture : List ℕ) → Accepted capture → (r q : Judged) → Judges capture r → Records capture q → r ≡ q
accepted-same-answer capture open-to =
    let x = (accepted-sound capture open-to).sized in
    same_answer capture (omega (arith, x.size, x.few))

-- Captures are the recordings of at most 8,000 events.
pub captures-are : (recording : List ℕ) → Accepted recording ↔ (AcceptedTo most_recorded recording × (event_count recording ≤ most_events))
captures-are recording = (
  λ open-to.
      let x = (accepted-sound recording open-to).sized in
      (sym (same-accepted most_events most_recorded (omega arith) recording (omega (arith, x.size, x.few)) (answered tt)) ∙ open-to, x.few),
  λ both.
      let x = (accepted-sound recording both.0).sized in
      same-accepted most_events most_recorded (omega arith) recording (omega (arith, x.size, both.1)) (answered tt) ∙ both.0,
)

-- ---- the limit of 8,000 is what it is written out

limited-accepted : {A : Type 0} (capture : List ℕ) (rest : Answer A) → accepted capture rest ≡ limited_accepted capture rest
unfolding accepted_to length_fits_to header_fits_to
limited-accepted capture rest = refl

-- Of every byte string, to the letter: what the judge answers,
pub judge-limited : (capture : List ℕ) → judge_answer capture ≡ limited_judge_answer capture
unfolding judge_answer_to
judge-limited capture = limited-accepted capture _

-- what a burst list answers and leaves,
pub cells-limited : (capture buffer : List ℕ) → cells_outcome capture buffer ≡ limited_cells_outcome capture buffer
unfolding cells_outcome
cells-limited capture buffer = ap (λ (a : Answer (List ℕ)). leaves a buffer) (limited-accepted capture _)

-- and what a blanked capture answers and leaves.
pub blank-limited : (capture buffer : List ℕ) → blank_outcome capture buffer ≡ limited_blank_outcome capture buffer
unfolding blank_outcome
blank-limited capture buffer = ap (λ (a : Answer (List ℕ)). leaves a buffer) (limited-accepted capture _)

-- ---- recordings of bytes

-- no refusal behind the first has its number
never : (a b c : Option ℕ) → unless 2 a (unless 3 b (unless 4 c (answered (tt {0})))) ≡ refused 1 0 → ⊥
never none none none e = not-refused e
never none none (some p) e = let z : ◌≡◌ {A = ℕ} 4 1 = cc in omega arith
never none (some p) c e = let z : ◌≡◌ {A = ℕ} 3 1 = cc in omega arith
never (some p) b c e = let z : ◌≡◌ {A = ℕ} 2 1 = cc in omega arith

length-right : (recording : List ℕ) → Bytes recording → events_start (count_in recording) ≤ length recording → header_word recording 0 ≡ length recording →
    length_fits_to most_recorded recording ≡ true
unfolding length_fits_to
length-right recording bytes l e =
    rw (
      le-leb (capture_size (count_in recording) 0) (length recording) (omega arith),
      le-leb (length recording) (capture_size (count_in recording) most_recorded) (omega (arith, word_fits recording 0 bytes)),
      eq-eqb (header_word recording 0) (length recording) e,
    )

length-wrong : (recording : List ℕ) → (length recording < events_start (count_in recording)) ⊎ (header_word recording 0 ≡ length recording → ⊥) →
    length_fits_to most_recorded recording ≡ false
unfolding length_fits_to
length-wrong recording (inl l) = rw (lt-leb (capture_size (count_in recording) 0) (length recording) (omega arith))
length-wrong recording (inr n) = rw (ne_eqb (header_word recording 0) (length recording) n, and-false _)

-- Refused with 1 exactly where it is shorter than its header and settings, or not of its stated total.
pub recording-length : (recording : List ℕ) → Bytes recording →
    opened_to most_recorded recording ≡ refused 1 0 ↔
    ((length recording < events_start (count_in recording)) ⊎ (header_word recording 0 ≡ length recording → ⊥))
unfolding accepted_to
recording-length recording bytes = (
  λ e. go e (dec_lt (length recording) (events_start (count_in recording))),
  λ u. rw (length-wrong recording u),
)
  where
    go : opened_to most_recorded recording ≡ refused 1 0 → Dec (length recording < events_start (count_in recording)) →
        (length recording < events_start (count_in recording)) ⊎ (header_word recording 0 ≡ length recording → ⊥)
    go e (yes l) = inl l
    go e (no l) =
        inr
        (λ s.
        never (given 0 (not (header_fits_to most_recorded recording))) (bad_setting (setting_words recording))
        (bad_event (pin_limit recording) (event_bytes recording) (event_count recording)) (rw (length-right recording bytes (omega arith) s) at e))

-- Never with 2 for how many events its header counts: no word counts more than a recording may have.
pub recording-unlimited : (recording : List ℕ) → Bytes recording → event_count recording ≤ most_recorded
recording-unlimited recording bytes = omega (arith, word_fits recording 12 bytes)

-- No sum of a header wraps on a machine of 64 bits, whatever its words: 2^32 - 1 events behind sixteen settings.
pub sums-fit : (settings n : ℕ) → settings ≤ 16 → n ≤ most_recorded → capture_size settings n < 2 ^ 64
sums-fit settings n l m = omega arith

-- There are at most 536,870,901 events, and one less with sixteen settings: no word states the bytes of more.
pub recording-most : (recording : List ℕ) → Bytes recording → AcceptedTo most_recorded recording →
    (event_count recording ≤ 536870901) × (count_in recording ≡ 16 → event_count recording ≤ 536870900)
recording-most recording bytes open-to =
    let x = (accepted-sound recording open-to).sized in
    let w = word_fits recording 0 bytes in
    (omega (arith, x.size, x.stated, (count-range recording).0), λ e. omega (arith, x.size, x.stated))
