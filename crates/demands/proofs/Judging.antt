-- Demands 1 and 2, for `judge::judge` on any bytes.
use Prim.Native.Nat.{ℕ, zero, suc, ◌^◌, ◌<◌}
use mathlib.Core.Bool.{Bool, true, false, cond, not, and-eq-true_iff}
use mathlib.Core.List.Memᴰ
use mathlib.Core.List.{List, [], ◌∷◌, Memᴰ}
use mathlib.Core.Logic.{◌↔◌, ◌⊎◌, inl, inr}
use mathlib.Core.Path.{◌≡◌, refl, sym, ap, ◌∙◌}
use native.Mathlib.Nat.{zero-add}
use native.Mathlib.Omega.{arith}
use lib.Dec.{eqb}
use lib.ListN.{length, length-map}
use Rattle.reading.specs.Search.{every, count}
use Rattle.reading.specs.Settings.{Settings}
use Rattle.reading.specs.Capture.{Event, most_events, header_word, event_count, event_bytes, event_at, events_of, pin_limit}
use Rattle.reading.specs.Commands.{command_of}
use Rattle.reading.specs.Sleep.{sleep_at_start}
use Rattle.reading.specs.Part.{Part, start, step}
use Rattle.reading.specs.Rules.{rules, rule15}
use Rattle.reading.specs.Verdict as is
use Rattle.reading.specs.Answers.{Answer, refused, answered, settings_in, verdict_in, judge_answer, judge_answer_to, Report}
use Rattle.reading.proofs.Meaning.{event_of, part_before, verdict-clean, verdict-broken}
use Rattle.words.proofs.Counting.{at_count}
use Rattle.capture.specs.Calls.{AcceptedTo, Accepted}
use Rattle.capture.proofs.Accepted.{rest-to, answered-in, accepted-sound, length-count}
use Rattle.plan.proofs.Awake.{cke-high, awake-allowed, awake-stays}
use Rattle.judge.proofs.Unique.{one_verdict}
use Rattle.demands.specs.Allowed.{Judged, says, tells_clean, tells_broken, JudgesTo, Judges}
use Rattle.demands.specs.Refused.{Clean, Broken}

-- where there may be any number of events
pub one-answer-to : (most : ℕ) (capture : List ℕ) (r q : Judged) → JudgesTo most capture r → JudgesTo most capture q → r ≡ q
one-answer-to most capture r q a b = one_verdict r q (a ∙ sym b)

-- Demand 1: one answer for every byte string. Any two results that the contract allows are equal.
pub one_answer : (capture : List ℕ) (r q : Judged) → Judges capture r → Judges capture q → r ≡ q
one_answer = one-answer-to most_events

-- a capture whose every event was judged and kept the rules, of however many events
pub judged-clean : (capture : List ℕ) (n : ℕ) (r : Judged) → Judges capture r → judge_answer capture ≡ tells_clean n n →
    says r ≡ tells_clean (event_count capture) (event_count capture)
unfolding judge_answer_to
judged-clean capture n r a h =
    a ∙ h ∙ ap (λ (k : ℕ). tells_clean k k) (sym (ap events_of_answer (answered-in most_events capture _ h).1))
  where
    events_of_answer : Answer Report → ℕ
    events_of_answer (refused number place) = 0
    events_of_answer (answered r) = r.events

verdict_of_answer : Answer Report → is.Verdict
verdict_of_answer (refused number place) = is.clean
verdict_of_answer (answered r) = r.verdict

module _ (most : ℕ) (capture : List ℕ) (open-to : AcceptedTo most capture) (r : Judged) (allowed : JudgesTo most capture r) where
  abbrev s : Settings
  s = settings_in capture

  abbrev es : List Event
  es = events_of capture

  abbrev report : is.Verdict → Answer Report
  report v = answered (record { events = event_count capture; judged = is.judged_of (event_count capture) v; verdict = v })

  -- what is reported is the verdict on the events
  reported : says r ≡ report (is.verdict_of s es)
  unfolding judge_answer_to verdict_in
  reported = allowed ∙ rest-to most capture _ open-to

  verdict-is : (v : is.Verdict) → says r ≡ report v ↔ is.verdict_of s es ≡ v
  unfolding verdict_of_answer
  verdict-is v = (λ e. ap verdict_of_answer (sym reported ∙ e), λ e. reported ∙ ap report e)

pub through : {A B C : Type 0} → A ↔ B → B ↔ C → A ↔ C
through p q = (λ a. q.0 (p.0 a), λ c. p.1 (q.1 c))

pub clean-to : (most : ℕ) (capture : List ℕ) → AcceptedTo most capture → (r : Judged) → JudgesTo most capture r →
    says r ≡ tells_clean (event_count capture) (event_count capture) ↔ Clean capture
clean-to most capture open-to r allowed =
    through (verdict-is most capture open-to r allowed is.clean) (verdict-clean (settings_in capture) (events_of capture))

pub broken-to : (most : ℕ) (capture : List ℕ) → AcceptedTo most capture → (r : Judged) → JudgesTo most capture r → (rule event cycle : ℕ) →
    says r ≡ tells_broken (event_count capture) event rule event cycle ↔ Broken capture rule event cycle
broken-to most capture open-to r allowed rule event cycle =
    through (verdict-is most capture open-to r allowed (is.broken rule event cycle))
    (verdict-broken (settings_in capture) (events_of capture) rule event cycle)

-- Demand 2: clean exactly when every event, after the events before it, breaks no rule; and then all were judged.
pub clean-means-clean : (capture : List ℕ) → Accepted capture → (r : Judged) → Judges capture r →
    says r ≡ tells_clean (event_count capture) (event_count capture) ↔ Clean capture
clean-means-clean = clean-to most_events

-- Demand 2: else the first event that breaks a rule, the lowest rule that it breaks, its cycle, and as many judged as stand before it.
pub broken-means-broken : (capture : List ℕ) → Accepted capture → (r : Judged) → Judges capture r → (rule event cycle : ℕ) →
    says r ≡ tells_broken (event_count capture) event rule event cycle ↔ Broken capture rule event cycle
broken-means-broken = broken-to most_events

-- ---- rules that are never told

-- what is told of an event is so, whatever is told of the counts
told-broken : (most : ℕ) (capture : List ℕ) → AcceptedTo most capture → (r : Judged) → JudgesTo most capture r →
    {events judged rule event cycle : ℕ} → says r ≡ tells_broken events judged rule event cycle → Broken capture rule event cycle
unfolding verdict_of_answer
told-broken most capture open-to r a {events} {judged} {rule} {event} {cycle} e =
    (verdict-broken (settings_in capture) (events_of capture) rule event cycle).0
    (ap verdict_of_answer (sym (reported most capture open-to r a) ∙ e))

among : {r : ℕ} (f : ℕ → Bool) (rs : List ℕ) → every f rs ≡ true → Memᴰ r rs → f r ≡ true
among f [] e m = absurd (Memᴰ.not-nil m)
among {r} f (x ∷ xs) e m = let (first, rest) = (and-eq-true_iff (f x) (every f xs)).0 e in go first (among f xs rest) (Memᴰ.cases_cons m)
  where
    go : f x ≡ true → (Memᴰ r xs → f r ≡ true) → (r ≡ x) ⊎ Memᴰ r xs → f r ≡ true
    go first ih (inl p) = ap f p ∙ first
    go first ih (inr n) = ih n

pub never-6-to : (most : ℕ) (capture : List ℕ) → AcceptedTo most capture → (r : Judged) → JudgesTo most capture r →
    (events judged event cycle : ℕ) → says r ≡ tells_broken events judged 6 event cycle → ⊥
never-6-to most capture open-to r a events judged event cycle b =
    let z : not (eqb 6 6) ≡ true = among (λ (x : ℕ). not (eqb x 6)) rules refl (told-broken most capture open-to r a b).breaks.rule in
    let n : ◌≡◌ {A = ℕ} 0 1 = cc in absurd (omega arith)

-- No accepted capture is told to break rule 6.
pub never-rule-6 : (capture : List ℕ) → Accepted capture → (r : Judged) → Judges capture r →
    (events judged event cycle : ℕ) → says r ≡ tells_broken events judged 6 event cycle → ⊥
never-rule-6 = never-6-to most_events

-- a part that never slept stays awake through events with CKE high
awake-run : (s : Settings) (p : Part) → p.sleep ≡ sleep_at_start → (es : List Event) → ((j : ℕ) → j < length es → (event_of es j).pins < 2 ^ 20) →
    (i : ℕ) → (part_before s p es i).sleep ≡ sleep_at_start
awake-run s p e es f zero = e
awake-run s p e [] f (suc i) = e
awake-run s p e (x ∷ es) f (suc i) =
    awake-run s (step s p x) (awake-stays s p e x.cycle (command_of x.pins) (cke-high x.pins (f 0 (omega arith)))) es (λ j l. f (suc j) (omega arith)) i

-- the events of a capture with fourteen settings
pins-below : (most : ℕ) (capture : List ℕ) → AcceptedTo most capture → header_word capture 1 ≡ 14 → (j : ℕ) → j < length (events_of capture) →
    (event_of (events_of capture) j).pins < 2 ^ 20
unfolding events_of
pins-below most capture open-to e j l =
    let n : length (events_of capture) ≡ event_count capture = length-map (count 0 (event_count capture)) (event_at (event_bytes capture)) ∙ length-count 0 (event_count capture) in
    let within : j < event_count capture = omega (arith, n, l) in
    let there : event_of (events_of capture) j ≡ event_at (event_bytes capture) j =
    at_count (event_at (event_bytes capture)) (record { cycle = 0; pins = 0 }) 0 (event_count capture) j within ∙ ap (event_at (event_bytes capture)) (zero-add j) in
    let limit : pin_limit capture ≡ 2 ^ 20 = ap (λ (k : ℕ). cond (eqb k 16) (2 ^ 21) (2 ^ 20)) e in
    rw (there, ← limit) ((accepted-sound capture open-to).pins j within)

pub never-15-to : (most : ℕ) (capture : List ℕ) → AcceptedTo most capture → header_word capture 1 ≡ 14 → (r : Judged) → JudgesTo most capture r →
    (events judged event cycle : ℕ) → says r ≡ tells_broken events judged 15 event cycle → ⊥
never-15-to most capture open-to fourteen r a events judged event cycle e =
    let b = told-broken most capture open-to r a e in
    let s = settings_in capture in
    let es = events_of capture in
    let pins = pins-below most capture open-to fourteen in
    let x = event_of es event in
    let kept : rule15 s (part_before s (start s) es event) x.cycle (command_of x.pins) ≡ true =
    awake-allowed s (part_before s (start s) es event) (awake-run s (start s) refl es pins event) x.cycle (command_of x.pins)
    (cke-high x.pins (pins event b.there)) in
    let z : true ≡ false = sym kept ∙ b.breaks.breaks in
    let n : ◌≡◌ {A = ℕ} 0 1 = cc in absurd (omega arith)

-- With fourteen settings no accepted capture is told to break rule 15.
pub never-rule-15 : (capture : List ℕ) → Accepted capture → header_word capture 1 ≡ 14 → (r : Judged) → Judges capture r →
    (events judged event cycle : ℕ) → says r ≡ tells_broken events judged 15 event cycle → ⊥
never-rule-15 = never-15-to most_events
