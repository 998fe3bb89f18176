-- From what the judge says of a capture to its line.
use Prim.Native.Nat.{ℕ, zero, suc, ◌+◌, ◌-◌, ◌*◌, ◌≤◌, ◌<◌}
use mathlib.Core.Bool.{true}
use mathlib.Core.List.{List, map}
use mathlib.Core.Path.{◌≡◌, refl, sym, ap, ◌∙◌}
use native.Mathlib.Nat.{add-zero, zero-add, add-suc, suc-add}
use native.Mathlib.Omega.{arith}
use Rattle.reading.specs.Search.{count}
use Rattle.reading.specs.Settings.{settings_of}
use Rattle.reading.specs.Capture.{Event, most_events, event_at, events_of, last_cycle, cycle_fits}
use Rattle.reading.specs.Bursts.{reads}
use Rattle.reading.specs.Cells.{bursts_of, beats_by}
use Rattle.reading.specs.Schedule.{last_from}
use Rattle.reading.specs.Verdict as is
use Rattle.reading.specs.Answers.{Answer, refused, answered, Report, settings_in, judge_answer}
use Rattle.reading.specs.Month as month
use Rattle.reading.specs.Month.{unused, line_for, line_of, events_told, ends_stream}
use Rattle.std.specs.Prelude.{Result, Ok, Err}
use Rattle.refusal.specs.declared.Refusal.{Refusal}
use Rattle.refusal.specs.Refusal.{told}
use Rattle.capture.proofs.Accepted.{cycle-fits}
use Rattle.capture.proofs.Opened.{Opened}
use Rattle.rules.specs.declared.Rule.{Rule}
use Rattle.judge.specs.declared.Verdict.{Verdict}
use Rattle.judge.specs.declared.Verdict.TheVariants.{Clean, Broken}
use Rattle.judge.specs.Meaning.{report_of, events_in}
use Rattle.cells.specs.Meaning.{bursts_on}

-- ---- one that is not clean

module _ (c : List ℕ) {v : Result Verdict Refusal} (said : told report_of v ≡ judge_answer c) where
  pub refused-line : {r : Refusal} → v ≡ Err r → unused (told report_of v) ≡ line_of c
  unfolding line_of
  refused-line is = let same = ap (told report_of) is in ap unused same ∙ ap (line_for c) (sym same ∙ said)

  pub broken-line : {events judged event cycle : ℕ} {rule : Rule} → v ≡ Ok (Broken events judged rule event cycle) → unused (told report_of v) ≡ line_of c
  unfolding line_of
  broken-line is = let same = ap (told report_of) is in ap unused same ∙ ap (line_for c) (sym same ∙ said)

-- ---- a clean one

unfoldable pub verdict_told : Answer Report → is.Verdict
verdict_told (refused number place) = is.clean
verdict_told (answered r) = r.verdict

abbrev pub report : ℕ → ℕ → Answer Report
report events judged = answered (record { events = events; judged = judged; verdict = is.clean })

module _ (c : List ℕ) {v : Result Verdict Refusal} {w : Verdict} {events judged : ℕ} (is : v ≡ Ok w) (clean : w ≡ Clean events judged) where
  pub reported : told report_of v ≡ report events judged
  reported = ap (told report_of) (is ∙ ap Ok clean)

  pub said-clean : told report_of v ≡ judge_answer c → report events judged ≡ judge_answer c
  said-clean said = sym reported ∙ said

module _ {c settings : List ℕ} {n : ℕ} {bytes : List ℕ} (x : Opened most_events c settings n bytes) where
  pub line-so : {events judged read written cycles : ℕ} → report events judged ≡ judge_answer c →
      read ≡ beats_by reads (bursts_on (settings_of settings) bytes n) →
      written ≡ beats_by (λ y. y.writes) (bursts_on (settings_of settings) bytes n) → cycles ≡ 2 * last_from 0 (events_in bytes n) →
      ◌≡◌ {A = month.Line} (record { answer = report events judged; read = read; written = written; cycles = cycles }) (line_of c)
  unfolding line_of
  line-so {events = events} {judged = judged} said r w t =
      (λ i.
      record {
        answer = report events judged;
        read = (r ∙ (λ j. beats_by reads (same j))) i;
        written = (w ∙ (λ j. beats_by (λ y. y.writes) (same j))) i;
        cycles = (t ∙ (λ j. 2 * last_from 0 (x.events-are j))) i;
      })
      ∙ ap (line_for c) said
    where
      same : bursts_on (settings_of settings) bytes n ≡ bursts_of (settings_in c) (events_of c)
      same = λ j. bursts_of (x.settings-are j) (x.events-are j)

-- ---- the last event

last_of : (f : ℕ → Event) (t from n : ℕ) → last_from t (map f (count from (suc n))) ≡ (f (from + n)).cycle
unfolding last_from
last_of f t from zero = ap (λ (k : ℕ). (f k).cycle) (sym (add-zero from))
last_of f t from (suc n) = last_of f (f from).cycle (suc from) n ∙ ap (λ (k : ℕ). (f k).cycle) (suc-add from n ∙ sym (add-suc from n))

pub last-is : (bytes : List ℕ) (n : ℕ) → 0 < n → last_from 0 (events_in bytes n) ≡ (event_at bytes (n - 1)).cycle
last-is bytes zero l = absurd (omega arith)
last-is bytes (suc n) l =
    let e : 0 + n ≡ suc n - 1 = omega arith in last_of (event_at bytes) 0 0 n ∙ ap (λ (k : ℕ). (event_at bytes k).cycle) e

pub none_last : (bytes : List ℕ) (n : ℕ) → n ≡ 0 → 0 ≡ 2 * last_from 0 (events_in bytes n)
unfolding last_from
none_last bytes zero e = refl
none_last bytes (suc n) e = absurd (omega (arith, e))

pub last-low : (bytes : List ℕ) (n : ℕ) → ((i : ℕ) → i < n → cycle_fits bytes i ≡ true) → last_from 0 (events_in bytes n) ≤ last_cycle
unfolding last_from
last-low bytes zero f = omega arith
last-low bytes (suc n) f = omega (arith, last_of (event_at bytes) 0 0 n, ap (λ (k : ℕ). (event_at bytes k).cycle) (zero-add n), cycle-fits bytes n (f n (omega arith)))
