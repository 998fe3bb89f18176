-- How large the numbers of a line can be, and so the sums of a month.
use Prim.Native.Nat.{ℕ, zero, suc, ◌+◌, ◌*◌, ◌≤◌}
use mathlib.Core.Bool.{Bool, true, false, cond}
use mathlib.Core.List.{List, [], ◌∷◌}
use mathlib.Core.Path.{◌≡◌, refl, sym, ap, ◌∙◌}
use native.Mathlib.Nat.{mul-suc}
use native.Mathlib.Omega.{arith}
use lib.Dec.{eqb}
use lib.ListN.{length, take, drop, length-map}
use Rattle.reading.specs.Search.{count}
use Rattle.reading.specs.Capture.{most_events, header_word, event_count, edition_in, setting_words, event_bytes, event_at, events_of}
use Rattle.reading.specs.Settings.{settings_of}
use Rattle.reading.specs.Bursts.{reads}
use Rattle.reading.specs.Cells.{bursts_of, beats_by}
use Rattle.reading.specs.Schedule.{last_from}
use Rattle.reading.specs.Verdict as is
use Rattle.reading.specs.Answers.{Answer, refused, answered, Report, settings_in, verdict_in, judge_answer, judge_answer_to}
use Rattle.reading.specs.Month.{Line, Month, bursts_in, line_by, line_for, line_of, events_told, judged_told, sum_of, ends_stream, behind, month_from}
use Rattle.reading.proofs.Meaning.{verdict-broken}
use Rattle.settings.specs.Meaning.{held}
use Rattle.capture.specs.Calls.{Accepted}
use Rattle.capture.proofs.Accepted.{answered-in, accepted-sound, length-count}
use Rattle.capture.proofs.Opened.{Opened, opens}
use Rattle.cells.specs.Meaning.{bursts_on}
use Rattle.cells.proofs.Counting.{all-beats}
use Rattle.cells.proofs.Listing.{listable, clean-here}
use Rattle.cells.proofs.Room.{sixteen-each}
use Rattle.monthly.proofs.Lines.{verdict_told, last-low}

pub record Small (x : Line) : Type 0 where
  pub events : events_told x.answer ≤ 8000
  pub judged : judged_told x.answer ≤ 8000
  pub beats : x.read + x.written ≤ 128000
  pub cycles : x.cycles ≤ 4000000000

module _ (c : List ℕ) where
  -- accepted: its events are few, and as many as there are
  few : Accepted c → event_count c ≤ 8000
  few a = (accepted-sound c a).sized.few

  all-events : length (events_of c) ≡ event_count c
  unfolding events_of
  all-events = length-map (count 0 (event_count c)) (event_at (event_bytes c)) ∙ length-count 0 (event_count c)

  reported : {r : Report} → judge_answer c ≡ answered r →
      Accepted c × (r.events ≡ event_count c) × (r.judged ≡ is.judged_of (event_count c) (verdict_in c)) × (verdict_in c ≡ r.verdict)
  unfolding judge_answer_to verdict_told
  reported e =
      let (a, s) = answered-in most_events c _ e in
      (a, sym (ap events_told s), sym (ap judged_told s), ap verdict_told s)

  opened : Accepted c → Opened most_events c (held (edition_in c) (setting_words c)) (event_count c) (event_bytes c)
  opened a = opens a refl refl refl

  -- the bursts that the beats are counted of
  same : {settings bytes : List ℕ} {n : ℕ} → Opened most_events c settings n bytes → bursts_in c ≡ bursts_on (settings_of settings) bytes n
  same x = λ i. bursts_of (sym x.settings-are i) (sym x.events-are i)

  by-verdict : (r : Report) (v : is.Verdict) → r.verdict ≡ v → judge_answer c ≡ answered r → Small (line_by c r v)
  unfolding verdict_in
  by-verdict r is.clean f e =
      let (a, n, j, v) = reported e in
      let x = opened a in
      let k = clean-here x (v ∙ f) in
      record {
        events = omega (arith, n, few a);
        judged = omega (arith, j ∙ ap (is.judged_of (event_count c)) (v ∙ f), few a);
        beats = omega (
          arith,
          all-beats (held (edition_in c) (setting_words c)) (event_bytes c) (event_count c) (ap (beats_by reads) (same x)) (ap (beats_by (λ y. y.writes)) (same x)),
          sixteen-each (held (edition_in c) (setting_words c)) (event_bytes c) (event_count c) (listable x) k,
          few a,
        );
        cycles = omega (arith, last-low (event_bytes c) (event_count c) x.rise, ap (last_from 0) x.events-are);
      }
  by-verdict r (is.broken rule event cycle) f e =
      let (a, n, j, v) = reported e in
      let there = ((verdict-broken (settings_in c) (events_of c) rule event cycle).0 (v ∙ f)).there in
      record {
        events = omega (arith, n, few a);
        judged = omega (arith, j ∙ ap (is.judged_of (event_count c)) (v ∙ f), there, all-events, few a);
        beats = omega arith;
        cycles = omega arith;
      }

  -- of any bytes
  pub line_small : Small (line_of c)
  unfolding line_of
  line_small = go (judge_answer c) refl
    where
      go : (a : Answer Report) → judge_answer c ≡ a → Small (line_for c a)
      go (refused number place) e = record { events = omega arith; judged = omega arith; beats = omega arith; cycles = omega arith }
      go (answered r) e = by-verdict r r.verdict refl e

-- a month of at most so many captures
module _ (f : Line → ℕ) (most : ℕ) (each : (c : List ℕ) → f (line_of c) ≤ most) where
  pub within : (left : ℕ) (stream : List ℕ) → sum_of f (month_from left stream).lines ≤ most * left
  unfolding month_from sum_of
  within zero stream = omega arith
  within (suc left) stream =
      go (eqb (length stream) 0) (ends_stream x.answer) (each (take total stream)) (month_from left (drop total stream)) (within left (drop total stream))
    where
      total : ℕ
      total = header_word stream 0

      x : Line
      x = line_of (take total stream)

      go : (a b : Bool) → f x ≤ most → (m : Month) → sum_of f m.lines ≤ most * left →
          sum_of f
          (cond a (record { lines = []; ended = false; over = false })
          (cond b (record { lines = x ∷ []; ended = true; over = false }) (behind x m))).lines ≤ most * suc left
      go true b l m k = omega (arith, mul-suc most left)
      go false true l m k = omega (arith, l, mul-suc most left)
      go false false l m k = omega (arith, l, k, mul-suc most left)
