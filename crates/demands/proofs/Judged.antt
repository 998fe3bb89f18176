-- The judged events of a capture are a capture of their own, accepted and clean: so whatever asks for a clean capture can be
-- asked about those of a broken one. With fourteen settings and with sixteen, of either edition.
use Prim.Native.Nat.{ℕ, ◌≤◌, ◌<◌}
use mathlib.Core.List.{List}
use mathlib.Core.Path.{◌≡◌, ap, ◌∙◌}
use native.Mathlib.Omega.{arith}
use lib.ListN.{length, take, length-take}
use lib.Seq.{get_or-take, take-take, take-length}
use Rattle.reading.specs.Settings.{Settings}
use Rattle.reading.specs.Capture.{Event, event_count, edition_in, setting_words, events_of}
use Rattle.reading.specs.Part.{start}
use Rattle.reading.specs.Schedule.{capture_in}
use Rattle.reading.specs.Verdict as is
use Rattle.reading.specs.Answers.{Answer, Report, answered, settings_in}
use Rattle.reading.proofs.Meaning.{Unbroken, verdict-clean}
use Rattle.words.proofs.Bytes.{Bytes}
use Rattle.capture.proofs.Whole as whole
use Rattle.capture.proofs.Whole.{Whole}
use Rattle.demands.specs.Allowed.{Judged, says, tells_clean, tells_broken, Judges}
use Rattle.demands.specs.Refused.{Accepted}
use Rattle.demands.specs.Judged.{first_events}
use Rattle.demands.proofs.Judging.{broken-means-broken}

-- events that break no rule break none by themselves
first-unbroken : (s : Settings) (es : List Event) (k : ℕ) → k ≤ length es → Unbroken s (start s) es k → is.verdict_of s (take k es) ≡ is.clean
first-unbroken s es k l u = (verdict-clean s (take k es)).1 first
  where
    first : Unbroken s (start s) (take k es) (length (take k es))
    first i m =
        let n : i < k = omega (arith, length-take k es) in
        rw (take-take i k es (omega arith), get_or-take k es i (record { cycle = 0; pins = 0 }) n) (u i n)

module _ (capture : List ℕ) (open-to : Accepted capture) (k : ℕ) (l : k ≤ length (events_of capture)) where
  first-whole : Whole (edition_in capture) (setting_words capture) (take k (events_of capture))
  first-whole =
      let w = whole.accepted-whole capture open-to in
      record { known = w.known; all = w.all; right = w.right; orderly = whole.first-orderly k (events_of capture) l w.orderly }

  first-judged : Unbroken (settings_in capture) (start (settings_in capture)) (events_of capture) k → (q : Judged) → Judges (first_events k capture) q →
      says q ≡ tells_clean k k
  first-judged u q a =
      a ∙ whole.captured-judged first-whole
      ∙ ap (λ (v : is.Verdict). report (length (take k (events_of capture))) v) (first-unbroken (settings_in capture) (events_of capture) k l u)
      ∙ ap (λ (n : ℕ). report n is.clean) size
    where
      report : ℕ → is.Verdict → Answer Report
      report n v = answered (record { events = n; judged = is.judged_of n v; verdict = v })

      size : length (take k (events_of capture)) ≡ k
      size = simp length-take (omega arith)

-- The first events of an accepted capture are accepted, and are these events, under the same settings and edition.
pub first-accepted : (capture : List ℕ) → Accepted capture → (k : ℕ) → k ≤ length (events_of capture) → Accepted (first_events k capture)
first-accepted capture open-to k l = whole.captured (first-whole capture open-to k l) (answered tt)

pub first-settings : (capture : List ℕ) → Accepted capture → (k : ℕ) → k ≤ length (events_of capture) →
    settings_in (first_events k capture) ≡ settings_in capture
first-settings capture open-to k l = whole.captured-settings (first-whole capture open-to k l)

pub first-events : (capture : List ℕ) → Accepted capture → (k : ℕ) → k ≤ length (events_of capture) →
    events_of (first_events k capture) ≡ take k (events_of capture)
first-events capture open-to k l = whole.events-back (first-whole capture open-to k l)

module _ (capture : List ℕ) (open-to : Accepted capture) (rule event cycle : ℕ)
    (r : Judged) (allowed : Judges capture r) (broken : says r ≡ tells_broken (event_count capture) event rule event cycle) where
  before : Unbroken (settings_in capture) (start (settings_in capture)) (events_of capture) event × (event ≤ length (events_of capture))
  before =
      let b = (broken-means-broken capture open-to r allowed rule event cycle).0 broken in
      (b.before, omega (arith, b.there))

-- The judged events of a broken capture, as a capture of their own, are accepted and clean, every one of them judged.
pub judged-accepted : (capture : List ℕ) → Accepted capture → (rule event cycle : ℕ) →
    (r : Judged) → Judges capture r → says r ≡ tells_broken (event_count capture) event rule event cycle → Accepted (first_events event capture)
judged-accepted capture open-to rule event cycle r allowed broken =
    first-accepted capture open-to event (before capture open-to rule event cycle r allowed broken).1

pub judged-are-clean : (capture : List ℕ) → Accepted capture → (rule event cycle : ℕ) →
    (r : Judged) → Judges capture r → says r ≡ tells_broken (event_count capture) event rule event cycle →
    (q : Judged) → Judges (first_events event capture) q → says q ≡ tells_clean event event
judged-are-clean capture open-to rule event cycle r allowed broken =
    let (none, few) = before capture open-to rule event cycle r allowed broken in first-judged capture open-to event few none

-- All events of an accepted capture are the capture itself.
pub all-events : (capture : List ℕ) → Bytes capture → Accepted capture → first_events (length (events_of capture)) capture ≡ capture
all-events capture bytes open-to =
    ap (capture_in (edition_in capture) (setting_words capture)) (take-length (events_of capture)) ∙ whole.whole_again capture open-to bytes
