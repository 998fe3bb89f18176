-- Demand 3, for `schedule::schedule` on any settings, requests, row policy and buffer.
use Prim.Native.Nat.{ℕ, suc, ◌+◌, ◌*◌, ◌≤◌}
use mathlib.Core.Bool.{Bool, true, false, cond, not}
use mathlib.Core.List.{List, [], ◌∷◌, ◌++◌, append-nil, append_assoc}
use mathlib.Core.Option.{Option, none, some}
use mathlib.Core.Path.{◌≡◌, refl, sym, ap, ◌∙◌}
use native.Mathlib.Omega.{arith}
use lib.Dec.{eqb}
use lib.ListN.{length, take, drop, length-append}
use borrow.Author.Tests.{eqb-true, not-false}
use Rattle.reading.specs.Search.{given, every}
use Rattle.reading.specs.Mode.{BL}
use Rattle.reading.specs.Settings.{Settings, settings_of, bad_setting}
use Rattle.reading.specs.Capture.{Event, event_count, events_of}
use Rattle.reading.specs.Commands.{command_of}
use Rattle.reading.specs.Bursts.{Burst}
use Rattle.reading.specs.Cells.{bursts_of}
use Rattle.reading.specs.Rules.{placing}
use Rattle.reading.specs.Schedule.{Schedule, planned, late, active_pins, burst_pins, refresh_pins, when_served, policy_fits, bad_request, schedule_of, capture_of}
use Rattle.reading.specs.Memory.{Run, play, replay_bursts, replay, requested, plain}
use Rattle.reading.specs.Answers.{Answer, answered, leaves, fitting, when_planned, settings_in, judge_answer, schedule_outcome}
use Rattle.reading.proofs.Laws.{not-given}
use Rattle.capture.proofs.Outcome.{Wrote, not-answered, passed, fits, wrote}
use Rattle.memory.specs.Serving.{Sized, Serves, Each, nil, cons}
use Rattle.memory.specs.ClosedRows.{ruled, ruled_request, ruled_refresh, ruled_in_time, ruled_served, closed_from, closed_rows}
use Rattle.memory.proofs.Closed.{closed-as-before}
use Rattle.memory.proofs.Play.{serves-play}
use Rattle.plan.proofs.Ranged.{fourteen-old, ranged}
use Rattle.plan.proofs.Ready.{Planned, few-requests, requests-fit, schedule-is-plain}
use Rattle.plan.proofs.Captured.{all_clean, settings-fit, captured-settings, events-back, schedule-fits, schedule-clean}
use Rattle.std.specs.Prelude.{Ok}
use Rattle.demands.specs.Allowed.{Judged, says, tells_clean, Judges, Schedules}
use Rattle.demands.specs.Reads.{Played, silent, reads_of, joined, kept_beats, part_reads, all_beats, plain_reads}
use Rattle.demands.proofs.Judging.{judged-clean}

-- ---- what each read returns

module _ (s : Settings) where
  -- bursts that serve requests return, read by read, what the requests do
  serves-reads : Sized s → {xs : List Burst} {qs : List ℕ} → Each (Serves s) xs qs → (r : Run) → reads_of s (kept_beats xs) r ≡ reads_of s (all_beats s qs) r
  unfolding reads_of
  serves-reads f nil r = refl
  serves-reads f (cons {x = x} {y = q} {xs = xs} {ys = qs} v vs) r =
      let rest : reads_of s (kept_beats xs) (play s (2 * x.n) x r) ≡ reads_of s (all_beats s qs) (play s (BL s.mode) (requested s q) r) =
      ap (reads_of s (kept_beats xs)) (serves-play s f x q v r) ∙ serves-reads f vs (play s (BL s.mode) (requested s q) r) in
      λ i. cond (v.alike.writes i) (rest i) ((serves-play s f x q v (silent r) i).returned ∷ rest i)

  -- a burst returns its words behind those that were returned
  words-behind : (beats : ℕ) (x : Burst) (r : Run) → (play s beats x r).returned ≡ r.returned ++ cond x.writes [] (play s beats x (silent r)).returned
  unfolding play
  words-behind beats x r = go x.writes _ _ _ _ refl refl
    where
      go : (w : Bool) (a b c d : Run) → a.returned ≡ r.returned → b.returned ≡ r.returned ++ d.returned →
          (cond w a b).returned ≡ r.returned ++ cond w [] (cond w c d).returned
      go true a b c d e f = e ∙ sym (append-nil r.returned)
      go false a b c d e f = f

  joined-reads : (w : Bool) (words : List ℕ) (more : List (List ℕ)) → joined (cond w more (words ∷ more)) ≡ cond w [] words ++ joined more
  unfolding joined
  joined-reads true words more = refl
  joined-reads false words more = refl

  -- and so do the bursts behind it, one after another
  words-on : (x : Played) (r : Run) (more : List (List ℕ)) {last : List ℕ} →
      last ≡ (play s x.beats x.burst r).returned ++ joined more →
      last ≡ r.returned ++ joined (cond x.burst.writes more ((play s x.beats x.burst (silent r)).returned ∷ more))
  words-on x r more e =
      let own = cond x.burst.writes [] (play s x.beats x.burst (silent r)).returned in
      e ∙ ap (λ (ws : List ℕ). ws ++ joined more) (words-behind x.beats x.burst r) ∙ append_assoc r.returned own (joined more)
      ∙ ap (λ (ws : List ℕ). r.returned ++ ws) (sym (joined-reads x.burst.writes (play s x.beats x.burst (silent r)).returned more))

  bursts-return : (xs : List Burst) (r : Run) → (replay_bursts s xs r).returned ≡ r.returned ++ joined (reads_of s (kept_beats xs) r)
  unfolding replay_bursts reads_of joined
  bursts-return [] r = sym (append-nil r.returned)
  bursts-return (x ∷ xs) r =
      let next = play s (2 * x.n) x r in words-on (record { beats = 2 * x.n; burst = x }) r (reads_of s (kept_beats xs) next) (bursts-return xs next)

  requests-return : (qs : List ℕ) (r : Run) → (plain s qs r).returned ≡ r.returned ++ joined (reads_of s (all_beats s qs) r)
  unfolding plain reads_of joined
  requests-return [] r = sym (append-nil r.returned)
  requests-return (q ∷ qs) r =
      let next = play s (BL s.mode) (requested s q) r in
      words-on (record { beats = BL s.mode; burst = requested s q }) r (reads_of s (all_beats s qs) next) (requests-return qs next)

-- What a part returns is the words of its reads, one read after the other; so it is of the plain memory.
pub part-returns-reads : (s : Settings) (es : List Event) (r : Run) → (replay s es r).returned ≡ r.returned ++ joined (part_reads s es r)
unfolding replay
part-returns-reads s es r = bursts-return s (bursts_of s es) r

pub plain-returns-reads : (s : Settings) (qs : List ℕ) (r : Run) → (plain s qs r).returned ≡ r.returned ++ joined (plain_reads s qs r)
plain-returns-reads = requests-return

-- ---- how many events there are where rows are closed

module _ (rs : List ℕ) (s : Settings) where
  one_more : (es : List Event) (pins : ℕ) → length (ruled rs s es pins) ≡ length es + 1
  one_more es pins = length-append es _

  request-two : (es : List Event) (q : ℕ) → length (ruled_request rs s es q) ≡ length es + 2
  unfolding ruled_request
  request-two es q =
      let first = ruled rs s es (active_pins s q) in omega (arith, one_more es (active_pins s q), one_more first (burst_pins true s q))

  refresh-one : (es : List Event) → length (ruled_refresh rs s es) ≡ length es + 1
  unfolding ruled_refresh
  refresh-one es = one_more es refresh_pins

  served-three : (es : List Event) (q : ℕ) (next : List Event) → ruled_served rs s es q ≡ some next → length next ≤ length es + 3
  unfolding ruled_served
  served-three es q next = go (ruled_in_time rs s alone) (ruled_in_time rs s behind)
    where
      alone : List Event
      alone = ruled_request rs s es q

      behind : List Event
      behind = ruled_request rs s (ruled_refresh rs s es) q

      go : (v w : Bool) → cond v (some alone) (cond w (some behind) none) ≡ some next → length next ≤ length es + 3
      go true w e = let z : alone ≡ next = cc in omega (arith, ap length z, request-two es q)
      go false true e = let z : behind ≡ next = cc in omega (arith, ap length z, request-two (ruled_refresh rs s es) q, refresh-one es)
      go false false e = let z : ◌≡◌ {A = ℕ} 0 1 = cc in absurd (omega arith)

  closed-three : (es : List Event) (i : ℕ) (qs : List ℕ) (last : List Event) → closed_from rs s es i qs ≡ planned last → length last ≤ length es + 3 * length qs
  unfolding closed_from
  closed-three es i [] last e = let z : es ≡ last = cc in omega (arith, ap length z)
  closed-three es i (q ∷ qs) last e = go (ruled_served rs s es q) refl e (λ next k. closed-three next (suc i) qs last k)
    where
      go : (x : Option (List Event)) → ruled_served rs s es q ≡ x → when_served x (λ next. closed_from rs s next (suc i) qs) i ≡ planned last →
          ((next : List Event) → closed_from rs s next (suc i) qs ≡ planned last → length last ≤ length next + 3 * length qs) →
          length last ≤ length es + 3 * length (q ∷ qs)
      go none k f ih = let z : ◌≡◌ {A = ℕ} 0 1 = cc in absurd (omega arith)
      go (some next) k f ih = omega (arith, ih next f, served-three es q next k)

-- what stands behind a schedule that was written
record Written (ws qs : List ℕ) (policy : ℕ) (out : List ℕ) (n : ℕ) : Type 0 where
  pub events : List Event
  pub fourteen : length ws ≡ 14
  pub settings : bad_setting ws ≡ none
  pub requests : bad_request (settings_of ws) qs ≡ none
  pub schedule : schedule_of (settings_of ws) policy qs ≡ planned events
  pub bytes : take n (schedule_outcome ws qs policy out).buffer ≡ capture_of ws events
  pub behind : drop n (schedule_outcome ws qs policy out).buffer ≡ drop n out

module _ (ws qs : List ℕ) (policy : ℕ) (out : List ℕ) (n : ℕ) (e : (schedule_outcome ws qs policy out).answer ≡ answered n) where
  written : Written ws qs policy out n
  unfolding schedule_outcome
  written =
      let w = wrote _ out e in
      let (count, rest-2) = passed 2 (given 0 (not (eqb (length ws) 14))) _ w.is in
      let (each, rest-3) = passed 3 (bad_setting ws) _ rest-2 in
      let (known, rest-10) = passed 10 (given 0 (not (policy_fits policy))) _ rest-3 in
      let (asked, rest-5) = passed 5 (bad_request (settings_of ws) qs) _ rest-10 in
      let l : length ws ≡ 14 = eqb-true (length ws) 14 (not-false (eqb (length ws) 14) (not-given 0 _ count)) in
      go l each asked w (schedule_of (settings_of ws) policy qs) refl rest-5 refl
    where
      go : {x : Answer (List ℕ)} → length ws ≡ 14 → bad_setting ws ≡ none → bad_request (settings_of ws) qs ≡ none → (w : Wrote x out n) →
          (p : Schedule) → schedule_of (settings_of ws) policy qs ≡ p → when_planned p (λ es. fitting out (capture_of ws es)) ≡ answered w.list →
          (leaves x out).buffer ≡ (schedule_outcome ws qs policy out).buffer → Written ws qs policy out n
      go l b r w (late i) s h f = not-answered h
      go l b r w (planned es) s h f =
          record {
            events = es;
            fourteen = l;
            settings = b;
            requests = r;
            schedule = s;
            bytes = ap (take n) (sym f) ∙ w.front ∙ sym (fits out (capture_of ws es) h).0;
            behind = ap (drop n) (sym f) ∙ w.behind;
          }

  abbrev capture : List ℕ
  capture = take n (schedule_outcome ws qs policy out).buffer

  outcome-clean : judge_answer capture ≡ answered (all_clean written.events)
  outcome-clean =
      rw written.bytes (schedule-clean ws qs written.fourteen written.settings written.requests policy written.events written.schedule)

  abbrev es : List Event
  es = written.events

  l : length ws ≡ 14
  l = written.fourteen

  y : Planned (settings_of ws) qs es
  y = schedule-fits ws qs l written.settings written.requests policy es written.schedule

  few : length es ≤ 8000
  few = omega (arith, y.few, few-requests (settings_of ws) qs written.requests)

  outcome-events : events_of capture ≡ es
  outcome-events = rw written.bytes (events-back ws es l written.settings few y.rises y.low y.early)

  outcome-memory : (r : Run) → replay (settings_in capture) (events_of capture) r ≡ plain (settings_of ws) qs r
  outcome-memory r =
      rw (outcome-events, written.bytes, captured-settings ws es l written.settings few y.rises y.low y.early)
      (schedule-is-plain (ranged ws (settings-fit ws written.fourteen written.settings) (fourteen-old ws written.fourteen)) y r)

  outcome-reads : (r : Run) → part_reads (settings_in capture) (events_of capture) r ≡ plain_reads (settings_of ws) qs r
  outcome-reads r =
      rw (outcome-events, written.bytes, captured-settings ws es l written.settings few y.rises y.low y.early)
      (serves-reads (settings_of ws) (ranged ws (settings-fit ws written.fourteen written.settings) (fourteen-old ws written.fourteen)).sized y.serves r)

  outcome-awake : every (λ x. not (command_of x.pins).low) (events_of capture) ≡ true
  outcome-awake = rw outcome-events y.never-sleeps.high

-- Demand 3: what was written is a capture that the judge calls clean, with every event judged.
pub schedule-is-clean : (ws qs : List ℕ) (policy : ℕ) (out left : List ℕ) (n : ℕ) → Schedules ws qs policy out (Ok n) left →
    (r : Judged) → Judges (take n left) r → says r ≡ tells_clean (event_count (take n left)) (event_count (take n left))
schedule-is-clean ws qs policy out left n allowed r a =
    let e = sym allowed.0 in
    judged-clean (take n left) (length (written ws qs policy out n e).events) r a
    (ap (λ b. judge_answer (take n b)) allowed.1 ∙ outcome-clean ws qs policy out n e)

-- Demand 3: for any starting contents, any words and masks, a part run by what was written returns the words, and ends
-- with the contents, of a plain memory that does the requests one after another.
pub schedule-is-memory : (ws qs : List ℕ) (policy : ℕ) (out left : List ℕ) (n : ℕ) → Schedules ws qs policy out (Ok n) left →
    (r : Run) → replay (settings_in (take n left)) (events_of (take n left)) r ≡ plain (settings_of ws) qs r
schedule-is-memory ws qs policy out left n allowed r =
    ap (λ b. replay (settings_in (take n b)) (events_of (take n b)) r) allowed.1 ∙ outcome-memory ws qs policy out n (sym allowed.0) r

-- Read by read: it has as many reads as the plain memory, and the words of the i-th are those of the plain memory's i-th.
pub schedule-reads-alike : (ws qs : List ℕ) (policy : ℕ) (out left : List ℕ) (n : ℕ) → Schedules ws qs policy out (Ok n) left →
    (r : Run) → part_reads (settings_in (take n left)) (events_of (take n left)) r ≡ plain_reads (settings_of ws) qs r
schedule-reads-alike ws qs policy out left n allowed r =
    ap (λ b. part_reads (settings_in (take n b)) (events_of (take n b)) r) allowed.1 ∙ outcome-reads ws qs policy out n (sym allowed.0) r

-- A schedule has at most four events a request.
pub schedule-is-short : (ws qs : List ℕ) (policy : ℕ) (out left : List ℕ) (n : ℕ) → Schedules ws qs policy out (Ok n) left →
    length (events_of (take n left)) ≤ 4 * length qs
schedule-is-short ws qs policy out left n allowed =
    let e = sym allowed.0 in
    rw (allowed.1, outcome-events ws qs policy out n e) (y ws qs policy out n e).few

-- With closed rows it has at most three.
pub closed-is-shorter : (ws qs out left : List ℕ) (n : ℕ) → Schedules ws qs 1 out (Ok n) left →
    length (events_of (take n left)) ≤ 3 * length qs
unfolding closed_rows
closed-is-shorter ws qs out left n allowed =
    let e = sym allowed.0 in
    let s = settings_of ws in
    let w = written ws qs 1 out n e in
    let sized = (ranged ws (settings-fit ws w.fourteen w.settings) (fourteen-old ws w.fourteen)).sized in
    let closed : closed_rows placing s qs ≡ planned w.events =
    sym (closed-as-before placing s sized qs (requests-fit s qs w.requests)) ∙ w.schedule in
    let few : length w.events ≤ 3 * length qs = omega (arith, closed-three placing s [] 0 qs w.events closed) in
    rw (allowed.1, outcome-events ws qs 1 out n e) few

-- A schedule never sleeps: CKE is high at each of its events.
pub schedule-never-sleeps : (ws qs : List ℕ) (policy : ℕ) (out left : List ℕ) (n : ℕ) → Schedules ws qs policy out (Ok n) left →
    every (λ x. not (command_of x.pins).low) (events_of (take n left)) ≡ true
schedule-never-sleeps ws qs policy out left n allowed =
    ap (λ b. every (λ x. not (command_of x.pins).low) (events_of (take n b))) allowed.1 ∙ outcome-awake ws qs policy out n (sym allowed.0)

-- Bytes of the buffer behind the schedule stay.
pub bytes-behind-stay : (ws qs : List ℕ) (policy : ℕ) (out left : List ℕ) (n : ℕ) → Schedules ws qs policy out (Ok n) left →
    drop n left ≡ drop n out
bytes-behind-stay ws qs policy out left n allowed = ap (drop n) allowed.1 ∙ (written ws qs policy out n (sym allowed.0)).behind
