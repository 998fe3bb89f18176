-- A schedule between two requests; the schedule of requests that fit is clean, short, and rises, and its bursts are those of the
-- requests: by both row policies.
use Prim.Native.Nat.{ℕ, suc, ◌+◌, ◌*◌, ◌^◌, ◌≤◌, ◌<◌}
use mathlib.Core.Bool.{Bool, true, false, cond, not}
use mathlib.Core.List.{List, [], ◌∷◌, reverse_aux}
use mathlib.Core.Option.{Option, none, some}
use mathlib.Core.Path.{◌≡◌, refl, sym, ap, ◌∙◌, subst}
use native.Mathlib.Omega.{arith}
use lib.Dec.{ltb}
use lib.ListN.{length, get_or}
use borrow.Author.Tests.{lt-ltb, ltb-true, ltb-false, not-false}
use Rattle.reading.specs.Search.{lowest}
use Rattle.reading.specs.Settings.{Settings}
use Rattle.reading.specs.RefreshClock.{clock_at_start}
use Rattle.reading.specs.Capture.{Event, last_cycle}
use Rattle.reading.specs.Verdict.{clean, verdict_of, judge_by, verdict_by}
use Rattle.reading.specs.Rules.{placing}
use Rattle.reading.specs.Cells.{bursts_of}
use Rattle.reading.specs.Memory.{Run, replay, plain}
use Rattle.reading.specs.Schedule.{first_cell, cell_bank, request_fits, bad_request, refresh_pins, free_from, placed}
use Rattle.reading.specs.Schedule.{send_request, send_refresh, refresh_in_time, served, planned, when_served, schedule_from, schedule_by}
use Rattle.memory.specs.Serving.{EachFits, Serves, Each}
use Rattle.memory.proofs.Pins.{bank-small}
use Rattle.memory.proofs.Same.{serving-bursts, bursts-are-plain}
use Rattle.words.proofs.Search.{none_below}
use Rattle.deadlines.specs.Deadlines.{soonest}
use Rattle.bridge.specs.Summary.{overdue_by}
use Rattle.capture.proofs.Rising.{Rises, Low}
use Rattle.plan.specs.Behind.{deadlines_of}
use Rattle.plan.specs.Soonest.{refresh_soonest}
use Rattle.plan.proofs.Ranged.{Ranged}
use Rattle.plan.proofs.Reached.{Reached, start-reached}
use Rattle.plan.proofs.Awake.{Sleepless, sleepless}
use Rattle.plan.proofs.Placed.{refresh-sent}
use Rattle.plan.proofs.Leading.{overdue_of, requested, Refreshed, refreshed_at, refreshed, in-time}

-- between requests: all events are clean, and an AUTO REFRESH placed next comes in time
pub record Ready (s : Settings) (asked : List ℕ) (es : List Event) : Type 0 where
  pub reached : Reached s asked es
  pub judged : verdict_of s es ≡ clean
  pub timely : refresh_in_time placing s es ≡ true

in-time-lt : {s : Settings} (g : Ranged s) (es : List Event) → refresh_in_time placing s es ≡ true → refreshed_at g es < overdue_of s es
in-time-lt {s} g es k = ltb-true (refreshed_at g es) (overdue_of s es) (sym (in-time g es) ∙ k)

pub start-ready : (s : Settings) → Ranged s → Ready s [] []
unfolding verdict_by judge_by deadlines_of refresh_soonest soonest free_from
start-ready s g =
    let r = start-reached s in
    let at_once : placed placing s [] refresh_pins ≡ 0 = (refresh-sent g r (λ i l. refl)).cycle in
    record {
      reached = r;
      judged = refl;
      timely = in-time g [] ∙ ap (λ (t : ℕ). ltb t (overdue_by s clock_at_start)) at_once ∙ lt-ltb 0 (overdue_by s clock_at_start) (omega (arith, g.least-t_refi));
    }

module _ {s : Settings} (g : Ranged s) (closed : Bool) where
  -- the request's events come before the AUTO REFRESH that is in time
  request-ready : (q : ℕ) → request_fits s q ≡ true → {asked : List ℕ} {es : List Event} → Reached s asked es → verdict_of s es ≡ clean →
      refresh_in_time placing s (send_request placing s closed es q) ≡ true → Ready s (q ∷ asked) (send_request placing s closed es q)
  request-ready q fits {es = es} r c k =
      let y = requested g q fits closed r in
      let last = in-time-lt g (send_request placing s closed es q) k in
      record {
        reached = y.reached;
        judged = y.leads.judged c (omega (arith, last, (refreshed g y.reached).behind, ap (overdue_by s) y.leads.same));
        timely = k;
      }

  -- ---- the next request

  pub record Served (asked : List ℕ) (q : ℕ) (es next : List Event) : Type 0 where
    pub ready : Ready s (q ∷ asked) next
    pub few : length next ≤ length es + 4

  pub served-ready : {asked : List ℕ} (es : List Event) → Ready s asked es → (q : ℕ) → request_fits s q ≡ true → (next : List Event) →
      served placing s closed es q ≡ some next → Served asked q es next
  unfolding served
  served-ready {asked} es y q fits next e = go (refresh_in_time placing s alone) refl (refresh_in_time placing s behind) refl e
    where
      alone : List Event
      alone = send_request placing s closed es q

      first : List Event
      first = send_refresh placing s es

      behind : List Event
      behind = send_request placing s closed first q

      ahead : Refreshed g asked es first
      ahead = refreshed g y.reached

      lb : cell_bank s (first_cell q) < 4
      lb = bank-small s g.sized q fits

      go : (v : Bool) → refresh_in_time placing s alone ≡ v → (w : Bool) → refresh_in_time placing s behind ≡ w →
          cond v (some alone) (cond w (some behind) none) ≡ some next → Served asked q es next
      go true k w m f =
          subst (Served asked q es) (let z : alone ≡ next = cc in z)
          (record { ready = request-ready q fits y.reached y.judged k; few = omega (arith, (requested g q fits closed y.reached).few) })
      go false k true m f =
          subst (Served asked q es) (let z : behind ≡ next = cc in z)
          (record {
            ready = request-ready q fits ahead.reached (ahead.judged y.judged (in-time-lt g es y.timely)) m;
            few = omega (arith, ahead.few, (requested g q fits closed ahead.reached).fewer (ahead.idle (cell_bank s (first_cell q)) lb));
          })
      go false k false m f = let z : ◌≡◌ {A = ℕ} 0 1 = cc in absurd (omega arith)

  -- ---- all requests

  from-ready : {asked : List ℕ} (es : List Event) → Ready s asked es → (i : ℕ) (qs : List ℕ) → EachFits s qs → (last : List Event) →
      schedule_from placing s closed es i qs ≡ planned last → Ready s (reverse_aux qs asked) last × (length last ≤ length es + 4 * length qs)
  unfolding schedule_from
  from-ready {asked} es y i [] fits last e =
      let z : es ≡ last = cc in subst (λ (n : List Event). Ready s asked n × (length n ≤ length es + 0)) z (y, omega arith)
  from-ready {asked} es y i (q ∷ qs) fits last e =
      go (served placing s closed es q) refl e (λ next v k. from-ready next v.ready (suc i) qs (λ j l. fits (suc j) (omega arith)) last k)
    where
      go : (x : Option (List Event)) → served placing s closed es q ≡ x → when_served x (λ next. schedule_from placing s closed next (suc i) qs) i ≡ planned last →
          ((next : List Event) → Served asked q es next → schedule_from placing s closed next (suc i) qs ≡ planned last →
          Ready s (reverse_aux qs (q ∷ asked)) last × (length last ≤ length next + 4 * length qs)) →
          Ready s (reverse_aux qs (q ∷ asked)) last × (length last ≤ length es + 4 * length (q ∷ qs))
      go none k f ih = let z : ◌≡◌ {A = ℕ} 0 1 = cc in absurd (omega arith)
      go (some next) k f ih =
          let v = served-ready es y q (fits 0 (omega arith)) next k in
          let h = ih next v f in
          (h.0, omega (arith, v.few, h.1))

-- ---- the schedule of a list of requests that is not refused

pub record Planned (s : Settings) (qs : List ℕ) (es : List Event) : Type 0 where
  pub judged : verdict_of s es ≡ clean
  pub few : length es ≤ 4 * length qs
  pub rises : Rises 0 es
  pub low : Low (2 ^ 20) es
  pub early : free_from 0 es ≤ last_cycle
  pub never-sleeps : Sleepless s es
  -- burst by burst, what the requests ask for
  pub serves : Each (Serves s) (bursts_of s es) qs

-- Demand 3, whatever the cells hold and whatever is written
pub schedule-is-plain : {s : Settings} → Ranged s → {qs : List ℕ} {es : List Event} → Planned s qs es → (r : Run) → replay s es r ≡ plain s qs r
schedule-is-plain {s} g {qs} {es} y = bursts-are-plain s g.sized qs es y.serves

module _ (s : Settings) (qs : List ℕ) (good : bad_request s qs ≡ none) where
  parted : (b : Bool) (x : Option ℕ) → cond b (some 2000) x ≡ none → (b ≡ false) × (x ≡ none)
  parted true x e = let z : ◌≡◌ {A = ℕ} 0 1 = cc in absurd (omega arith)
  parted false x e = (refl, e)

  nothing-bad : (ltb 2000 (length qs) ≡ false) × (lowest (λ i. not (request_fits s (get_or qs i 0))) (length qs) ≡ none)
  unfolding bad_request
  nothing-bad = parted (ltb 2000 (length qs)) (lowest (λ i. not (request_fits s (get_or qs i 0))) (length qs)) good

  pub few-requests : length qs ≤ 2000
  few-requests = ltb-false 2000 (length qs) nothing-bad.0

  pub requests-fit : EachFits s qs
  requests-fit i l = not-false (request_fits s (get_or qs i 0)) (none_below (λ j. not (request_fits s (get_or qs j 0))) (length qs) nothing-bad.1 i l)

  pub schedule-planned : Ranged s → (closed : Bool) (es : List Event) → schedule_by placing s closed qs ≡ planned es → Planned s qs es
  unfolding schedule_by
  schedule-planned g closed es e =
      let (y, few) = from-ready g closed [] (start-ready s g) 0 qs requests-fit es e in
      record {
        judged = y.judged;
        few = omega arith;
        rises = y.reached.rises;
        low = y.reached.low;
        early = omega (arith, y.reached.early, few-requests);
        never-sleeps = sleepless y.reached;
        serves = serving-bursts s qs es y.reached.serving;
      }
