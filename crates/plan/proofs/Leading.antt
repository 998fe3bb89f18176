-- The commands of a request and of a refresh, behind what a schedule reached.
use Prim.Native.Nat.{ℕ, suc, ◌+◌, ◌*◌, ◌≤◌, ◌<◌}
use mathlib.Core.Bool.{Bool, true, false, cond, not}
use mathlib.Core.List.{List, [], ◌∷◌, ◌++◌}
use mathlib.Core.Path.{◌≡◌, refl, sym, ap, ◌∙◌, subst}
use native.Mathlib.Nat.{le_refl}
use native.Mathlib.Omega.{arith}
use lib.Dec.{eqb, ltb}
use lib.ListN.{length}
use borrow.Author.Tests.{eqb-true, lt-ltb, not-true}
use Rattle.reading.specs.Settings.{Settings}
use Rattle.reading.specs.RefreshClock.{in_time}
use Rattle.reading.specs.Capture.{Event}
use Rattle.reading.specs.Commands.{command_of}
use Rattle.reading.specs.Verdict.{clean, verdict_of}
use Rattle.reading.specs.Rules.{every_bank, placing}
use Rattle.reading.specs.Schedule.{first_cell, cell_bank, cell_row, request_fits, active_pins, burst_pins, close_pins, close_all_pins, refresh_pins, row_commands}
use Rattle.reading.specs.Schedule.{free_from, last_from, placed, send, send_all, send_request, send_refresh, refresh_in_time}
use Rattle.reading.proofs.Laws.{every-bank}
use Rattle.bridge.specs.Summary.{overdue_by}
use Rattle.bridge.proofs.Clock as clock
use Rattle.plan.specs.Behind.{part_of}
use Rattle.plan.specs.Margin.{wait_of, margin_of}
use Rattle.plan.proofs.Ranged.{Ranged}
use Rattle.plan.proofs.Sending.{free-sent, last-sent, length-sent, clean-sent}
use Rattle.plan.proofs.Reached.{Reached, Sent}
use Rattle.plan.proofs.Awake.{cke-high, awake-asked, awake-allowed, awake}
use Rattle.plan.proofs.Placed.{Idle, Open, OnRow, refresh-sent, refresh-idle, close-all-sent, close-all-idle, close-all-ticks}
use Rattle.plan.proofs.Placed.{close-sent, close-shuts, close-ticks, active-sent, active-opens, active-ticks, burst-sent, burst-ticks}

-- the first cycle at which rule 14 is broken
abbrev pub overdue_of : Settings → List Event → ℕ
overdue_of s es = overdue_by s (part_of s es).clock

-- a command in time for rule 14
pub timely-clean : {s : Settings} → Ranged s → {asked now : List ℕ} {es : List Event} {pins soonest : ℕ} {d k : ℕ → List ℕ} → Reached s asked es →
    Sent s now es pins soonest d k → verdict_of s es ≡ clean → placed placing s es pins < overdue_of s es → verdict_of s (send placing s es pins) ≡ clean
timely-clean {s} g {es = es} {pins = pins} r w c l =
    let p = part_of s es in
    let t = placed placing s es pins in
    let in-time : in_time s p.clock t ≡ true = clock.in-time-is s (omega (arith, g.least-t_refi)) p.clock t ∙ lt-ltb t (overdue_of s es) l in
    clean-sent s es pins c w.passed (awake-asked s p (awake r) t (command_of pins) ∙ in-time)
    (awake-allowed s p (awake r) t (command_of pins) (cke-high pins w.small))

-- ---- commands that are no AUTO REFRESH

pub record Leads (s : Settings) (es next : List Event) : Type 0 where
  pub rising : free_from 0 es ≤ free_from 0 next
  pub same : (part_of s next).clock ≡ (part_of s es).clock
  pub judged : verdict_of s es ≡ clean → free_from 0 next ≤ overdue_of s es → verdict_of s next ≡ clean

leads-none : (s : Settings) (es : List Event) → Leads s es es
leads-none s es = record { rising = le_refl (free_from 0 es); same = refl; judged = λ c l. c }

leads-sent : {s : Settings} → Ranged s → {asked now : List ℕ} {es : List Event} {pins soonest : ℕ} {d k : ℕ → List ℕ} → Reached s asked es →
    Sent s now es pins soonest d k → (part_of s (send placing s es pins)).clock ≡ (part_of s es).clock → Leads s es (send placing s es pins)
leads-sent {s} g {es = es} {pins = pins} r w e =
    record {
      rising = omega (arith, w.not-before, free-sent s es pins);
      same = e;
      judged = λ c l. timely-clean g r w c (omega (arith, l, free-sent s es pins));
    }

leads-on : {s : Settings} {es mid next : List Event} → Leads s es mid → Leads s mid next → Leads s es next
leads-on {s} x y =
    record {
      rising = omega (arith, x.rising, y.rising);
      same = y.same ∙ x.same;
      judged = λ c l. y.judged (x.judged c (omega (arith, l, y.rising))) (omega (arith, l, ap (overdue_by s) x.same));
    }

pub all-sent : (rs : List ℕ) (s : Settings) (es : List Event) (xs : List ℕ) (y : ℕ) → send_all rs s es (xs ++ (y ∷ [])) ≡ send rs s (send_all rs s es xs) y
unfolding send_all
all-sent rs s es [] y = refl
all-sent rs s es (x ∷ xs) y = all-sent rs s (send rs s es x) xs y

-- ---- what opens a request's row

pub record Rowed (s : Settings) (asked : List ℕ) (q : ℕ) (es next : List Event) : Type 0 where
  pub reached : Reached s asked next
  pub on : OnRow s q next
  pub leads : Leads s es next
  pub soon : free_from 0 next ≤ free_from 0 es + 2 * (wait_of s + 1)
  pub few : length next ≤ length es + 2
  pub fewer : ((part_of s es).banks (cell_bank s (first_cell q))).opened ≡ false → length next ≤ length es + 1

module _ {s : Settings} (g : Ranged s) (q : ℕ) (fits : request_fits s q ≡ true) where
  abbrev bank : ℕ
  bank = cell_bank s (first_cell q)

  activated : {asked : List ℕ} {es : List Event} → Reached s asked es → ((part_of s es).banks bank).opened ≡ false →
      Rowed s asked q es (send placing s es (active_pins s q))
  activated {es = es} r idle =
      let w = active-sent g r q fits idle in
      record {
        reached = w.reached;
        on = active-opens g r q fits idle;
        leads = leads-sent g r w (active-ticks g r q fits idle);
        soon = omega (arith, free-sent s es (active_pins s q), w.soon);
        few = omega (arith, length-sent s es (active_pins s q));
        fewer = λ e. omega (arith, length-sent s es (active_pins s q));
      }

  closed-first : {asked : List ℕ} {es : List Event} → Reached s asked es → Open s q es →
      Rowed s asked q es (send placing s (send placing s es (close_pins s q)) (active_pins s q))
  closed-first {es = es} r o =
      let w = close-sent g r q fits o in
      let v = active-sent g w.reached q fits (close-shuts g r q fits o) in
      let y = activated w.reached (close-shuts g r q fits o) in
      record {
        reached = y.reached;
        on = y.on;
        leads = leads-on (leads-sent g r w (close-ticks g r q fits o)) y.leads;
        soon = omega (arith, free-sent s es (close_pins s q), w.soon, free-sent s (send placing s es (close_pins s q)) (active_pins s q), v.soon);
        few = omega (arith, y.fewer (close-shuts g r q fits o), length-sent s es (close_pins s q));
        fewer = λ e. let z : ◌≡◌ {A = ℕ} 0 1 = cc in absurd (omega arith);
      }

  abbrev opening : List Event → List Event
  opening es = send_all placing s es (row_commands s ((part_of s es).banks bank) q)

  pub rowed : {asked : List ℕ} {es : List Event} → Reached s asked es → Rowed s asked q es (send_all placing s es (row_commands s ((part_of s es).banks (cell_bank s (first_cell q))) q))
  unfolding send_all
  rowed {asked} {es} r = go ((part_of s es).banks bank).opened refl (eqb ((part_of s es).banks bank).row (cell_row s (first_cell q))) refl
    where
      go : (o : Bool) → ((part_of s es).banks bank).opened ≡ o → (e : Bool) → eqb ((part_of s es).banks bank).row (cell_row s (first_cell q)) ≡ e →
          Rowed s asked q es (send_all placing s es (cond (not o) (active_pins s q ∷ []) (cond e [] (close_pins s q ∷ active_pins s q ∷ []))))
      go false k e m = activated r k
      go true k true m =
          record {
            reached = r;
            on = record { opened = k; row = eqb-true ((part_of s es).banks bank).row (cell_row s (first_cell q)) m };
            leads = leads-none s es;
            soon = omega arith;
            few = omega arith;
            fewer = λ e. let z : ◌≡◌ {A = ℕ} 0 1 = cc in absurd (omega arith);
          }
      go true k false m = closed-first r k

  -- ---- a request

  module _ (closed : Bool) where
    pub request-is : (es : List Event) → send_request placing s closed es q ≡
        send placing s (send_all placing s es (row_commands s ((part_of s es).banks (cell_bank s (first_cell q))) q)) (burst_pins closed s q)
    unfolding send_request
    request-is es = all-sent placing s es (row_commands s ((part_of s es).banks bank) q) (burst_pins closed s q)

    pub record Requested (asked : List ℕ) (es next : List Event) : Type 0 where
      pub reached : Reached s (q ∷ asked) next
      pub leads : Leads s es next
      pub soon : free_from 0 next ≤ free_from 0 es + 3 * (wait_of s + 1)
      pub few : length next ≤ length es + 3
      pub fewer : ((part_of s es).banks (cell_bank s (first_cell q))).opened ≡ false → length next ≤ length es + 2

    pub requested : {asked : List ℕ} {es : List Event} → Reached s asked es → Requested asked es (send_request placing s closed es q)
    requested {asked} {es} r =
        let y = rowed r in
        let w = burst-sent g y.reached q fits closed y.on in
        subst (Requested asked es) (sym (request-is es))
        (record {
          reached = w.reached;
          leads = leads-on y.leads (leads-sent g y.reached w (burst-ticks g y.reached q fits closed y.on));
          soon = omega (arith, y.soon, free-sent s (opening es) (burst_pins closed s q), w.soon);
          few = omega (arith, y.few, length-sent s (opening es) (burst_pins closed s q));
          fewer = λ e. omega (arith, y.fewer e, length-sent s (opening es) (burst_pins closed s q));
        })

-- ---- a refresh

banks-idle : (o : ℕ → Bool) → every_bank (λ b. not (o b)) ≡ true → (i : ℕ) → i < 4 → o i ≡ false
banks-idle o e i l = not-true (o i) (every-bank (λ b. not (o b)) e i l)

module _ {s : Settings} (g : Ranged s) where
  -- the banks closed, if one is open
  abbrev pub idled : List Event → List Event
  idled es = cond (every_bank (λ b. not ((part_of s es).banks b).opened)) es (send placing s es close_all_pins)

  pub record Idled (asked : List ℕ) (es next : List Event) : Type 0 where
    pub reached : Reached s asked next
    pub idle : Idle s next
    pub leads : Leads s es next
    pub soon : free_from 0 next ≤ free_from 0 es + (wait_of s + 1)
    pub few : length next ≤ length es + 1

  pub all-idle : {asked : List ℕ} {es : List Event} → Reached s asked es → Idled asked es (idled es)
  all-idle {asked} {es} r = go (every_bank (λ b. not ((part_of s es).banks b).opened)) refl
    where
      go : (v : Bool) → every_bank (λ b. not ((part_of s es).banks b).opened) ≡ v → Idled asked es (cond v es (send placing s es close_all_pins))
      go true e = record { reached = r; idle = banks-idle (λ b. ((part_of s es).banks b).opened) e; leads = leads-none s es; soon = omega arith; few = omega arith }
      go false e =
          let w = close-all-sent g r in
          record {
            reached = w.reached;
            idle = close-all-idle g r;
            leads = leads-sent g r w (close-all-ticks g r);
            soon = omega (arith, free-sent s es close_all_pins, w.soon);
            few = omega (arith, length-sent s es close_all_pins);
          }

  pub refresh-is : (es : List Event) → send_refresh placing s es ≡ send placing s (idled es) refresh_pins
  unfolding send_refresh send_all
  refresh-is es = go (every_bank (λ b. not ((part_of s es).banks b).opened))
    where
      go : (v : Bool) → send_all placing s es (cond v (refresh_pins ∷ []) (close_all_pins ∷ refresh_pins ∷ [])) ≡
          send placing s (cond v es (send placing s es close_all_pins)) refresh_pins
      go true = refl
      go false = refl

  -- the cycle of its AUTO REFRESH
  abbrev pub refreshed_at : List Event → ℕ
  refreshed_at es = placed placing s (idled es) refresh_pins

  pub record Refreshed (asked : List ℕ) (es next : List Event) : Type 0 where
    pub reached : Reached s asked next
    pub idle : Idle s next
    pub free : free_from 0 next ≡ suc (refreshed_at es)
    pub behind : free_from 0 es ≤ refreshed_at es
    pub few : length next ≤ length es + 2
    pub judged : verdict_of s es ≡ clean → refreshed_at es < overdue_of s es → verdict_of s next ≡ clean

  pub refreshed : {asked : List ℕ} {es : List Event} → Reached s asked es → Refreshed asked es (send_refresh placing s es)
  refreshed {asked} {es} r =
      let y = all-idle r in
      let w = refresh-sent g y.reached y.idle in
      subst (Refreshed asked es) (sym (refresh-is es))
      (record {
        reached = w.reached;
        idle = refresh-idle g y.reached y.idle;
        free = free-sent s (idled es) refresh_pins;
        behind = omega (arith, w.not-before, y.leads.rising);
        few = omega (arith, y.few, length-sent s (idled es) refresh_pins);
        judged = λ c l.
            timely-clean g y.reached w (y.leads.judged c (omega (arith, l, w.not-before))) (omega (arith, l, ap (overdue_by s) y.leads.same));
      })

  pub in-time : (es : List Event) → refresh_in_time placing s es ≡ ltb (refreshed_at es) (overdue_of s es)
  unfolding refresh_in_time
  in-time es =
      ap (in_time s (part_of s es).clock) (ap (last_from 0) (refresh-is es) ∙ last-sent s (idled es) refresh_pins)
      ∙ clock.in-time-is s (omega (arith, g.least-t_refi)) (part_of s es).clock (refreshed_at es)

-- far from the ninth refresh owed, a request alone is in time
pub far-in-time : {s : Settings} (g : Ranged s) (q : ℕ) → request_fits s q ≡ true → (closed : Bool) {asked : List ℕ} {es : List Event} → Reached s asked es →
    free_from 0 es + margin_of s < overdue_of s es → refresh_in_time placing s (send_request placing s closed es q) ≡ true
far-in-time {s} g q fits closed {es = es} r far =
    let next = send_request placing s closed es q in
    let y = requested g q fits closed r in
    let z = all-idle g y.reached in
    let w = refresh-sent g z.reached z.idle in
    in-time g next
    ∙ lt-ltb (refreshed_at g next) (overdue_of s next) (omega (arith, far, y.soon, z.soon, w.soon, ap (overdue_by s) y.leads.same))
