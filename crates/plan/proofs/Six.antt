-- Schedules are the same whether their commands are placed by rule 6 too or not: a PRECHARGE that is sent keeps rule 9, as every
-- event that is judged clean.
use Prim.Native.Nat.{ℕ, suc}
use mathlib.Core.Bool.{Bool, true, false, cond, not, ◌&&◌}
use mathlib.Core.List.{List, [], ◌∷◌, ◌++◌, Memᴰ}
use mathlib.Core.Option.{Option, none, some}
use mathlib.Core.Path.{◌≡◌, refl, sym, ap, ◌∙◌}
use native.Mathlib.Omega.{arith}
use lib.Dec.{eqb}
use Rattle.reading.specs.Settings.{Settings, Consistent}
use Rattle.reading.specs.Capture.{Event, last_cycle}
use Rattle.reading.specs.RefreshClock.{in_time}
use Rattle.reading.specs.Commands.{command_of}
use Rattle.reading.specs.Rules.{every_bank, above_six, placing, placing_with_six}
use Rattle.reading.specs.Schedule.{first_cell, cell_bank, cell_row, request_fits, active_pins, burst_pins, close_pins, close_all_pins, refresh_pins, row_commands}
use Rattle.reading.specs.Schedule.{cuts_nothing, goes, earliest, free_from, last_from, placed, send, send_all, send_request, send_refresh, refresh_in_time, served, when_served, schedule_from, schedule_by}
use Rattle.reading.proofs.Found.{listed}
use Rattle.reading.proofs.Six.{same-passes}
use Rattle.memory.specs.Serving.{EachFits}
use Rattle.plan.specs.Behind.{part_of}
use Rattle.plan.proofs.Ranged.{Ranged}
use Rattle.plan.proofs.Reached.{Reached, start-reached}
use Rattle.plan.proofs.Placed.{close-sent, close-all-sent}
use Rattle.plan.proofs.Leading.{all-sent, rowed, request-is, requested, refreshed}

pub ninth : Memᴰ 9 above_six
ninth = listed 9 above_six refl

module _ {s : Settings} (g : Ranged s) (short : Consistent s) where
  abbrev six : List ℕ
  six = placing_with_six

  same-send : {asked : List ℕ} {es : List Event} → Reached s asked es → (pins : ℕ) → send six s es pins ≡ send placing s es pins
  unfolding send placed goes
  same-send {es = es} r pins =
      let p = part_of s es in
      ap (λ (f : ℕ → Bool). es ++ (record { cycle = earliest f (free_from 0 es) last_cycle; pins = pins } ∷ []))
      (λ i t. same-passes s short above_six ninth p r.rest t pins i && cuts_nothing s p t (command_of pins))

  -- ---- a request

  module _ (closed : Bool) (q : ℕ) (fits : request_fits s q ≡ true) where
    abbrev bank : ℕ
    bank = cell_bank s (first_cell q)

    same_row : {asked : List ℕ} {es : List Event} → Reached s asked es →
        send_all six s es (row_commands s ((part_of s es).banks bank) q) ≡ send_all placing s es (row_commands s ((part_of s es).banks bank) q)
    unfolding send_all
    same_row {es = es} r = go ((part_of s es).banks bank).opened refl (eqb ((part_of s es).banks bank).row (cell_row s (first_cell q)))
      where
        go : (o : Bool) → ((part_of s es).banks bank).opened ≡ o → (e : Bool) →
            send_all six s es (cond (not o) (active_pins s q ∷ []) (cond e [] (close_pins s q ∷ active_pins s q ∷ []))) ≡
            send_all placing s es (cond (not o) (active_pins s q ∷ []) (cond e [] (close_pins s q ∷ active_pins s q ∷ [])))
        go false k e = same-send r (active_pins s q)
        go true k true = refl
        go true k false =
            ap (λ (xs : List Event). send six s xs (active_pins s q)) (same-send r (close_pins s q))
            ∙ same-send (close-sent g r q fits k).reached (active_pins s q)

    same-request : {asked : List ℕ} {es : List Event} → Reached s asked es → send_request six s closed es q ≡ send_request placing s closed es q
    unfolding send_request
    same-request {es = es} r =
        all-sent six s es (row_commands s ((part_of s es).banks bank) q) (burst_pins closed s q)
        ∙ ap (λ (xs : List Event). send six s xs (burst_pins closed s q)) (same_row r)
        ∙ same-send (rowed g q fits r).reached (burst_pins closed s q)
        ∙ sym (request-is g q fits closed es)

  -- ---- a refresh

  same-refresh : {asked : List ℕ} {es : List Event} → Reached s asked es → send_refresh six s es ≡ send_refresh placing s es
  unfolding send_refresh send_all
  same-refresh {es = es} r = go (every_bank (λ b. not ((part_of s es).banks b).opened))
    where
      go : (v : Bool) → send_all six s es (cond v (refresh_pins ∷ []) (close_all_pins ∷ refresh_pins ∷ [])) ≡
          send_all placing s es (cond v (refresh_pins ∷ []) (close_all_pins ∷ refresh_pins ∷ []))
      go true = same-send r refresh_pins
      go false =
          ap (λ (xs : List Event). send six s xs refresh_pins) (same-send r close_all_pins) ∙ same-send (close-all-sent g r).reached refresh_pins

  same-in-time : {asked : List ℕ} {es : List Event} → Reached s asked es → refresh_in_time six s es ≡ refresh_in_time placing s es
  unfolding refresh_in_time
  same-in-time {es = es} r = ap (λ (xs : List Event). in_time s (part_of s es).clock (last_from 0 xs)) (same-refresh r)

  -- ---- all requests

  module _ (closed : Bool) where
    module _ (q : ℕ) (fits : request_fits s q ≡ true) {asked : List ℕ} {es : List Event} (r : Reached s asked es) where
      first : List Event
      first = send_request placing s closed es q

      second : List Event
      second = send_request placing s closed (send_refresh placing s es) q

      first-reached : Reached s (q ∷ asked) first
      unfolding first
      first-reached = (requested g q fits closed r).reached

      second-reached : Reached s (q ∷ asked) second
      unfolding second
      second-reached = (requested g q fits closed (refreshed g r).reached).reached

      same-served : served six s closed es q ≡ served placing s closed es q
      unfolding served first second
      same-served =
          let alone : send_request six s closed es q ≡ first = same-request closed q fits r in
          let behind : send_request six s closed (send_refresh six s es) q ≡ second =
          ap (λ (xs : List Event). send_request six s closed xs q) (same-refresh r) ∙ same-request closed q fits (refreshed g r).reached in
          let in-time = ap (refresh_in_time six s) alone ∙ same-in-time first-reached in
          let in-time-behind = ap (refresh_in_time six s) behind ∙ same-in-time second-reached in
          λ i. cond (in-time i) (some (alone i)) (cond (in-time-behind i) (some (behind i)) none)

      served-reached : (next : List Event) → served placing s closed es q ≡ some next → Reached s (q ∷ asked) next
      unfolding served first second
      served-reached next e = go (refresh_in_time placing s first) (refresh_in_time placing s second) e
        where
          go : (a b : Bool) → cond a (some first) (cond b (some second) none) ≡ some next → Reached s (q ∷ asked) next
          go true b h = let z : first ≡ next = cc in rw (← z) first-reached
          go false true h = let z : second ≡ next = cc in rw (← z) second-reached
          go false false h = let z : ◌≡◌ {A = ℕ} 0 1 = cc in absurd (omega arith)

    same_from : {asked : List ℕ} {es : List Event} → Reached s asked es → (i : ℕ) (qs : List ℕ) → EachFits s qs →
        schedule_from six s closed es i qs ≡ schedule_from placing s closed es i qs
    unfolding schedule_from
    same_from r i [] fits = refl
    same_from {asked} {es} r i (q ∷ qs) fits =
        let here = fits 0 (omega arith) in
        ap (λ (o : Option (List Event)). when_served o (λ next. schedule_from six s closed next (suc i) qs) i) (same-served q here r)
        ∙ go (served placing s closed es q) (served-reached q here r)
        (λ next y. same_from y (suc i) qs (λ j l. fits (suc j) (omega arith)))
      where
        go : (o : Option (List Event)) → ((next : List Event) → o ≡ some next → Reached s (q ∷ asked) next) →
            ((next : List Event) → Reached s (q ∷ asked) next → schedule_from six s closed next (suc i) qs ≡ schedule_from placing s closed next (suc i) qs) →
            when_served o (λ next. schedule_from six s closed next (suc i) qs) i ≡ when_served o (λ next. schedule_from placing s closed next (suc i) qs) i
        go none on same = refl
        go (some next) on same = same next (on next refl)

    -- The same schedule, or late at the same request.
    pub same-schedule : (qs : List ℕ) → EachFits s qs → schedule_by placing_with_six s closed qs ≡ schedule_by placing s closed qs
    unfolding schedule_by
    same-schedule qs fits = same_from (start-reached s) 0 qs fits
