-- Closed rows give what they gave, event for event and refusal for refusal, by whatever rules commands are placed: bursts with
-- auto precharge are never cut, and between requests all banks are idle, so that no PRECHARGE is sent.
use Prim.Native.Nat.{ℕ, suc}
use mathlib.Core.Bool.{Bool, true, false, cond, ◌&&◌, and-true}
use mathlib.Core.List.{List, [], ◌∷◌, ◌++◌, map}
use mathlib.Core.Option.{Option, none, some}
use mathlib.Core.Path.{◌≡◌, refl, sym, ap, ◌∙◌, subst}
use native.Mathlib.Omega.{arith}
use lib.Dec.{eqb}
use borrow.Author.Tests.{eq-eqb}
use Rattle.reading.specs.Search.{every}
use Rattle.reading.specs.RefreshClock.{in_time}
use Rattle.reading.specs.Settings.{Settings}
use Rattle.reading.specs.Capture.{Event, last_cycle}
use Rattle.reading.specs.Commands.{Command, ACTIVE, READ, WRITE, AUTO-REFRESH, command_of}
use Rattle.reading.specs.Bursts.{Burst}
use Rattle.reading.specs.Part.{Bank, Part, start, part_after, run, cut_by, open_on, idle_from}
use Rattle.reading.specs.Schedule.{asks_write, first_cell, cell_bank, cell_row, cell_column, column_pins, request_fits, active_pins, burst_pins, refresh_pins, cuts_nothing, earliest, free_from, last_from}
use Rattle.reading.specs.Schedule.{passes, goes, placed, send, send_all, send_request, send_refresh, refresh_in_time, served, when_served, schedule_from, schedule_by}
use Rattle.reading.proofs.Cuts.{All, nil, cons, all_map, auto-uncut}
use Rattle.pins.proofs.Carried.{command}
use Rattle.memory.specs.Serving.{Sized, EachFits}
use Rattle.memory.specs.ClosedRows.{ruled, ruled_request, ruled_refresh, ruled_in_time, ruled_served, closed_from, closed_rows}
use Rattle.memory.proofs.Pins.{active_command, burst_command, refresh-carried, active-carried, burst-carried}
use Rattle.memory.proofs.Part.{asked-kind, run_more}

-- ---- bursts with auto precharge lose nothing

record Auto (x : Burst) : Type 0 where
  auto : x.auto ≡ true

auto-keeps : (s : Settings) (p : Part) (t : ℕ) (c : Command) {xs : List Burst} → All Auto xs → every (λ x. eqb (cut_by s p t c x).n x.n) xs ≡ true
auto-keeps s p t c nil = refl
auto-keeps s p t c (cons {x} a more) =
    rw (eq-eqb (cut_by s p t c x).n x.n (ap (λ (y : Burst). y.n) (auto-uncut s p t c x a.auto))) (auto-keeps s p t c more)

module _ (rs : List ℕ) (s : Settings) where
  abbrev Autos : List Event → Type 0
  Autos es = All Auto (run s (start s) es).bursts

  closed-goes : (es : List Event) → Autos es → (pins t : ℕ) → goes rs s (run s (start s) es) pins t ≡ passes rs s (run s (start s) es) pins t
  unfolding goes cuts_nothing
  closed-goes es a pins t =
      let p = run s (start s) es in
      ap (λ (b : Bool). passes rs s p pins t && b) (auto-keeps s p t (command_of pins) a) ∙ and-true (passes rs s p pins t)

  same-send : (es : List Event) → Autos es → (pins : ℕ) → send rs s es pins ≡ ruled rs s es pins
  unfolding send placed
  same-send es a pins =
      ap (λ (g : ℕ → Bool). es ++ (record { cycle = earliest g (free_from 0 es) last_cycle; pins = pins } ∷ [])) (λ i t. closed-goes es a pins t i)

  -- ---- what each command leaves

  record Shut (p : Part) : Type 0 where
    autos : All Auto p.bursts
    idle : (i : ℕ) → (p.banks i).opened ≡ false

  abbrev ShutAt : List Event → Type 0
  ShutAt es = Shut (run s (start s) es)

  abbrev at : List Event → ℕ → ℕ
  at es pins = earliest (passes rs s (run s (start s) es) pins) (free_from 0 es) last_cycle

  after-ruled : (es : List Event) (pins : ℕ) {c : Command} → command_of pins ≡ c →
      run s (start s) (ruled rs s es pins) ≡ part_after s (run s (start s) es) (at es pins) c
  after-ruled es pins e =
      run_more s (start s) es (record { cycle = at es pins; pins = pins }) ∙ ap (part_after s (run s (start s) es) (at es pins)) e

  cut-autos : (p : Part) (t : ℕ) (c : Command) → All Auto p.bursts → All Auto (map (cut_by s p t c) p.bursts)
  cut-autos p t c a = all_map (cut_by s p t c) (λ x y. record { auto = y.auto }) a

  refresh-shut : (es : List Event) → ShutAt es → ShutAt (ruled_refresh rs s es)
  unfolding ruled_refresh
  refresh-shut es x =
      subst Shut (sym (after-ruled es refresh_pins refresh-carried))
      (record { autos = cut-autos (run s (start s) es) (at es refresh_pins) (command AUTO-REFRESH 0 0) x.autos; idle = x.idle })

  -- an ACTIVE and a burst with auto precharge leave their bank idle again
  shuts : (u row t : ℕ) (x : Bank) (own : Bool) → x.opened ≡ false →
      (cond (own && true) (idle_from u (cond own (open_on row t x) x)) (cond own (open_on row t x) x)).opened ≡ false
  shuts u row t x true e = refl
  shuts u row t x false e = e

  shut-again : (p : Part) (t u : ℕ) (write : Bool) (b row address i : ℕ) → (p.banks i).opened ≡ false →
      ((part_after s (part_after s p t (command ACTIVE b row)) u (record { op = cond write WRITE READ; bank = b; address = address; A10 = true; low = false })
      ).banks i).opened ≡ false
  shut-again p t u true b row address i e = shuts _ row t (p.banks i) (eqb i b) e
  shut-again p t u false b row address i e = shuts _ row t (p.banks i) (eqb i b) e

  module _ (f : Sized s) (q : ℕ) (fits : request_fits s q ≡ true) where
    abbrev burst : Command
    burst = burst_command s q (column_pins true (cell_column s (first_cell q))) true

    active-autos : (es : List Event) → Autos es → Autos (ruled rs s es (active_pins s q))
    active-autos es a =
        subst (λ (p : Part). All Auto p.bursts) (sym (after-ruled es (active_pins s q) (active-carried s f q fits)))
        (cut-autos (run s (start s) es) (at es (active_pins s q)) (active_command s q) a)

    request-shut : (es : List Event) → ShutAt es → ShutAt (ruled_request rs s es q)
    unfolding ruled_request
    request-shut es x =
        let p = run s (start s) es in
        let opened = ruled rs s es (active_pins s q) in
        let t = at es (active_pins s q) in
        let u = at opened (burst_pins true s q) in
        let leaves : run s (start s) (ruled rs s opened (burst_pins true s q)) ≡ part_after s (part_after s p t (active_command s q)) u burst =
        after-ruled opened (burst_pins true s q) (burst-carried s f q fits true)
        ∙ ap (λ (y : Part). part_after s y u burst) (after-ruled es (active_pins s q) (active-carried s f q fits)) in
        let autos : All Auto (part_after s p t (active_command s q)).bursts = cut-autos p t (active_command s q) x.autos in
        subst Shut (sym leaves)
        (record {
          autos =
              rw (asked-kind s q (column_pins true (cell_column s (first_cell q))) true).burst
              (cons (record { auto = refl }) (cut-autos (part_after s p t (active_command s q)) u burst autos));
          idle = λ i. shut-again p t u (asks_write q) (cell_bank s (first_cell q)) (cell_row s (first_cell q)) (column_pins true (cell_column s (first_cell q))) i (x.idle i);
        })

    same-request : (es : List Event) → ShutAt es → send_request rs s true es q ≡ ruled_request rs s es q
    unfolding send_request ruled_request send_all
    same-request es x =
        rw (x.idle (cell_bank s (first_cell q)), same-send es x.autos (active_pins s q))
        (same-send (ruled rs s es (active_pins s q)) (active-autos es x.autos) (burst_pins true s q))

  same-refresh : (es : List Event) → ShutAt es → send_refresh rs s es ≡ ruled_refresh rs s es
  unfolding send_refresh ruled_refresh send_all
  same-refresh es x = rw (x.idle 0, x.idle 1, x.idle 2, x.idle 3) (same-send es x.autos refresh_pins)

  same-in-time : (es : List Event) → ShutAt es → refresh_in_time rs s es ≡ ruled_in_time rs s es
  unfolding refresh_in_time ruled_in_time
  same-in-time es x = ap (λ (l : List Event). in_time s (run s (start s) es).clock (last_from 0 l)) (same-refresh es x)

  module _ (f : Sized s) where
    module _ (q : ℕ) (fits : request_fits s q ≡ true) (es : List Event) (x : ShutAt es) where
      same-served : served rs s true es q ≡ ruled_served rs s es q
      unfolding served ruled_served
      same-served =
          let alone = same-request f q fits es x in
          let behind = ap (λ (l : List Event). send_request rs s true l q) (same-refresh es x) ∙ same-request f q fits (ruled_refresh rs s es) (refresh-shut es x) in
          let first = ap (refresh_in_time rs s) alone ∙ same-in-time (ruled_request rs s es q) (request-shut f q fits es x) in
          let second = ap (refresh_in_time rs s) behind
          ∙ same-in-time (ruled_request rs s (ruled_refresh rs s es) q) (request-shut f q fits (ruled_refresh rs s es) (refresh-shut es x)) in
          λ i. cond (first i) (some (alone i)) (cond (second i) (some (behind i)) none)

      served-shut : (next : List Event) → ruled_served rs s es q ≡ some next → ShutAt next
      unfolding ruled_served
      served-shut next e = go (ruled_in_time rs s alone) (ruled_in_time rs s behind) e
        where
          alone : List Event
          alone = ruled_request rs s es q

          behind : List Event
          behind = ruled_request rs s (ruled_refresh rs s es) q

          go : (a b : Bool) → cond a (some alone) (cond b (some behind) none) ≡ some next → ShutAt next
          go true b g = let z : alone ≡ next = cc in rw (← z) (request-shut f q fits es x)
          go false true g = let z : behind ≡ next = cc in rw (← z) (request-shut f q fits (ruled_refresh rs s es) (refresh-shut es x))
          go false false g = let z : ◌≡◌ {A = ℕ} 0 1 = cc in absurd (omega arith)

    same_from : (es : List Event) → ShutAt es → (i : ℕ) (qs : List ℕ) → EachFits s qs → schedule_from rs s true es i qs ≡ closed_from rs s es i qs
    unfolding schedule_from closed_from
    same_from es x i [] fits = refl
    same_from es x i (q ∷ qs) fits =
        let first = fits 0 (omega arith) in
        ap (λ (o : Option (List Event)). when_served o (λ next. schedule_from rs s true next (suc i) qs) i) (same-served q first es x)
        ∙ go (ruled_served rs s es q) (served-shut q first es x) (λ next y. same_from next y (suc i) qs (λ j l. fits (suc j) (omega arith)))
      where
        go : (o : Option (List Event)) → ((next : List Event) → o ≡ some next → ShutAt next) →
            ((next : List Event) → ShutAt next → schedule_from rs s true next (suc i) qs ≡ closed_from rs s next (suc i) qs) →
            when_served o (λ next. schedule_from rs s true next (suc i) qs) i ≡ when_served o (λ next. closed_from rs s next (suc i) qs) i
        go none on same = refl
        go (some next) on same = same next (on next refl)

    -- the same events, or late at the same request
    pub closed-as-before : (qs : List ℕ) → EachFits s qs → schedule_by rs s true qs ≡ closed_rows rs s qs
    unfolding schedule_by closed_rows
    closed-as-before qs fits = same_from [] (record { autos = nil; idle = λ i. refl }) 0 qs fits
