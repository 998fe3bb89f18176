-- The commands of a schedule: each goes to the latest of its waits, and leaves the deadlines and the standing of a step.
use Prim.Native.Nat.{ℕ, suc, ◌+◌, ◌^◌, ◌≤◌, ◌<◌}
use mathlib.Core.Bool.{Bool, true, false, cond, ◌&&◌, and-true}
use mathlib.Core.List.{List, ◌∷◌}
use mathlib.Core.Path.{◌≡◌, refl, sym, ap, ◌∙◌}
use native.Mathlib.Nat.{le_trans}
use native.Mathlib.Omega.{arith}
use lib.Dec.{leb, eqb}
use lib.ListN.{length, set}
use borrow.Author.Tests.{eq-eqb}
use Rattle.reading.specs.Words.{bit}
use Rattle.reading.specs.Search.{find, later}
use Rattle.reading.specs.Settings.{Settings}
use Rattle.reading.specs.Capture.{Event}
use Rattle.reading.specs.Commands.{PRECHARGE, AUTO-REFRESH, Command, command_of}
use Rattle.reading.specs.Bursts.{reads}
use Rattle.reading.specs.Part.{Bank, Part, idle_from, part_after, last_read, last_write}
use Rattle.reading.specs.Rules.{placing}
use Rattle.reading.specs.Schedule.{asks_write, first_cell, cell_bank, cell_row, cell_column, request_fits, active_pins, column_pins, burst_pins, close_pins, close_all_pins, refresh_pins}
use Rattle.reading.specs.Schedule.{cuts_nothing, goes, free_from, placed, send}
use Rattle.reading.proofs.Cuts.{All}
use Rattle.reading.proofs.Laws.{either_way}
use Rattle.deadlines.specs.Deadlines.{refresh_waits, pace_of, soonest, active_after, close_after, close_all_after, refresh_after}
use Rattle.bridge.proofs.Tests.{leb-later}
use Rattle.bridge.proofs.Rules.{does}
use Rattle.bridge.proofs.Next.{active-next, close-next, close-all-next, refresh-next}
use Rattle.memory.proofs.Pins.{bank-small, column-small, column-back, active_command, close_command, active-carried, burst-carried, close-carried, close-all-carried, refresh-carried}
use Rattle.memory.proofs.Part.{serving-on, serving-more, active-row}
use Rattle.plan.specs.Behind.{ROW, cut_end, stood, part_of, deadlines_of, standing_of}
use Rattle.plan.specs.Margin.{wait_of}
use Rattle.plan.specs.Soonest.{active_soonest, burst_soonest, close_waits, close_soonest, close_all_soonest, refresh_soonest}
use Rattle.plan.specs.Draft.{burst_after, burst_ends}
use Rattle.plan.proofs.Ranged.{Ranged}
use Rattle.plan.proofs.Pins.{row_low, active-small, burst-small, close-small, close-all-small, refresh-small}
use Rattle.plan.proofs.Passing.{passed, waited, carried-passes, active-passed, close_passed, close-all-passed, refresh-passed}
use Rattle.plan.proofs.Uncut.{Whole, serving-whole, serving-moded, nothing-cut, close-uncut, close-all-uncut}
use Rattle.plan.proofs.Near.{never-longer, end-most, near-active, near-close, near-close-all, near-refresh, active-most, burst-most, close-most, close-all-most, refresh-most}
use Rattle.plan.proofs.Sending.{Goes, goes-free, goes-soonest}
use Rattle.plan.proofs.Reached.{Reached, Sent, part-is, stays, plain-sound, sent}
use Rattle.plan.proofs.Awake.{awake, awake-now, awake-clock}
use Rattle.plan.proofs.Standing.{kept_row, opened-row, row-stood}
use Rattle.plan.proofs.Bursting.{bursts, burst-going, burst-leaves, burst-sound, burst-near, burst-clock, burst-stood}

-- all banks are idle
abbrev pub Idle : Settings → List Event → Type 0
Idle s es = (i : ℕ) → i < 4 → ((part_of s es).banks i).opened ≡ false

-- the bank of a request is open, and on its row
abbrev pub Open : Settings → ℕ → List Event → Type 0
Open s q es = ((part_of s es).banks (cell_bank s (first_cell q))).opened ≡ true

pub record OnRow (s : Settings) (q : ℕ) (es : List Event) : Type 0 where
  pub opened : Open s q es
  pub row : ((part_of s es).banks (cell_bank s (first_cell q))).row ≡ cell_row s (first_cell q)

-- a PRECHARGE of all banks leaves none open, one of bank b not that one
shut : (u : ℕ) (x : Bank) (named : Bool) → named ≡ true → (cond (x.opened && named) (idle_from u x) x).opened ≡ false
shut u x named e = go x.opened refl
  where
    go : (o : Bool) → x.opened ≡ o → (cond (o && named) (idle_from u x) x).opened ≡ false
    go true k = rw e
    go false k = k

module _ {s : Settings} (g : Ranged s) {asked : List ℕ} {es : List Event} (r : Reached s asked es) where
  abbrev p : Part
  p = part_of s es

  abbrev d : List ℕ
  d = deadlines_of s es

  abbrev k : List ℕ
  k = standing_of s es

  abbrev free : ℕ
  free = free_from 0 es

  w : All Whole p.bursts
  w = serving-whole r.serving.bursts

  read-end : cut_end (last_read p) ≤ free + wait_of s
  read-end = end-most s free reads r.sound.bursts (serving-moded r.serving.bursts)

  -- a command carried by the pins: rules 1 to 13 pass it from a on, and it cuts nothing from b on
  going-is : (pins : ℕ) {c : Command} → command_of pins ≡ c → (t a b : ℕ) → passed s p t c ≡ leb a t → cuts_nothing s p t c ≡ leb b t →
      goes placing s p pins t ≡ leb (later a b) t
  unfolding goes
  going-is pins e t a b x y =
      (λ i. carried-passes s p t pins e i && cuts_nothing s p t (e i)) ∙ (λ i. x i && y i) ∙ sym (leb-later a b t)

  going-free : (pins : ℕ) {c : Command} → command_of pins ≡ c → (t a : ℕ) → passed s p t c ≡ leb a t → cuts_nothing s p t c ≡ true →
      goes placing s p pins t ≡ leb a t
  unfolding goes
  going-free pins e t a x y =
      (λ i. carried-passes s p t pins e i && cuts_nothing s p t (e i)) ∙ (λ i. x i && y i) ∙ and-true (leb a t)

  -- ---- AUTO REFRESH, with all banks idle

  module _ (idle : Idle s es) where
    refresh-goes : Goes s es refresh_pins (refresh_soonest d)
    unfolding deadlines_of
    refresh-goes =
        record {
          going = λ t l.
              going-free refresh_pins refresh-carried t (refresh_soonest d)
              (refresh-passed s p t 0 0 false idle) (nothing-cut s p g.old free t l r.sound w (does AUTO-REFRESH 0 0 false) (λ x. either_way x.writes false));
          soon = refresh-most r.near;
          short = never-longer s g;
        }

    pub refresh-sent : Sent s asked es refresh_pins (refresh_soonest d) (λ t. refresh_after s d t) (λ t. k)
    unfolding deadlines_of refresh_soonest standing_of
    refresh-sent =
        let t = placed placing s es refresh_pins in
        let c = does AUTO-REFRESH 0 0 false in
        let l = goes-free refresh-goes in
        let st = stays r refresh_pins c refresh-carried refresh-goes in
        sent r refresh_pins c refresh-carried refresh-goes refresh-small
        (serving-on s p asked r.serving t c st refl refl)
        (plain-sound r refresh_pins c refresh-carried refresh-goes refl refl)
        (refresh-next s p free t l r.sound (omega (arith, g.least-t_refi)) (awake-now r) 0 0 false (le_trans (waited (refresh_waits d) 0) (goes-soonest refresh-goes)))
        (near-refresh s g r.near t l)
        (λ i. stood (λ b. (p.banks b).row) (cut_end (find reads (st i))) (cut_end (find (λ x. x.writes) (st i))) (suc t) (suc (length es)))

    pub refresh-idle : Idle s (send placing s es refresh_pins)
    refresh-idle i l = ap (λ (x : Part). (x.banks i).opened) (part-is r refresh_pins (does AUTO-REFRESH 0 0 false) refresh-carried) ∙ idle i l

  -- ---- PRECHARGE of all banks

  abbrev closing-all : Command
  closing-all = does PRECHARGE 0 (2 ^ 10) true

  close-all-goes : Goes s es close_all_pins (close_all_soonest d k)
  unfolding goes deadlines_of standing_of close_all_soonest
  close-all-goes =
      record {
        going = λ t l.
            (λ i. carried-passes s p t close_all_pins close-all-carried i && cuts_nothing s p t (close-all-carried i))
            ∙ ap (λ (v : Bool). passed s p t closing-all && v) (close-all-uncut s p g.old free t l r.sound w 0 (2 ^ 10))
            ∙ close-all-passed s p t 0 (2 ^ 10) (cut_end (last_read p));
        soon = close-all-most r.near k read-end;
        short = never-longer s g;
      }

  pub close-all-sent : Sent s asked es close_all_pins (close_all_soonest d k) (λ t. close_all_after s d (pace_of s.mode) t) (λ t. k)
  unfolding deadlines_of standing_of
  close-all-sent =
      let t = placed placing s es close_all_pins in
      let l = goes-free close-all-goes in
      let st = stays r close_all_pins closing-all close-all-carried close-all-goes in
      sent r close_all_pins closing-all close-all-carried close-all-goes close-all-small
      (serving-on s p asked r.serving t closing-all st refl refl)
      (plain-sound r close_all_pins closing-all close-all-carried close-all-goes refl refl)
      (close-all-next s p free t l r.sound (awake-now r) 0 (2 ^ 10) ∙ ap (λ (m : ℕ). close_all_after s d (pace_of m) t) r.serving.mode)
      (near-close-all s g r.near t l s.mode)
      (λ i.
      stood (λ b. kept_row ((p.banks b).opened && true) t (p.banks b) i) (cut_end (find reads (st i))) (cut_end (find (λ x. x.writes) (st i)))
      (suc t) (suc (length es)))

  close-all-is : part_of s (send placing s es close_all_pins) ≡ part_after s p (placed placing s es close_all_pins) closing-all
  close-all-is = part-is r close_all_pins closing-all close-all-carried

  pub close-all-idle : Idle s (send placing s es close_all_pins)
  close-all-idle i l =
      ap (λ (x : Part). (x.banks i).opened) close-all-is ∙ shut (placed placing s es close_all_pins) (p.banks i) true refl

  pub close-all-ticks : (part_of s (send placing s es close_all_pins)).clock ≡ p.clock
  close-all-ticks = ap (λ (x : Part). x.clock) close-all-is ∙ awake-clock s p (awake r) (placed placing s es close_all_pins) closing-all

  -- ---- the commands of a request

  module _ (q : ℕ) (fits : request_fits s q ≡ true) where
    abbrev bank : ℕ
    bank = cell_bank s (first_cell q)

    abbrev row : ℕ
    row = cell_row s (first_cell q)

    lb : bank < 4
    lb = bank-small s g.sized q fits

    -- PRECHARGE of its bank, which is open
    module _ (o : Open s q es) where
      close-goes : Goes s es (close_pins s q) (close_soonest d k bank)
      unfolding deadlines_of standing_of close_soonest
      close-goes =
          record {
            going = λ t l.
                going-is (close_pins s q) (close-carried s g.sized q fits) t (soonest (close_waits d bank)) _
                (close_passed s p t bank 0 lb o) (close-uncut s p g.old free t l r.sound w bank 0);
            soon = close-most r.near k read-end bank lb;
            short = never-longer s g;
          }

      pub close-sent : Sent s asked es (close_pins s q) (close_soonest d k bank) (λ t. close_after s d (pace_of s.mode) t bank) (λ t. k)
      unfolding deadlines_of standing_of
      close-sent =
          let t = placed placing s es (close_pins s q) in
          let c = close_command s q in
          let l = goes-free close-goes in
          let st = stays r (close_pins s q) c (close-carried s g.sized q fits) close-goes in
          sent r (close_pins s q) c (close-carried s g.sized q fits) close-goes (close-small s g q fits)
          (serving-on s p asked r.serving t c st refl refl)
          (plain-sound r (close_pins s q) c (close-carried s g.sized q fits) close-goes refl refl)
          (close-next s p free t l r.sound (awake-now r) bank 0 lb ∙ ap (λ (m : ℕ). close_after s d (pace_of m) t bank) r.serving.mode)
          (near-close s g r.near t l bank lb)
          (λ i.
          stood (λ b. kept_row ((p.banks b).opened && eqb b bank) t (p.banks b) i) (cut_end (find reads (st i))) (cut_end (find (λ x. x.writes) (st i)))
          (suc t) (suc (length es)))

      close-is : part_of s (send placing s es (close_pins s q)) ≡ part_after s p (placed placing s es (close_pins s q)) (close_command s q)
      close-is = part-is r (close_pins s q) (close_command s q) (close-carried s g.sized q fits)

      pub close-shuts : ((part_of s (send placing s es (close_pins s q))).banks bank).opened ≡ false
      close-shuts =
          ap (λ (x : Part). (x.banks bank).opened) close-is
          ∙ shut (placed placing s es (close_pins s q)) (p.banks bank) (eqb bank bank) (eq-eqb bank bank refl)

      pub close-ticks : (part_of s (send placing s es (close_pins s q))).clock ≡ p.clock
      close-ticks = ap (λ (x : Part). x.clock) close-is ∙ awake-clock s p (awake r) (placed placing s es (close_pins s q)) (close_command s q)

    -- ACTIVE of its bank, which is idle
    module _ (idle : (p.banks bank).opened ≡ false) where
      active-goes : Goes s es (active_pins s q) (active_soonest d bank)
      unfolding deadlines_of
      active-goes =
          record {
            going = λ t l.
                going-free (active_pins s q) (active-carried s g.sized q fits) t (active_soonest d bank)
                (active-passed s p t bank row (eqb (bit 10 row) 1) lb (row_low s g q fits) idle)
                (nothing-cut s p g.old free t l r.sound w (active_command s q) (λ x. either_way x.writes false));
            soon = active-most r.near bank lb;
            short = never-longer s g;
          }

      pub active-sent : Sent s asked es (active_pins s q) (active_soonest d bank) (λ t. active_after s d t bank) (λ t. set k (ROW + bank) row)
      unfolding deadlines_of standing_of
      active-sent =
          let t = placed placing s es (active_pins s q) in
          let c = active_command s q in
          let l = goes-free active-goes in
          let st = stays r (active_pins s q) c (active-carried s g.sized q fits) active-goes in
          sent r (active_pins s q) c (active-carried s g.sized q fits) active-goes (active-small s g q fits)
          (serving-on s p asked r.serving t c st refl refl)
          (plain-sound r (active_pins s q) c (active-carried s g.sized q fits) active-goes refl refl)
          (active-next s p free t l r.sound (awake-now r) bank row (eqb (bit 10 row) 1) lb)
          (near-active s g r.near t l bank lb)
          ((λ i.
          stood (λ b. opened-row (eqb b bank) row t (p.banks b) i) (cut_end (find reads (st i))) (cut_end (find (λ x. x.writes) (st i)))
          (suc t) (suc (length es)))
          ∙ row-stood (λ b. (p.banks b).row) row (cut_end (last_read p)) (cut_end (last_write p)) (suc t) (suc (length es)) free (length es) bank lb)

      active-is : part_of s (send placing s es (active_pins s q)) ≡ part_after s p (placed placing s es (active_pins s q)) (active_command s q)
      active-is = part-is r (active_pins s q) (active_command s q) (active-carried s g.sized q fits)

      pub active-opens : OnRow s q (send placing s es (active_pins s q))
      active-opens =
          record {
            opened = ap (λ (x : Part). (x.banks bank).opened) active-is ∙ rw (eq-eqb bank bank refl);
            row = ap (λ (x : Part). (x.banks bank).row) active-is ∙ active-row s p (placed placing s es (active_pins s q)) q;
          }

      pub active-ticks : (part_of s (send placing s es (active_pins s q))).clock ≡ p.clock
      active-ticks =
          ap (λ (x : Part). x.clock) active-is ∙ awake-clock s p (awake r) (placed placing s es (active_pins s q)) (active_command s q)

    -- READ or WRITE, with its row open
    module _ (closed : Bool) (o : OnRow s q es) where
      abbrev write : Bool
      write = asks_write q

      abbrev address : ℕ
      address = column_pins closed (cell_column s (first_cell q))

      abbrev c : Command
      c = bursts s p g.old r.serving.mode bank address closed lb o.opened write

      carried : command_of (burst_pins closed s q) ≡ c
      carried = burst-carried s g.sized q fits closed

      burst-goes : Goes s es (burst_pins closed s q) (burst_soonest write d k bank)
      unfolding goes deadlines_of standing_of
      burst-goes =
          record {
            going = λ t l.
                (λ i. carried-passes s p t (burst_pins closed s q) carried i && cuts_nothing s p t (carried i))
                ∙ burst-going s p g.old r.serving.mode bank address closed lb o.opened free t l r.sound w free (length es) write;
            soon =
                burst-most r.near k read-end bank lb
                (end-most s free (λ x. x.writes) r.sound.bursts (serving-moded r.serving.bursts)) write;
            short = never-longer s g;
          }

      pub burst-sent : Sent s (q ∷ asked) es (burst_pins closed s q) (burst_soonest write d k bank)
          (λ t. burst_after closed write s d t bank) (λ t. burst_ends closed write s k t)
      unfolding deadlines_of standing_of
      burst-sent =
          let t = placed placing s es (burst_pins closed s q) in
          let l = goes-free burst-goes in
          let soon = goes-soonest burst-goes in
          let st = stays r (burst_pins closed s q) c carried burst-goes in
          let column = column-back s g.sized closed (cell_column s (first_cell q)) (column-small s g.sized q) in
          sent r (burst_pins closed s q) c carried burst-goes (burst-small s g q fits closed)
          (serving-more s p asked r.serving t q address closed st (record { row = o.row; column = column }))
          (burst-sound s p g.old r.serving.mode bank address closed lb o.opened free t l r.sound w free (length es) write soon)
          (burst-leaves s p g.old r.serving.mode bank address closed lb o.opened free t l r.sound w free (length es) write soon (awake-now r))
          (burst-near s p g.old r.serving.mode bank address closed lb o.opened g l r.near write)
          (burst-stood s p g.old r.serving.mode bank address closed lb o.opened t write st (suc t) (suc (length es)) free (length es))

      pub burst-ticks : (part_of s (send placing s es (burst_pins closed s q))).clock ≡ p.clock
      burst-ticks =
          ap (λ (x : Part). x.clock) (part-is r (burst_pins closed s q) c carried)
          ∙ burst-clock s p g.old r.serving.mode bank address closed lb o.opened (awake r) (placed placing s es (burst_pins closed s q)) write
