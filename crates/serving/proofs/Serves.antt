-- What each part of a turn leaves is what that part makes of a draft.
use Prim.Native.Nat.{ℕ, ◌+◌}
use mathlib.Core.Bool.{Bool, true, false}
use mathlib.Core.List.{List, []}
use mathlib.Core.Path.{◌≡◌, sym, ap, ◌∙◌}
use lib.Dec.{ltb}
use lib.ListN.{length}
use borrow.Author.Tests.{eq-eqb, ne_eqb}
use Rattle.reading.specs.Settings.{Settings}
use Rattle.reading.specs.Schedule.{asks_write, first_cell, cell_bank, cell_row, burst_pins}
use Rattle.deadlines.specs.Deadlines.{OPENED, OVERDUE, at, pace_of, all_idle, close_all_after}
use Rattle.plan.specs.Behind.{ROW, FREE}
use Rattle.plan.specs.Soonest.{close_all_soonest, refresh_soonest}
use Rattle.plan.specs.Draft.{Draft, cycle_for, activating, closing_bank, bursting, opening, requesting, closing_all, idling, refresh_at, refreshing_idle, refreshing, closed_refresh_at, timely}
use Rattle.soonest.specs.declared.State.{State}
use Rattle.soonest.specs.Standing.{standing}
use Rattle.soonest.proofs.Places.{free-is}
use Rattle.drafts.specs.Room.{draft}

-- ---- the row

module _ (s : Settings) (b row : ℕ) (x : Draft) where
  pub opened-idle : at x.deadlines (OPENED + b) ≡ 0 → {y : Draft} → y ≡ activating s b row x → y ≡ opening s b row x
  unfolding opening
  opened-idle e f = rw (eq-eqb (at x.deadlines (OPENED + b)) 0 e) f

  module _ (busy : at x.deadlines (OPENED + b) ≡ 0 → ⊥) where
    pub opened-there : at x.standing (ROW + b) ≡ row → x ≡ opening s b row x
    unfolding opening
    opened-there e = rw (ne_eqb (at x.deadlines (OPENED + b)) 0 busy, eq-eqb (at x.standing (ROW + b)) row e)

    pub opened-other : (at x.standing (ROW + b) ≡ row → ⊥) → {y z : Draft} → y ≡ closing_bank s b x → z ≡ activating s b row y → z ≡ opening s b row x
    unfolding opening
    opened-other e f g =
        rw (ne_eqb (at x.deadlines (OPENED + b)) 0 busy, ne_eqb (at x.standing (ROW + b)) row e) (g ∙ ap (activating s b row) f)

-- ---- a request, a refresh

module _ (s : Settings) (x : Draft) {y z : Draft} where
  pub requested : (q : ℕ) (closed : Bool) {b row pins : ℕ} {write : Bool} → b ≡ cell_bank s (first_cell q) → row ≡ cell_row s (first_cell q) → write ≡ asks_write q →
      pins ≡ burst_pins closed s q → y ≡ opening s b row x → z ≡ bursting s closed write b pins y → z ≡ requesting s q closed x
  unfolding requesting
  requested q closed bb rr ww pp e f = f ∙ (λ i. bursting s closed (ww i) (bb i) (pp i) ((e ∙ (λ j. opening s (bb j) (rr j) x)) i))

  pub refreshed : y ≡ idling s x → z ≡ refreshing_idle s y → z ≡ refreshing s x
  unfolding refreshing
  refreshed e f = f ∙ ap (refreshing_idle s) e

module _ (s : Settings) (x : Draft) {v : Bool} (told : v ≡ all_idle x.deadlines) where
  pub idle-already : v ≡ true → x ≡ idling s x
  unfolding idling
  idle-already e = rw (sym told ∙ e)

  pub idle-closed : v ≡ false → {y : Draft} → y ≡ closing_all s x → y ≡ idling s x
  unfolding idling
  idle-closed e f = rw (sym told ∙ e) f

-- ---- the test

module _ (s : Settings) (x : State) (four : length x.rows ≡ 4) where
  pub closed_at : {m : List ℕ} → m ≡ pace_of s.mode → {first t after soonest r : ℕ} → first ≡ close_all_soonest x.deadlines (standing x) → t ≡ cycle_for x.free first →
      {e : List ℕ} → e ≡ close_all_after s x.deadlines m t → after ≡ t + 1 → soonest ≡ refresh_soonest e → r ≡ cycle_for after soonest → r ≡ closed_refresh_at s (draft x [])
  unfolding closed_refresh_at
  closed_at mm {first = first} ff tt ee aa ss rr =
      let at_once = tt ∙ ap (λ (f : ℕ). cycle_for f first) (sym (free-is x four)) ∙ ap (cycle_for (at (standing x) FREE)) ff in
      let left = ee ∙ (λ i. close_all_after s x.deadlines (mm i) (at_once i)) in
      rr ∙ (λ i. cycle_for ((aa ∙ ap (λ (u : ℕ). u + 1) at_once) i) ((ss ∙ ap refresh_soonest left) i))

  module _ {v : Bool} (told : v ≡ all_idle x.deadlines) where
    pub timely-idle : v ≡ true → {soonest t : ℕ} → soonest ≡ refresh_soonest x.deadlines → t ≡ cycle_for x.free soonest →
        ltb t (at x.deadlines OVERDUE) ≡ timely s (draft x [])
    unfolding timely refresh_at
    timely-idle e {soonest} ss tt =
        rw (sym told ∙ e)
        (ap (λ (t : ℕ). ltb t (at x.deadlines OVERDUE)) (tt ∙ ap (λ (f : ℕ). cycle_for f soonest) (sym (free-is x four)) ∙ ap (cycle_for (at (standing x) FREE)) ss))

    pub timely-open : v ≡ false → {t : ℕ} → t ≡ closed_refresh_at s (draft x []) → ltb t (at x.deadlines OVERDUE) ≡ timely s (draft x [])
    unfolding timely
    timely-open e tt = rw (sym told ∙ e) (ap (λ (t : ℕ). ltb t (at x.deadlines OVERDUE)) tt)
