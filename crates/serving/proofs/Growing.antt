-- How many events more each part of a turn can have, so that there is room for the next.
use Prim.Native.Nat.{ℕ, zero, suc, ◌+◌, ◌*◌, ◌≤◌}
use mathlib.Core.Bool.{Bool, true, false, cond}
use mathlib.Core.List.{List, [], ◌∷◌}
use mathlib.Core.Path.{◌≡◌, refl, ap, ◌∙◌}
use native.Mathlib.Nat.{le_refl}
use native.Mathlib.Omega.{arith}
use lib.Dec.{eqb}
use lib.ListN.{length, set}
use lib.Seq.{length-sets}
use Rattle.reading.specs.Settings.{Settings}
use Rattle.reading.specs.Schedule.{cell_row, first_cell, cell_bank}
use Rattle.deadlines.specs.Deadlines.{OPENED, at, all_idle}
use Rattle.plan.specs.Behind.{ROW, FREE, EVENTS}
use Rattle.plan.specs.Draft.{Draft, noted, activating, closing_bank, bursting, opening, requesting, closing_all, idling, refreshing_idle, refreshing}
use Rattle.soonest.specs.declared.State.{State}
use Rattle.soonest.specs.Standing.{standing}
use Rattle.drafts.specs.Room.{Room, draft}

pub record Grows (n : ℕ) (x y : Draft) : Type 0 where
  pub count : at y.standing EVENTS ≤ at x.standing EVENTS + n
  pub size : length y.words ≡ length x.words

grows-on : {n m : ℕ} {x y z : Draft} → Grows n x y → Grows m y z → Grows (n + m) x z
grows-on a b = record { count = omega (arith, a.count, b.count); size = b.size ∙ a.size }

grows-less : {n m : ℕ} {x y : Draft} → Grows n x y → n ≤ m → Grows m x y
grows-less a l = record { count = omega (arith, a.count); size = a.size }

pub grows_none : (x : Draft) → Grows 0 x x
grows_none x = record { count = omega arith; size = refl }

-- what is stored is what is read, or nothing is
at_most : (l : List ℕ) (i v : ℕ) → at (set l i v) i ≤ v
at_most [] i v = omega arith
at_most (y ∷ l) zero v = le_refl v
at_most (y ∷ l) (suc i) v = at_most l i v

noted-grows : (x : Draft) (t pins : ℕ) (d k : List ℕ) → Grows 1 x (noted x t pins d k)
unfolding noted
noted-grows x t pins d k =
    record {
      count = at_most (set k FREE (t + 1)) EVENTS (at x.standing EVENTS + 1);
      size = length-sets x.words (2 * at x.standing EVENTS) (t ∷ pins ∷ []);
    }

either : {n : ℕ} {x y z : Draft} (v : Bool) → Grows n x y → Grows n x z → Grows n x (cond v y z)
either true a b = a
either false a b = b

module _ (s : Settings) where
  module _ (b : ℕ) where
    active-grows : (row : ℕ) (x : Draft) → Grows 1 x (activating s b row x)
    unfolding activating
    active-grows row x = noted-grows x _ _ _ _

    pub close-grows : (x : Draft) → Grows 1 x (closing_bank s b x)
    unfolding closing_bank
    close-grows x = noted-grows x _ _ _ _

    pub opening-grows : (row : ℕ) (x : Draft) → Grows 2 x (opening s b row x)
    unfolding opening
    opening-grows row x =
        either (eqb (at x.deadlines (OPENED + b)) 0) (grows-less (active-grows row x) (omega arith))
        (either (eqb (at x.standing (ROW + b)) row) (grows-less (grows_none x) (omega arith))
        (grows-on (close-grows x) (active-grows row (closing_bank s b x))))

  pub request-grows : (q : ℕ) (closed : Bool) (x : Draft) → Grows 3 x (requesting s q closed x)
  unfolding requesting bursting
  request-grows q closed x =
      let b = cell_bank s (first_cell q) in
      let row = cell_row s (first_cell q) in
      grows-on (opening-grows b row x) (noted-grows (opening s b row x) _ _ _ _)

  pub idle-grows : (x : Draft) → Grows 1 x (idling s x)
  unfolding idling closing_all
  idle-grows x = either (all_idle x.deadlines) (grows-less (grows_none x) (omega arith)) (noted-grows x _ _ _ _)

  pub refresh-grows : (x : Draft) → Grows 2 x (refreshing s x)
  unfolding refreshing refreshing_idle
  refresh-grows x = grows-on (idle-grows x) (noted-grows (idling s x) _ _ _ _)

-- there is room for the rest
pub room_for : {x : State} {w : List ℕ} (n m : ℕ) → Room x w n → m ≤ n → Room x w m
room_for n m r l = record { more = omega (arith, r.more) }

module _ (x : State) {w : List ℕ} {y : Draft} where
  pub room_after : (n m : ℕ) → Room x w (n + m) → Grows n (draft x w) y → (x' : State) → {w' : List ℕ} → draft x' w' ≡ y → Room x' w' m
  room_after n m r g x' {w'} e =
      let count : at (standing x') EVENTS ≡ at y.standing EVENTS = ap (λ (z : Draft). at z.standing EVENTS) e in
      let size : length w' ≡ length y.words = ap (λ (z : Draft). length z.words) e in
      record { more = omega (arith, r.more, g.count, g.size, count, size) }

  -- the standing of before, with words that are as many
  pub room-again : (n m : ℕ) → Room x w n → m ≤ n → {l : ℕ} → Grows l (draft x w) y → (x' : State) → {w' : List ℕ} → draft x' w' ≡ y → Room x w' m
  room-again n m r l g x' {w'} e =
      let size : length w' ≡ _ = ap (λ (z : Draft). length z.words) e in record { more = omega (arith, r.more, g.size, size) }
