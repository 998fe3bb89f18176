-- What a command's function leaves is what the command makes of a draft.
use Prim.Native.Nat.{ℕ, ◌+◌, ◌*◌}
use mathlib.Core.Bool.{Bool, true, false}
use mathlib.Core.List.{List, [], ◌∷◌}
use mathlib.Core.Path.{◌≡◌, sym, ap, ◌∙◌}
use lib.ListN.{length, set}
use lib.Seq.{sets}
use Rattle.reading.specs.Settings.{Settings}
use Rattle.reading.specs.Commands.{ACTIVE, PRECHARGE, pins_of}
use Rattle.reading.specs.Schedule.{close_all_pins, refresh_pins}
use Rattle.deadlines.specs.Deadlines.{at, pace_of, active_after, read_after, write_after, close_after, close_all_after, refresh_after}
use Rattle.plan.specs.Behind.{ROW, READ-END, WRITE-END, FREE, EVENTS}
use Rattle.plan.specs.Soonest.{active_soonest, burst_soonest, close_soonest, close_all_soonest, refresh_soonest}
use Rattle.plan.specs.Draft.{cycle_for, noted, placed_at, end_of, burst_after, burst_ends, activating, closing_bank, bursting, closing_all, refresh_at, refreshing_idle}
use Rattle.soonest.specs.declared.State.{State}
use Rattle.soonest.specs.Standing.{standing}
use Rattle.soonest.proofs.Places.{free-is, events-are}
use Rattle.drafts.specs.Room.{draft}

-- a command's cycle is worked out in x, its effect makes y of x, and it is noted in z
module _ (x : State) (w₀ : List ℕ) (four : length x.rows ≡ 4) {t soonest : ℕ} (at-cycle : t ≡ cycle_for x.free soonest) {pins : ℕ} {d k : List ℕ} {n : ℕ} (n-is : n ≡ x.events)
    (z : State) {w : List ℕ} (d-is : z.deadlines ≡ d) (k-is : standing z ≡ set (set k FREE (t + 1)) EVENTS (n + 1)) (w-is : w ≡ sets w₀ (2 * n) (t ∷ pins ∷ [])) where
  noted-as : (due told : ℕ) → soonest ≡ due → pins ≡ told → (D K : ℕ → List ℕ) → d ≡ D t → k ≡ K t →
      draft z w ≡ noted (draft x w₀) (placed_at (draft x w₀) due) told (D (placed_at (draft x w₀) due)) (K (placed_at (draft x w₀) due))
  unfolding noted
  noted-as due told ss pp D K dd kk =
      let tt : t ≡ placed_at (draft x w₀) due = at-cycle ∙ ap (λ (f : ℕ). cycle_for f soonest) (sym (free-is x four)) ∙ ap (cycle_for (at (standing x) FREE)) ss in
      let count : n ≡ at (standing x) EVENTS = n-is ∙ sym (events-are x four) in
      λ i.
      record {
        deadlines = (d-is ∙ dd ∙ ap D tt) i;
        standing = (k-is ∙ (λ j. set (set ((kk ∙ ap K tt) j) FREE (tt j + 1)) EVENTS (count j + 1))) i;
        words = (w-is ∙ (λ j. sets w₀ (2 * count j) (tt j ∷ pp j ∷ []))) i;
      }

  module _ (s : Settings) where
    module _ (b : ℕ) where
      pub activated : (row : ℕ) → soonest ≡ active_soonest x.deadlines b → pins ≡ pins_of ACTIVE b row → d ≡ active_after s x.deadlines t b →
          k ≡ set (standing x) (ROW + b) row → draft z w ≡ activating s b row (draft x w₀)
      unfolding activating
      activated row ss pp dd kk =
          noted-as (active_soonest x.deadlines b) (pins_of ACTIVE b row) ss pp
          (λ u. active_after s x.deadlines u b) (λ u. set (standing x) (ROW + b) row) dd kk

      pub closed : {m : List ℕ} → m ≡ pace_of s.mode → soonest ≡ close_soonest x.deadlines (standing x) b → pins ≡ pins_of PRECHARGE b 0 →
          d ≡ close_after s x.deadlines m t b → k ≡ standing x → draft z w ≡ closing_bank s b (draft x w₀)
      unfolding closing_bank
      closed mm ss pp dd kk =
          noted-as (close_soonest x.deadlines (standing x) b) (pins_of PRECHARGE b 0) ss pp
          (λ u. close_after s x.deadlines (pace_of s.mode) u b) (λ u. standing x) (dd ∙ (λ i. close_after s x.deadlines (mm i) t b)) kk

      pub burst : (closed write : Bool) (told : ℕ) → soonest ≡ burst_soonest write x.deadlines (standing x) b → pins ≡ told →
          d ≡ burst_after closed write s x.deadlines t b → k ≡ burst_ends closed write s (standing x) t →
          draft z w ≡ bursting s closed write b told (draft x w₀)
      unfolding bursting
      burst closed write told ss pp dd kk =
          noted-as (burst_soonest write x.deadlines (standing x) b) told ss pp
          (λ u. burst_after closed write s x.deadlines u b) (λ u. burst_ends closed write s (standing x) u) dd kk

    pub all_closed : {m : List ℕ} → m ≡ pace_of s.mode → soonest ≡ close_all_soonest x.deadlines (standing x) → pins ≡ close_all_pins →
        d ≡ close_all_after s x.deadlines m t → k ≡ standing x → draft z w ≡ closing_all s (draft x w₀)
    unfolding closing_all
    all_closed mm ss pp dd kk =
        noted-as (close_all_soonest x.deadlines (standing x)) close_all_pins ss pp
        (λ u. close_all_after s x.deadlines (pace_of s.mode) u) (λ u. standing x) (dd ∙ (λ i. close_all_after s x.deadlines (mm i) t)) kk

    pub refreshed : soonest ≡ refresh_soonest x.deadlines → pins ≡ refresh_pins → d ≡ refresh_after s x.deadlines t →
        k ≡ standing x → draft z w ≡ refreshing_idle s (draft x w₀)
    unfolding refreshing_idle refresh_at
    refreshed ss pp dd kk =
        noted-as (refresh_soonest x.deadlines) refresh_pins ss pp (λ u. refresh_after s x.deadlines u) (λ u. standing x) dd kk

-- ---- READ or WRITE: what is given by it

module _ (s : Settings) (D K : List ℕ) (t b : ℕ) (closed : Bool) {m : List ℕ} (mm : m ≡ pace_of s.mode) {end : ℕ} (ends : end ≡ end_of closed s t) where
  pub gave-write : {write : Bool} → write ≡ true → {d : List ℕ} → d ≡ write_after s D m t b closed →
      (d ≡ burst_after closed write s D t b) × (set K WRITE-END end ≡ burst_ends closed write s K t)
  gave-write e dd = rw e (dd ∙ ap (λ (l : List ℕ). write_after s D l t b closed) mm, ap (set K WRITE-END) ends)

  pub gave_read : {write : Bool} → write ≡ false → {d : List ℕ} → d ≡ read_after s D m t b closed →
      (d ≡ burst_after closed write s D t b) × (set K READ-END end ≡ burst_ends closed write s K t)
  gave_read e dd = rw e (dd ∙ ap (λ (l : List ℕ). read_after s D l t b closed) mm, ap (set K READ-END) ends)
