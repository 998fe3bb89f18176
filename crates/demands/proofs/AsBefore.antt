-- Closed rows, asked for by name, give what they gave: the same refusals, the same bytes.
use Prim.Native.Nat.{ℕ}
use mathlib.Core.Bool.{Bool, true, false, not}
use mathlib.Core.List.{List}
use mathlib.Core.Option.{Option, none, some}
use mathlib.Core.Path.{◌≡◌, refl, ap}
use lib.Dec.{eqb}
use lib.ListN.{length}
use borrow.Author.Tests.{eqb-true, not-false}
use Rattle.reading.specs.Search.{given}
use Rattle.reading.specs.Settings.{settings_count, settings_of, bad_setting}
use Rattle.reading.specs.Rules.{placing}
use Rattle.reading.specs.Schedule.{Schedule, bad_request, schedule_by, capture_of}
use Rattle.reading.specs.Answers.{Answer, unless, fitting, leaves, when_planned, schedule_outcome}
use Rattle.memory.specs.ClosedRows.{closed_rows}
use Rattle.memory.proofs.Closed.{closed-as-before}
use Rattle.plan.proofs.Ranged.{fourteen-old, ranged}
use Rattle.plan.proofs.Ready.{requests-fit}
use Rattle.plan.proofs.Captured.{settings-fit}
use Rattle.demands.specs.ClosedRows.{closed_outcome}

pub closed-rows-stay : (ws qs out : List ℕ) → schedule_outcome ws qs 1 out ≡ closed_outcome ws qs out
unfolding schedule_outcome
closed-rows-stay ws qs out =
    ap (λ (a : Answer (List ℕ)). leaves a out) (go (not (eqb (length ws) settings_count)) refl (bad_setting ws) refl (bad_request (settings_of ws) qs) refl)
  where
    rest : Schedule → Answer (List ℕ)
    rest x = when_planned x (λ es. fitting out (capture_of ws es))

    same : length ws ≡ 14 → bad_setting ws ≡ none → bad_request (settings_of ws) qs ≡ none →
        rest (schedule_by placing (settings_of ws) true qs) ≡ rest (closed_rows placing (settings_of ws) qs)
    same fourteen fine fit =
        ap rest (closed-as-before placing (settings_of ws) (ranged ws (settings-fit ws fourteen fine) (fourteen-old ws fourteen)).sized qs (requests-fit (settings_of ws) qs fit))

    go : (count : Bool) → not (eqb (length ws) settings_count) ≡ count → (bad : Option ℕ) → bad_setting ws ≡ bad → (asked : Option ℕ) →
        bad_request (settings_of ws) qs ≡ asked →
        unless 2 (given 0 count) (unless 3 bad (unless 5 asked (rest (schedule_by placing (settings_of ws) true qs)))) ≡
        unless 2 (given 0 count) (unless 3 bad (unless 5 asked (rest (closed_rows placing (settings_of ws) qs))))
    go true e bad f asked g = refl
    go false e (some i) f asked g = refl
    go false e none f (some i) g = refl
    go false e none f none g = same (eqb-true (length ws) 14 (not-false _ e)) f g
