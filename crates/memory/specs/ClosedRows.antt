-- Closed rows as they were scheduled before rows could stay open: for each request ACTIVE, then READ or WRITE with auto
-- precharge, for each refresh AUTO REFRESH, each at the earliest cycle at which the rules pass it.
use Rattle.std.specs.Prelude.{ℕ, suc, Bool, true, cond, List, [], ◌∷◌, ◌++◌}
use Rattle.std.proofs.Math.Option.{Option, none, some}
use Rattle.reading.specs.Settings.{Settings}
use Rattle.reading.specs.Capture.{Event, last_cycle}
use Rattle.reading.specs.RefreshClock.{in_time}
use Rattle.reading.specs.Part.{start, run}
use Rattle.reading.specs.Schedule.{Schedule, planned, active_pins, burst_pins, refresh_pins, earliest, free_from, last_from, passes, when_served}

module _ (rs : List ℕ) (s : Settings) where
  abbrev pub ruled : List Event → ℕ → List Event
  ruled es pins =
      es ++ (record { cycle = earliest (passes rs s (run s (start s) es) pins) (free_from 0 es) last_cycle; pins = pins } ∷ [])

  unfoldable pub ruled_request : List Event → ℕ → List Event
  ruled_request es q = ruled (ruled es (active_pins s q)) (burst_pins true s q)

  unfoldable pub ruled_refresh : List Event → List Event
  ruled_refresh es = ruled es refresh_pins

  unfoldable pub ruled_in_time : List Event → Bool
  ruled_in_time es = in_time s (run s (start s) es).clock (last_from 0 (ruled_refresh es))

  unfoldable pub ruled_served : List Event → ℕ → Option (List Event)
  ruled_served es q =
      let alone = ruled_request es q in
      let behind = ruled_request (ruled_refresh es) q in
      cond (ruled_in_time alone) (some alone) (cond (ruled_in_time behind) (some behind) none)

  unfoldable pub closed_from : List Event → ℕ → List ℕ → Schedule
  closed_from es i [] = planned es
  closed_from es i (q ∷ qs) = when_served (ruled_served es q) (λ next. closed_from next (suc i) qs) i

  unfoldable pub closed_rows : List ℕ → Schedule
  closed_rows qs = closed_from [] 0 qs
