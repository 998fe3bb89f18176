-- Where it need not be asked whether a request alone is in time.
use Rattle.std.specs.Prelude.{ℕ, ◌+◌, ◌^◌, ◌<◌, Bool, true, cond, List, ◌≡◌, ltb}
use Rattle.reading.specs.Settings.{Settings}
use Rattle.deadlines.specs.Deadlines.{OVERDUE, at}
use Rattle.plan.specs.Draft.{timely, alone}
use Rattle.soonest.specs.declared.State.{State}
use Rattle.drafts.specs.Room.{draft}

-- the ninth refresh owed is more than the margin away
abbrev pub far : ℕ → State → Bool
far margin x = ltb (x.free + margin) (at x.deadlines OVERDUE)

pub record Sure (s : Settings) (closed : Bool) (q margin : ℕ) (x : State) (words : List ℕ) : Type 0 where
  pub small : x.free + margin < 2 ^ 64
  pub sure : far margin x ≡ true → timely s (alone s closed q (draft x words)) ≡ true

-- what stood before a request is set aside where it may have to be taken back
abbrev pub set_aside : Bool → State → State → State
set_aside sure old before = cond sure old before
