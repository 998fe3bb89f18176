-- What the commands ask of what they are lent.
use Rattle.std.specs.Prelude.{ℕ, ◌+◌, ◌*◌, ◌≤◌, List, length}
use Rattle.deadlines.specs.Deadlines.{at}
use Rattle.plan.specs.Behind.{EVENTS}
use Rattle.plan.specs.Draft.{Draft}
use Rattle.soonest.specs.declared.State.{State}
use Rattle.soonest.specs.Standing.{standing}

abbrev pub draft : State → List ℕ → Draft
draft x w = record { deadlines = x.deadlines; standing = standing x; words = w }

-- So many events more have their words. A clause and no type: each function asks for a number of its own, and what it is lent
-- stands in two places.
pub record Room (x : State) (words : List ℕ) (n : ℕ) : Type 0 where
  pub more : 2 * at (standing x) EVENTS + 2 * n ≤ length words
