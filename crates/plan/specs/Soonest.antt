-- The first cycle at which rules 4 to 13 let a command through and it cuts nothing: the latest of the deadlines d that they
-- ask of it, and of the ends of bursts that are kept in k.
use Rattle.std.specs.Prelude.{ℕ, ◌+◌, Bool, cond, List, [], ◌∷◌, eqb}
use Rattle.reading.specs.Search.{later}
use Rattle.deadlines.specs.Deadlines.{OPENED, CLOSE, WRITTEN, BUSY, LAST, at, Wait, asks, active_waits, read_waits, write_waits, refresh_waits, soonest}
use Rattle.plan.specs.Behind.{READ-END, WRITE-END}

unfoldable pub active_soonest : List ℕ → ℕ → ℕ
active_soonest d b = soonest (active_waits d b)

unfoldable pub read_soonest : List ℕ → List ℕ → ℕ → ℕ
read_soonest d k b = later (soonest (read_waits d b)) (at k READ-END)

unfoldable pub write_soonest : List ℕ → List ℕ → ℕ → ℕ
write_soonest d k b = later (soonest (write_waits d b)) (at k WRITE-END)

abbrev pub burst_soonest : Bool → List ℕ → List ℕ → ℕ → ℕ
burst_soonest write d k b = cond write (write_soonest d k b) (read_soonest d k b)

-- PRECHARGE of a bank that is open; a read of that bank can be cut
abbrev pub close_waits : List ℕ → ℕ → List Wait
close_waits d b = asks 4 (at d BUSY) ∷ asks 9 (at d (CLOSE + b)) ∷ asks 10 (at d (WRITTEN + b)) ∷ []

unfoldable pub close_soonest : List ℕ → List ℕ → ℕ → ℕ
close_soonest d k b = later (soonest (close_waits d b)) (cond (eqb (at d LAST) b) (at k READ-END) 0)

-- PRECHARGE of all banks asks nothing of those that are idle
abbrev pub open_till : List ℕ → ℕ → ℕ → ℕ
open_till d place i = cond (eqb (at d (OPENED + i)) 0) 0 (at d (place + i))

unfoldable pub all_till : List ℕ → ℕ → ℕ → ℕ
all_till d place rest = later (open_till d place 0) (later (open_till d place 1) (later (open_till d place 2) (later (open_till d place 3) rest)))

unfoldable pub close_all_soonest : List ℕ → List ℕ → ℕ
close_all_soonest d k = later (at d BUSY) (all_till d CLOSE (all_till d WRITTEN (at k READ-END)))

unfoldable pub refresh_soonest : List ℕ → ℕ
refresh_soonest d = soonest (refresh_waits d)
