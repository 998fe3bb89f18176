-- The refresh clock: how many AUTO REFRESHes are owed. Rule 14 and the scheduler's test ask this alone.
use Rattle.std.specs.Prelude.{ℕ, ◌+◌, ◌-◌, ◌/◌, Bool, leb}
use Rattle.reading.specs.Search.{lesser}
use Rattle.reading.specs.Settings.{Settings}

-- one more is owed at each multiple of tREFI behind the cycle `origin`; so many have been paid
pub record Clock : Type 0 where
  pub origin : ℕ
  pub paid : ℕ

abbrev pub clock_at_start : Clock
clock_at_start = record { origin = 0; paid = 0 }

-- the multiples up to cycle t, its own among them, that have not been paid
abbrev pub owed : Settings → Clock → ℕ → ℕ
owed s c t = (t - c.origin) / s.t_refi - c.paid

-- an AUTO REFRESH pays one, if one is owed
abbrev pub clock_after_refresh : Settings → ℕ → Clock → Clock
clock_after_refresh s t c = record { origin = c.origin; paid = c.paid + lesser 1 (owed s c t) }

-- nothing is owed at the event that leaves self refresh, and the multiples run from there
abbrev pub clock_after_sleep : Settings → ℕ → Clock
clock_after_sleep s t = record { origin = t; paid = 0 }

-- eight may wait
abbrev pub in_time : Settings → Clock → ℕ → Bool
in_time s c t = leb (owed s c t) 8
