-- Sleep: what CKE does to the part, and what it asks of events.
use Rattle.std.specs.Prelude.{ℕ, Bool, false, cond, not, ◌&&◌, ◌||◌}
use Rattle.std.proofs.Math.Option.{Option, none, some}
use Rattle.reading.specs.Search.{after}
use Rattle.reading.specs.Settings.{Settings}
use Rattle.reading.specs.Commands.{Command, AUTO-REFRESH, is, quiet}

-- asleep or awake; the sleep that it is in, or was in last, is self refresh, else power-down; awake, when it was left
pub record Sleep : Type 0 where
  pub asleep : Bool
  pub self : Bool
  pub left : Option ℕ

-- a capture starts awake
abbrev pub sleep_at_start : Sleep
sleep_at_start = record { asleep = false; self = false; left = none }

-- CKE falls: an entry
abbrev pub enters : Sleep → Command → Bool
enters x c = c.low && not x.asleep

-- CKE rises
abbrev pub wakes : Sleep → Command → Bool
wakes x c = x.asleep && not c.low

abbrev pub in_self_refresh : Sleep → Bool
in_self_refresh x = x.asleep && x.self

-- CKE holds between events; AUTO REFRESH enters self refresh, NOP and DESELECT power-down
abbrev pub sleep_after : ℕ → Command → Sleep → Sleep
sleep_after t c x =
    record {
      asleep = c.low;
      self = cond (enters x c) (is AUTO-REFRESH c) x.self;
      left = cond (enters x c) none (cond (wakes x c) (some t) x.left);
    }

-- leaving is over: tXSR after self refresh, tXP after power-down
abbrev pub rested : Settings → Sleep → ℕ → Bool
rested s x t = after (cond x.self s.t_xsr s.t_xp) x.left t

-- asleep only NOP and DESELECT come; they, or AUTO REFRESH, enter when the data of reads and writes are over;
-- an entry, and awake every other command, waits until leaving is over
abbrev pub sleep_allows : Settings → Sleep → Bool → ℕ → Command → Bool
sleep_allows s x data_over t c =
    cond x.asleep (quiet c)
    (cond c.low ((quiet c || is AUTO-REFRESH c) && (data_over && rested s x t)) (quiet c || rested s x t))
