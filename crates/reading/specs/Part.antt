-- The part, and what each command does to it.
use Rattle.std.specs.Prelude.{ℕ, ◌+◌, ◌-◌, Bool, true, false, cond, not, ◌&&◌, ◌||◌, List, [], ◌∷◌, map, leb, ltb, eqb}
use Rattle.std.proofs.Math.Option.{Option, none, some}
use Rattle.reading.specs.Search.{ever, or_zero, find, lesser, later}
use Rattle.reading.specs.Mode.{h}
use Rattle.reading.specs.Settings.{Settings, newer}
use Rattle.reading.specs.RefreshClock.{Clock, clock_at_start, clock_after_refresh, clock_after_sleep}
use Rattle.reading.specs.Capture.{Event}
use Rattle.reading.specs.Commands.{Command, ACTIVE, READ, WRITE, BURST-TERMINATE, PRECHARGE, AUTO-REFRESH, MODE-REGISTER-SET, is, among, names, command_of}
use Rattle.reading.specs.Sleep.{Sleep, sleep_at_start, wakes, sleep_after}
use Rattle.reading.specs.Bursts.{Burst, reads, column_of, with_pairs, whole_end}

-- open or idle, the row it was opened on, its last ACTIVE, its precharge cycle
pub record Bank : Type 0 where
  pub opened : Bool
  pub row : ℕ
  pub last_active : Option ℕ
  pub precharge_cycle : Option ℕ

-- the last AUTO REFRESH and MODE REGISTER SET; the refresh clock; sleep; all bursts so far, the latest first
pub record Part : Type 0 where
  pub banks : ℕ → Bank
  pub mode : ℕ
  pub last_refresh : Option ℕ
  pub last_mode_set : Option ℕ
  pub clock : Clock
  pub sleep : Sleep
  pub bursts : List Burst

-- all banks start idle
abbrev pub start : Settings → Part
start s =
    record {
      banks = λ b. record { opened = false; row = 0; last_active = none; precharge_cycle = none };
      mode = s.mode;
      last_refresh = none;
      last_mode_set = none;
      clock = clock_at_start;
      sleep = sleep_at_start;
      bursts = [];
    }

abbrev pub open_on : ℕ → ℕ → Bank → Bank
open_on row t x = record { opened = true; row = row; last_active = some t; precharge_cycle = x.precharge_cycle }

abbrev pub idle_from : ℕ → Bank → Bank
idle_from t x = record { opened = false; row = x.row; last_active = x.last_active; precharge_cycle = some t }

-- the later of ACTIVE + tRAS and k + h (read) or k + 1 + h + tWR (write)
abbrev pub auto_precharge : Settings → ℕ → ℕ → Command → Bank → ℕ
auto_precharge s m k c x =
    later (or_zero x.last_active + s.t_ras) (cond (is WRITE c) (k + 1 + h m + s.t_wr) (k + h m))

-- a PRECHARGE closes each open bank that it names
abbrev pub closes : Command → ℕ → Bank → Bool
closes c b x = is PRECHARGE c && (x.opened && names c b)

-- ACTIVE opens its bank; auto precharge makes it idle at once, PRECHARGE each bank that it closes
abbrev pub bank_after : Settings → ℕ → ℕ → Command → ℕ → Bank → Bank
bank_after s m t c b x =
    cond (is ACTIVE c && eqb b c.bank) (open_on c.address t x)
    (cond (among (READ ∷ WRITE ∷ []) c && (eqb b c.bank && c.A10)) (idle_from (auto_precharge s m t c x) x)
    (cond (closes c b x) (idle_from t x) x))

-- ---- the last bursts of a part

abbrev pub last_read : Part → Option Burst
last_read p = find reads p.bursts

abbrev pub last_write : Part → Option Burst
last_write p = find (λ x. x.writes) p.bursts

-- a write to the bank since its ACTIVE, and the last of them
abbrev pub bank_write : Part → ℕ → Burst → Bool
bank_write p b x = x.writes && (eqb b x.bank && ever (p.banks b).last_active (λ a. leb a x.k))

abbrev pub last_bank_write : Part → ℕ → Option Burst
last_bank_write p b = find (bank_write p b) p.bursts

-- ---- what cuts a burst short

-- READ and BURST TERMINATE cut a read, so does a PRECHARGE that closes its bank; WRITE cuts a write
abbrev pub cuts : Part → Command → Burst → Bool
cuts p c x =
    cond x.writes (is WRITE c) (among (READ ∷ BURST-TERMINATE ∷ []) c || closes c x.bank (p.banks x.bank))

-- the burst that was found, if one was; each has a cycle of its own
abbrev pub is_that : Option Burst → Burst → Bool
is_that none x = false
is_that (some y) x = eqb y.k x.k

-- in the newer edition a READ interrupts the last write, a PRECHARGE the last since its ACTIVE of each bank that it closes
abbrev pub interrupts : Settings → Part → Command → Burst → Bool
interrupts s p c x =
    (newer s && x.writes)
    && cond (is READ c) (is_that (last_write p) x)
    (closes c x.bank (p.banks x.bank) && is_that (last_bank_write p x.bank) x)

-- to what was taken by tWTR or tWR before
abbrev pub interrupted_to : Settings → ℕ → Command → Burst → ℕ
interrupted_to s t c x = t - (x.k + 1 + cond (is READ c) s.t_wtr s.t_wr)

-- to how many pairs, if at all: never with auto precharge; to t - k by an event at t < k + h; or as far as it is interrupted
abbrev pub cut_pairs : Settings → Part → ℕ → Command → Burst → Option ℕ
cut_pairs s p t c x =
    cond x.auto none
    (cond (cuts p c x && ltb t (whole_end x)) (some (t - x.k))
    (cond (interrupts s p c x) (some (interrupted_to s t c x)) none))

-- n, or the most that there may be: the lesser counts
abbrev pub at_most : Option ℕ → ℕ → ℕ
at_most none n = n
at_most (some most) n = lesser n most

abbrev pub cut_by : Settings → Part → ℕ → Command → Burst → Burst
cut_by s p t c x = with_pairs (at_most (cut_pairs s p t c x) x.n) x

-- ---- the part after an event

-- a burst starts with h pairs, in the mode of now
abbrev pub burst_given : Settings → Part → ℕ → Command → Burst
burst_given s p t c =
    record {
      writes = is WRITE c;
      bank = c.bank;
      row = (p.banks c.bank).row;
      column = column_of s c.address;
      mode = p.mode;
      k = t;
      n = h p.mode;
      auto = c.A10;
    }

abbrev pub bursts_after : Settings → Part → ℕ → Command → List Burst
bursts_after s p t c =
    cond (among (READ ∷ WRITE ∷ []) c)
    (burst_given s p t c ∷ map (cut_by s p t c) p.bursts)
    (map (cut_by s p t c) p.bursts)

-- entering self refresh is no AUTO REFRESH
abbrev pub refreshes : Command → Bool
refreshes c = not c.low && is AUTO-REFRESH c

abbrev pub clock_after : Settings → ℕ → Command → Sleep → Clock → Clock
clock_after s t c x k = cond (wakes x c && x.self) (clock_after_sleep s t) (cond (refreshes c) (clock_after_refresh s t k) k)

abbrev pub part_after : Settings → Part → ℕ → Command → Part
part_after s p t c =
    record {
      banks = λ b. bank_after s p.mode t c b (p.banks b);
      mode = cond (is MODE-REGISTER-SET c && eqb c.bank 0) c.address p.mode;
      last_refresh = cond (refreshes c) (some t) p.last_refresh;
      last_mode_set = cond (is MODE-REGISTER-SET c) (some t) p.last_mode_set;
      clock = clock_after s t c p.sleep p.clock;
      sleep = sleep_after t c p.sleep;
      bursts = bursts_after s p t c;
    }

-- the part after one event, and after a list of them
abbrev pub step : Settings → Part → Event → Part
step s p e = part_after s p e.cycle (command_of e.pins)

abbrev pub run : Settings → Part → List Event → Part
run s p [] = p
run s p (e ∷ es) = run s (step s p e) es
