-- The deadlines as a function of the reading's part: of the bursts, the last read, the last write, each bank's last write
-- since its ACTIVE, and the latest end of auto precharge bursts.
use Rattle.std.specs.Prelude.{ℕ, ◌+◌, ◌*◌, ◌<◌, Bool, cond, ◌&&◌, List, [], ◌∷◌}
use Rattle.std.proofs.Math.Option.{Option, none, some}
use Rattle.reading.specs.Search.{or_zero, find, later}
use Rattle.reading.specs.Mode.{h}
use Rattle.reading.specs.Settings.{Settings}
use Rattle.reading.specs.RefreshClock.{Clock}
use Rattle.reading.specs.Sleep.{Sleep}
use Rattle.reading.specs.Bursts.{Burst, reads, whole_end, read_end, rests_from}
use Rattle.reading.specs.Part.{Bank, Part, last_bank_write}
use Rattle.deadlines.specs.Deadlines.{FAR}

-- so long after it, 0 where it has not happened
abbrev pub from : Option ℕ → ℕ → ℕ
from none wait = 0
from (some c) wait = c + wait

abbrev pub ended : Settings → Option Burst → ℕ → ℕ
ended s none wait = 0
ended s (some x) wait = rests_from s x + wait

-- an event that is looked at: below the cycle FAR, under settings by which AUTO REFRESHes come to be owed
pub record Timed (s : Settings) (t : ℕ) : Type 0 where
  pub early : t < FAR
  pub ticks : 0 < s.t_refi

-- the first cycle that is too late for the refresh clock
abbrev pub overdue_by : Settings → Clock → ℕ
overdue_by s k = k.origin + (9 + k.paid) * s.t_refi

-- the bus is free of a read's data
abbrev pub cleared : Option Burst → ℕ
cleared none = 0
cleared (some x) = read_end x

-- the latest k + h of the auto precharge bursts of a kind
abbrev pub held_by : (Burst → Bool) → List Burst → ℕ
held_by kind [] = 0
held_by kind (x ∷ xs) = later (cond (kind x && x.auto) (whole_end x) 0) (held_by kind xs)

-- of the last burst: the bank of a read, 4 if nothing can cut it; five cycles more than the end of a write's data, if all of it comes
abbrev pub last_of : List Burst → ℕ
last_of [] = 4
last_of (x ∷ xs) = cond x.writes (x.k + 1 + h x.mode + 5) (cond x.auto 4 x.bank)

-- the bank of the last write, four more if it has auto precharge
abbrev pub writer_of : Option Burst → ℕ
writer_of none = 0
writer_of (some x) = cond x.auto (x.bank + 4) x.bank

-- ---- the deadlines in groups, by the names of their places

-- of a bank
pub record BankHeld : Type 0 where
  pub opened : ℕ
  pub other : ℕ
  pub rest : ℕ
  pub column : ℕ
  pub close : ℕ
  pub written : ℕ
  pub locked : ℕ

-- of the reads, and of the last burst
pub record ReadHeld : Type 0 where
  pub bus : ℕ
  pub reads : ℕ
  pub last : ℕ

-- of the writes
pub record WriteHeld : Type 0 where
  pub writes : ℕ
  pub end : ℕ
  pub writer : ℕ

-- of sleep and of the refresh clock, which stands in another place asleep
pub record SleepHeld : Type 0 where
  pub overdue : ℕ
  pub wake : ℕ
  pub asleep : ℕ
  pub self : ℕ

-- busy: of the commands that make all others wait
pub record Held : Type 0 where
  pub banks : ℕ → BankHeld
  pub read : ReadHeld
  pub write : WriteHeld
  pub busy : ℕ
  pub sleep : SleepHeld

abbrev pub four : (ℕ → BankHeld) → (BankHeld → ℕ) → List ℕ → List ℕ
four banks f tail = f (banks 0) ∷ f (banks 1) ∷ f (banks 2) ∷ f (banks 3) ∷ tail

-- in the order of the places
abbrev pub laid : Held → List ℕ
laid x =
    four x.banks (λ b. b.opened)
    (four x.banks (λ b. b.other)
    (four x.banks (λ b. b.rest)
    (four x.banks (λ b. b.column)
    (four x.banks (λ b. b.close)
    (four x.banks (λ b. b.written)
    (four x.banks (λ b. b.locked)
    (x.busy ∷ x.sleep.overdue
    ∷ x.read.bus ∷ x.read.reads ∷ x.write.writes ∷ x.write.end ∷ x.read.last ∷ x.write.writer
    ∷ x.sleep.asleep ∷ x.sleep.wake ∷ x.sleep.self ∷ [])))))))

-- ---- of the reading's part

-- of a bank and its last write since its ACTIVE
abbrev pub bank_held : Settings → Bank → Option Burst → BankHeld
bank_held s b w =
    record {
      opened = cond b.opened 1 0;
      other = from b.last_active s.t_rrd;
      rest = from b.precharge_cycle s.t_rp;
      column = from b.last_active s.t_rcd;
      close = from b.last_active s.t_ras;
      written = ended s w s.t_wr;
      locked = or_zero b.last_active + s.t_ras + s.t_rp;
    }

abbrev pub read_held : List Burst → ReadHeld
read_held xs = record { bus = cleared (find reads xs); reads = held_by reads xs; last = last_of xs }

abbrev pub write_held : Settings → List Burst → WriteHeld
write_held s xs =
    record {
      writes = held_by (λ x. x.writes) xs;
      end = ended s (find (λ x. x.writes) xs) s.t_wtr;
      writer = writer_of (find (λ x. x.writes) xs);
    }

abbrev pub sleep_held : Settings → Clock → Sleep → SleepHeld
sleep_held s k x =
    record {
      overdue = cond x.asleep 0 (overdue_by s k);
      wake = from x.left (cond x.self s.t_xsr s.t_xp);
      asleep = cond x.asleep (cond x.self FAR (overdue_by s k)) 0;
      self = cond x.asleep (cond x.self 1 0) 0;
    }

abbrev pub summary : Settings → Part → Held
summary s p =
    record {
      banks = λ b. bank_held s (p.banks b) (last_bank_write p b);
      read = read_held p.bursts;
      write = write_held s p.bursts;
      busy = later (from p.last_refresh s.t_rfc) (from p.last_mode_set s.t_mrd);
      sleep = sleep_held s p.clock p.sleep;
    }
