-- Reading and writing the places, one bank at a time.
use Prim.Native.Nat.{ℕ, zero, suc, ◌+◌, ◌%◌, ◌<◌}
use mathlib.Core.Bool.{Bool, cond}
use mathlib.Core.Path.{◌≡◌, refl}
use native.Mathlib.Omega.{arith}
use lib.Dec.{eqb}
use lib.ListN.{set}
use Rattle.reading.specs.Search.{lesser, later}
use Rattle.reading.specs.Settings.{Settings, newer}
use Rattle.deadlines.specs.Deadlines.{OPENED, OTHER, REST, COLUMN, CLOSE, WRITTEN, LOCKED, at, active_after, auto_after, cut_write, new_write, plain_write, auto_write, rest_after}
use Rattle.bridge.specs.Summary.{BankHeld, ReadHeld, WriteHeld, SleepHeld, Held, laid}

-- what holds of each of the four banks
at-bank : (P : ℕ → Type 0) → P 0 → P 1 → P 2 → P 3 → (b : ℕ) → b < 4 → P b
at-bank P p₀ p₁ p₂ p₃ zero l = p₀
at-bank P p₀ p₁ p₂ p₃ (suc zero) l = p₁
at-bank P p₀ p₁ p₂ p₃ (suc (suc zero)) l = p₂
at-bank P p₀ p₁ p₂ p₃ (suc (suc (suc zero))) l = p₃
at-bank P p₀ p₁ p₂ p₃ (suc (suc (suc (suc b)))) l = absurd (omega arith)

-- what stands at the places of bank b
pub record Stands (x : Held) (b : ℕ) : Type 0 where
  pub opened : at (laid x) (OPENED + b) ≡ (x.banks b).opened
  pub other : at (laid x) (OTHER + b) ≡ (x.banks b).other
  pub rest : at (laid x) (REST + b) ≡ (x.banks b).rest
  pub column : at (laid x) (COLUMN + b) ≡ (x.banks b).column
  pub close : at (laid x) (CLOSE + b) ≡ (x.banks b).close
  pub written : at (laid x) (WRITTEN + b) ≡ (x.banks b).written
  pub locked : at (laid x) (LOCKED + b) ≡ (x.banks b).locked

pub stands : (x : Held) (b : ℕ) → b < 4 → Stands x b
stands x =
    at-bank (Stands x)
    (record { opened = refl; other = refl; rest = refl; column = refl; close = refl; written = refl; locked = refl })
    (record { opened = refl; other = refl; rest = refl; column = refl; close = refl; written = refl; locked = refl })
    (record { opened = refl; other = refl; rest = refl; column = refl; close = refl; written = refl; locked = refl })
    (record { opened = refl; other = refl; rest = refl; column = refl; close = refl; written = refl; locked = refl })

-- two summaries are equal group by group
pub same : {x y : Held} → ((b : ℕ) → x.banks b ≡ y.banks b) → x.read ≡ y.read → x.write ≡ y.write → x.busy ≡ y.busy →
    x.sleep ≡ y.sleep → x ≡ y
same banks read write busy sleep = λ u. record { banks = λ b. banks b u; read = read u; write = write u; busy = busy u; sleep = sleep u }

pub same_read : {x y : ReadHeld} → x.bus ≡ y.bus → x.reads ≡ y.reads → x.last ≡ y.last → x ≡ y
same_read bus reads last = λ u. record { bus = bus u; reads = reads u; last = last u }

pub same_write : {x y : WriteHeld} → x.writes ≡ y.writes → x.end ≡ y.end → x.writer ≡ y.writer → x ≡ y
same_write writes end writer = λ u. record { writes = writes u; end = end u; writer = writer u }

-- ---- a group replaced

abbrev pub banked : (ℕ → BankHeld) → Held → Held
banked banks x = record { banks = banks; read = x.read; write = x.write; busy = x.busy; sleep = x.sleep }

abbrev pub read_given : ReadHeld → Held → Held
read_given read x = record { banks = x.banks; read = read; write = x.write; busy = x.busy; sleep = x.sleep }

abbrev pub write_given : WriteHeld → Held → Held
write_given write x = record { banks = x.banks; read = x.read; write = write; busy = x.busy; sleep = x.sleep }

-- a new write, which is the last burst
abbrev pub new_given : ℕ → WriteHeld → Held → Held
new_given last write x =
    read_given (record { bus = x.read.bus; reads = x.read.reads; last = last }) (write_given write x)

abbrev pub timed : ℕ → SleepHeld → Held → Held
timed busy sleep x = record { banks = x.banks; read = x.read; write = x.write; busy = busy; sleep = sleep }

-- ---- a bank changed: one of them, `own` tells whether this is it

abbrev pub on_bank : (Bool → BankHeld → BankHeld) → ℕ → (ℕ → BankHeld) → ℕ → BankHeld
on_bank f b banks i = f (eqb i b) (banks i)

abbrev pub activated : Settings → ℕ → Bool → BankHeld → BankHeld
activated s t own y =
    record {
      opened = cond own 1 y.opened;
      other = cond own (t + s.t_rrd) y.other;
      rest = y.rest;
      column = cond own (t + s.t_rcd) y.column;
      close = cond own (t + s.t_ras) y.close;
      written = cond own 0 y.written;
      locked = cond own (t + s.t_ras + s.t_rp) y.locked;
    }

-- idle, and to be opened from the cycle c on
abbrev pub shut : ℕ → Bool → BankHeld → BankHeld
shut c own y =
    record {
      opened = cond own 0 y.opened;
      other = y.other;
      rest = cond own c y.rest;
      column = y.column;
      close = y.close;
      written = y.written;
      locked = y.locked;
    }

abbrev pub written_till : ℕ → Bool → BankHeld → BankHeld
written_till c own y =
    record {
      opened = y.opened;
      other = y.other;
      rest = y.rest;
      column = y.column;
      close = y.close;
      written = cond own c y.written;
      locked = y.locked;
    }

-- by auto precharge, not before tRAS and tRP are over
abbrev pub auto_shut : ℕ → Bool → BankHeld → BankHeld
auto_shut c own y = shut (later y.locked c) own y

-- by PRECHARGE, where it is open
abbrev pub closed : ℕ → Bool → BankHeld → BankHeld
closed c own y = shut (cond (eqb y.opened 0) y.rest c) own y

-- its last write cut
abbrev pub written_by : ℕ → Bool → BankHeld → BankHeld
written_by c own y = written_till (lesser y.written c) own y

-- ---- the same in the places

pub active-laid : (s : Settings) (x : Held) (t b : ℕ) → b < 4 → active_after s (laid x) t b ≡ laid (banked (on_bank (activated s t) b x.banks) x)
unfolding active_after
active-laid s x t = at-bank (λ b. active_after s (laid x) t b ≡ laid (banked (on_bank (activated s t) b x.banks) x)) refl refl refl refl

pub auto-laid : (x : Held) (c b : ℕ) → b < 4 → auto_after (laid x) b c ≡ laid (banked (on_bank (auto_shut c) b x.banks) x)
unfolding auto_after
auto-laid x c = at-bank (λ b. auto_after (laid x) b c ≡ laid (banked (on_bank (auto_shut c) b x.banks) x)) refl refl refl refl

pub cut-laid : (s : Settings) (x : Held) (t : ℕ) →
    cut_write s (laid x) t ≡ laid (banked (on_bank (written_by (t + 1 + 0 + s.t_wr)) (x.write.writer % 4) x.banks) x)
unfolding cut_write
cut-laid s x t = at-bank Cut refl refl refl refl (x.write.writer % 4) (omega arith)
  where
    Cut : ℕ → Type 0
    Cut b =
        set (laid x) (WRITTEN + b) (lesser (at (laid x) (WRITTEN + b)) (t + 1 + 0 + s.t_wr)) ≡
        laid (banked (on_bank (written_by (t + 1 + 0 + s.t_wr)) b x.banks) x)

pub new-laid : (s : Settings) (x : Held) (t pairs b : ℕ) → b < 4 →
    new_write s (laid x) t pairs b ≡
    laid (new_given (t + 1 + pairs + 5) (record { writes = x.write.writes; end = t + 1 + pairs + s.t_wtr; writer = x.write.writer })
    (banked (on_bank (written_till (t + 1 + pairs + s.t_wr)) b x.banks) x))
unfolding new_write
new-laid s x t pairs = at-bank New refl refl refl refl
  where
    New : ℕ → Type 0
    New b =
        new_write s (laid x) t pairs b ≡
        laid (new_given (t + 1 + pairs + 5) (record { writes = x.write.writes; end = t + 1 + pairs + s.t_wtr; writer = x.write.writer })
        (banked (on_bank (written_till (t + 1 + pairs + s.t_wr)) b x.banks) x))

-- without auto precharge: in the newer edition it can be interrupted, and is waited for from its first pair on
abbrev pub plain_given : ℕ → Held → Held
plain_given b x = write_given (record { writes = x.write.writes; end = x.write.end; writer = b }) x

abbrev pub rests_early : Settings → ℕ → ℕ → Held → Held
rests_early s t b x =
    write_given (record { writes = x.write.writes; end = t + 2 + s.t_wtr; writer = x.write.writer })
    (banked (on_bank (written_till (t + 2 + s.t_wr)) b x.banks) x)

pub plain-laid : (s : Settings) (x : Held) (t b : ℕ) → b < 4 →
    plain_write s (laid x) t b ≡ cond (newer s) (laid (rests_early s t b (plain_given b x))) (laid (plain_given b x))
unfolding plain_write
plain-laid s x t = at-bank (λ b. plain_write s (laid x) t b ≡ cond (newer s) (laid (rests_early s t b (plain_given b x))) (laid (plain_given b x))) refl refl refl refl

-- with auto precharge
abbrev pub auto_given : ℕ → ℕ → Held → Held
auto_given over b x = write_given (record { writes = over; end = x.write.end; writer = b + 4 }) x

pub auto-write-laid : (s : Settings) (x : Held) (t pairs b : ℕ) → b < 4 →
    auto_write s (laid x) t pairs b ≡ laid (banked (on_bank (auto_shut (t + 1 + pairs + s.t_wr + s.t_rp)) b x.banks) (auto_given (t + pairs) b x))
unfolding auto_write
auto-write-laid s x t pairs b m = auto-laid (auto_given (t + pairs) b x) (t + 1 + pairs + s.t_wr + s.t_rp) b m

pub rest-laid : (x : Held) (c b : ℕ) → b < 4 → rest_after (laid x) b c ≡ laid (banked (on_bank (closed c) b x.banks) x)
unfolding rest_after
rest-laid x c = at-bank (λ b. rest_after (laid x) b c ≡ laid (banked (on_bank (closed c) b x.banks) x)) refl refl refl refl
