-- Settings that fit, as far as a schedule needs their limits.
use Prim.Native.Nat.{ℕ, ◌≤◌, ◌<◌}
use mathlib.Core.Bool.{true, false}
use mathlib.Core.List.{List}
use mathlib.Core.Path.{◌≡◌}
use native.Mathlib.Omega.{arith}
use lib.ListN.{length, get_or, get_or-eq_default}
use Rattle.reading.specs.Settings.{Settings, settings_count, settings_of, newer, setting_fits}
use Rattle.settings.proofs.Fitting.{row_at, at_least, at_most, mode-valid}
use Rattle.memory.specs.Serving.{Sized}

pub record Ranged (s : Settings) : Type 0 where
  pub sized : Sized s
  pub old : newer s ≡ false
  pub t_rcd : s.t_rcd ≤ 10000
  pub t_rp : s.t_rp ≤ 10000
  pub t_ras : s.t_ras ≤ 10000
  pub t_rc : s.t_rc ≤ 10000
  pub t_rrd : s.t_rrd ≤ 10000
  pub t_wr : s.t_wr ≤ 10000
  pub t_wtr : s.t_wtr ≤ 10000
  pub t_rfc : s.t_rfc ≤ 10000
  pub least-t_rcd : 1 ≤ s.t_rcd
  pub least-t_rp : 1 ≤ s.t_rp
  pub least-t_rfc : 1 ≤ s.t_rfc
  pub least-t_refi : 1 ≤ s.t_refi

-- fourteen words name no edition
pub fourteen-old : (ws : List ℕ) → length ws ≡ settings_count → newer (settings_of ws) ≡ false
fourteen-old ws e = rw (get_or-eq_default ws 0 {n = 16} (omega arith))

module _ (ws : List ℕ) (fits : (i : ℕ) → i < 14 → setting_fits i (get_or ws i 0) ≡ true) where
  most : (i : ℕ) (l : i < 14) → get_or ws i 0 ≤ (row_at i).most
  most i l = at_most i (get_or ws i 0) (fits i l)

  least : (i : ℕ) (l : i < 14) → (row_at i).least ≤ get_or ws i 0
  least i l = at_least i (get_or ws i 0) (fits i l)

  pub ranged : newer (settings_of ws) ≡ false → Ranged (settings_of ws)
  ranged old =
      record {
        old = old;
        sized = record { rows = most 1 (omega arith); columns = most 2 (omega arith); mode = mode-valid (get_or ws 3 0) (fits 3 (omega arith)) };
        t_rcd = most 4 (omega arith);
        t_rp = most 5 (omega arith);
        t_ras = most 6 (omega arith);
        t_rc = most 7 (omega arith);
        t_rrd = most 8 (omega arith);
        t_wr = most 9 (omega arith);
        t_wtr = most 10 (omega arith);
        t_rfc = most 11 (omega arith);
        least-t_rcd = least 4 (omega arith);
        least-t_rp = least 5 (omega arith);
        least-t_rfc = least 11 (omega arith);
        least-t_refi = least 13 (omega arith);
      }
