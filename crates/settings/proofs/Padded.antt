-- Padding a list of settings leaves every setting as it was.
use Prim.Native.Nat.{ℕ, zero, suc, ◌-◌, ◌≤◌, ◌<◌}
use mathlib.Core.Bool.{not}
use mathlib.Core.List.{List, [], ◌∷◌, ◌++◌}
use mathlib.Core.Path.{◌≡◌, refl, ◌∙◌}
use native.Mathlib.Omega.{arith}
use lib.ListN.{length, get_or, replicate, length-append, length-replicate}
use lib.Seq.{get_or-set_same, get_or-set_other}
use Rattle.reading.specs.Search.{lowest, or_else}
use Rattle.reading.specs.Settings.{sleeping_count, settings_of, in_edition, setting_fits, out_of_range, contradiction}
use Rattle.settings.specs.Meaning.{bad_among, held_count, padded, held}

nothing-at : (n i : ℕ) → get_or (replicate n zero) i 0 ≡ zero
nothing-at zero i = refl
nothing-at (suc n) zero = refl
nothing-at (suc n) (suc i) = nothing-at n i

at_front : (ws : List ℕ) (n i : ℕ) → get_or (ws ++ replicate n 0) i 0 ≡ get_or ws i 0
at_front [] n i = nothing-at n i
at_front (w ∷ ws) n zero = refl
at_front (w ∷ ws) n (suc i) = at_front ws n i

module _ (ws : List ℕ) where
  pub padded-at : (i : ℕ) → get_or (padded ws) i 0 ≡ get_or ws i 0
  unfolding padded
  padded-at i = at_front ws (held_count - length ws) i

  pub padded-settings : settings_of (padded ws) ≡ settings_of ws
  padded-settings u =
      record {
        lane = padded-at 0 u;
        row_bits = padded-at 1 u;
        column_bits = padded-at 2 u;
        mode = padded-at 3 u;
        t_rcd = padded-at 4 u;
        t_rp = padded-at 5 u;
        t_ras = padded-at 6 u;
        t_rc = padded-at 7 u;
        t_rrd = padded-at 8 u;
        t_wr = padded-at 9 u;
        t_wtr = padded-at 10 u;
        t_rfc = padded-at 11 u;
        t_mrd = padded-at 12 u;
        t_refi = padded-at 13 u;
        t_xp = padded-at 14 u;
        t_xsr = padded-at 15 u;
        edition = padded-at 16 u;
      }

  pub padded-range : (n : ℕ) → out_of_range (padded ws) n ≡ out_of_range ws n
  padded-range n u = lowest (λ i. not (setting_fits i (padded-at i u))) n

  pub padded-among : (n : ℕ) → bad_among (padded ws) n ≡ bad_among ws n
  padded-among n u = or_else (padded-range n u) (contradiction (padded-settings u))

  pub padded-length : length ws ≤ sleeping_count → length (padded ws) ≡ held_count
  unfolding padded
  padded-length l =
      omega (arith, length-append ws (replicate (held_count - length ws) 0), length-replicate (held_count - length ws) zero)

  -- the edition is put behind them
  module _ (edition : ℕ) (l : length ws ≤ sleeping_count) where
    pub held_at : (i : ℕ) → i < sleeping_count → get_or (held edition ws) i 0 ≡ get_or ws i 0
    unfolding held
    held_at i m = get_or-set_other (padded ws) sleeping_count i edition 0 (λ e. omega arith) ∙ padded-at i

    pub held-edition : get_or (held edition ws) sleeping_count 0 ≡ edition
    unfolding held
    held-edition = get_or-set_same (padded ws) sleeping_count edition 0 (omega (arith, padded-length l))

    pub held-settings : settings_of (held edition ws) ≡ in_edition edition (settings_of ws)
    held-settings u =
        record {
          lane = held_at 0 (omega arith) u;
          row_bits = held_at 1 (omega arith) u;
          column_bits = held_at 2 (omega arith) u;
          mode = held_at 3 (omega arith) u;
          t_rcd = held_at 4 (omega arith) u;
          t_rp = held_at 5 (omega arith) u;
          t_ras = held_at 6 (omega arith) u;
          t_rc = held_at 7 (omega arith) u;
          t_rrd = held_at 8 (omega arith) u;
          t_wr = held_at 9 (omega arith) u;
          t_wtr = held_at 10 (omega arith) u;
          t_rfc = held_at 11 (omega arith) u;
          t_mrd = held_at 12 (omega arith) u;
          t_refi = held_at 13 (omega arith) u;
          t_xp = held_at 14 (omega arith) u;
          t_xsr = held_at 15 (omega arith) u;
          edition = held-edition u;
        }
