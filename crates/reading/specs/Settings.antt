-- The settings and the table of their limits.
use Rattle.std.specs.Prelude.{ℕ, ◌+◌, ◌≤◌, Bool, not, ◌&&◌, List, [], ◌∷◌, ◌++◌, length, get_or, replicate, leb, ltb, eqb}
use Rattle.std.proofs.Math.Option.{Option}
use Rattle.reading.specs.Search.{implies, lowest, or_else, given}
use Rattle.reading.specs.Mode.{mode_word}

-- how many there are, and how many with those of sleep
abbrev pub settings_count : ℕ
settings_count = 14

abbrev pub sleeping_count : ℕ
sleeping_count = 16

-- and by which edition of the rules a board is judged: 0 the old one, 1 that of the newer sheets
pub record Settings : Type 0 where
  pub lane : ℕ
  pub row_bits : ℕ
  pub column_bits : ℕ
  pub mode : ℕ
  pub t_rcd : ℕ
  pub t_rp : ℕ
  pub t_ras : ℕ
  pub t_rc : ℕ
  pub t_rrd : ℕ
  pub t_wr : ℕ
  pub t_wtr : ℕ
  pub t_rfc : ℕ
  pub t_mrd : ℕ
  pub t_refi : ℕ
  pub t_xp : ℕ
  pub t_xsr : ℕ
  pub edition : ℕ

-- from a list of words, by their numbers; behind all sixteen the edition, which is 0 where none is named
abbrev pub settings_of : List ℕ → Settings
settings_of ws =
    record {
      lane = get_or ws 0 0;
      row_bits = get_or ws 1 0;
      column_bits = get_or ws 2 0;
      mode = get_or ws 3 0;
      t_rcd = get_or ws 4 0;
      t_rp = get_or ws 5 0;
      t_ras = get_or ws 6 0;
      t_rc = get_or ws 7 0;
      t_rrd = get_or ws 8 0;
      t_wr = get_or ws 9 0;
      t_wtr = get_or ws 10 0;
      t_rfc = get_or ws 11 0;
      t_mrd = get_or ws 12 0;
      t_refi = get_or ws 13 0;
      t_xp = get_or ws 14 0;
      t_xsr = get_or ws 15 0;
      edition = get_or ws 16 0;
    }

abbrev pub newer : Settings → Bool
newer s = eqb s.edition 1

abbrev pub in_edition : ℕ → Settings → Settings
in_edition edition s =
    record {
      lane = s.lane;
      row_bits = s.row_bits;
      column_bits = s.column_bits;
      mode = s.mode;
      t_rcd = s.t_rcd;
      t_rp = s.t_rp;
      t_ras = s.t_ras;
      t_rc = s.t_rc;
      t_rrd = s.t_rrd;
      t_wr = s.t_wr;
      t_wtr = s.t_wtr;
      t_rfc = s.t_rfc;
      t_mrd = s.t_mrd;
      t_refi = s.t_refi;
      t_xp = s.t_xp;
      t_xsr = s.t_xsr;
      edition = edition;
    }

pub record Limits : Type 0 where
  pub least : ℕ
  pub most : ℕ

abbrev between : ℕ → ℕ → Limits
between a b = record { least = a; most = b }

-- the table, row by row; rows 4 to 12 are alike, and so are those of sleep
abbrev pub limits : List Limits
limits =
    between 1 2 ∷ between 12 14 ∷ between 8 11 ∷ between 0 127 ∷ []
    ++ replicate 9 (between 1 10000)
    ++ (between 1 1000000 ∷ [])
    ++ replicate 2 (between 1 10000)

-- word w may be setting i; row 3 is also valid by rule 2
unfoldable pub setting_fits : ℕ → ℕ → Bool
setting_fits i w =
    leb (get_or limits i (between 0 0)).least w
    && leb w (get_or limits i (between 0 0)).most
    && implies (eqb i 3) (mode_word w)

-- the lowest of n settings that is out of its range
abbrev pub out_of_range : List ℕ → ℕ → Option ℕ
out_of_range ws n = lowest (λ i. not (setting_fits i (get_or ws i 0))) n

-- tRC's place, if it contradicts tRAS and tRP: a bank is open for the one and closed for the other before it is opened again
abbrev pub contradiction : Settings → Option ℕ
contradiction s = given 7 (ltb (s.t_ras + s.t_rp) s.t_rc)

-- what is left where it does not: by this rule 6 need not be asked
abbrev pub Consistent : Settings → Type 0
Consistent s = s.t_rc ≤ s.t_ras + s.t_rp

-- refusal 3: the place of what is wrong with a list of settings, each by itself first
unfoldable pub bad_setting : List ℕ → Option ℕ
bad_setting ws = or_else (out_of_range ws (length ws)) (contradiction (settings_of ws))
