-- What this crate's answers mean in document 01, and what is known of the captures whose cells are listed.
use Rattle.std.specs.Prelude.{ℕ, ◌+◌, ◌≤◌, Bool, true, cond, List, ◌≡◌, ltb, eqb, get_or}
use Rattle.std.specs.Prelude.{Some, None}
use Rattle.std.specs.Prelude as std
use Rattle.std.proofs.Math.Option.{Option, none, some, map}
use Rattle.reading.specs.Search as search
use Rattle.reading.specs.Mode.{mode_word}
use Rattle.reading.specs.Settings.{Settings, settings_of}
use Rattle.reading.specs.Capture.{most_events, event_at}
use Rattle.reading.specs.Bursts as reading
use Rattle.reading.specs.Bursts.{column_of}
use Rattle.reading.specs.Part.{Part}
use Rattle.reading.specs.Verdict.{verdict_of}
use Rattle.reading.specs.Cells.{bursts_of, cells_of}
use Rattle.reading.specs.Answers.{unless, Outcome, leaves, fitting, not_clean}
use Rattle.pins.specs.Pins.{code_of, bank_of, address_of, gives}
use Rattle.beats.specs.Kept.{events_from, kept_of}
use Rattle.beats.specs.Rows.{Sized, first_in_row, first_cells}
use Rattle.judge.specs.Meaning.{Fit, events_in, part_at}
use Rattle.beats.specs.declared.Burst as held

-- what is told of a burst, and what an event gives by it
pub record Burst : Type 0 where
  pub writes : Bool
  pub first : ℕ
  pub mode : ℕ
  pub column : ℕ
  pub pairs : ℕ

abbrev pub given_means : std.Option held.Burst → Option Burst
given_means None = none
given_means (Some x) = some (record { writes = x.writes; first = x.first; mode = x.mode; column = x.column; pairs = x.pairs })

-- of a burst of the reading
abbrev pub told_of : Settings → reading.Burst → Burst
told_of s x = record { writes = x.writes; first = first_in_row s x.bank x.row; mode = x.mode; column = x.column; pairs = x.n }

-- by the first cells of the rows that the banks were opened on and the mode word before event i
abbrev pub told_by : Settings → List ℕ → ℕ → ℕ → List ℕ → ℕ → Burst
told_by s bytes n i firsts mode =
    record {
      writes = eqb (code_of (event_at bytes i).pins) 2;
      first = get_or firsts (bank_of (event_at bytes i).pins) 0;
      mode = mode;
      column = column_of s (address_of (event_at bytes i).pins);
      pairs = kept_of s mode (event_at bytes i) (events_from bytes n (i + 1));
    }

unfoldable pub given_by : Settings → List ℕ → ℕ → ℕ → List ℕ → ℕ → Option Burst
given_by s bytes n i firsts mode = cond (gives (event_at bytes i).pins) (some (told_by s bytes n i firsts mode)) none

-- n events fit, and so do the settings. A clause of what is done before a capture is known to be clean; `Clean` has it behind that
pub record Listable (settings bytes : List ℕ) (n : ℕ) : Type 0 where
  pub few : n ≤ most_events
  pub fit : Fit settings bytes n
  pub sized : Sized (settings_of settings)
  pub moded : mode_word (settings_of settings).mode ≡ true

-- if event i gives a burst, that keeps a pair at least. It is asked for one event and its mode word, of which a type would have to be made
-- for each event
abbrev pub KeepsPair : Settings → List ℕ → ℕ → ℕ → ℕ → Type 0
KeepsPair s bytes n i mode = gives (event_at bytes i).pins ≡ true → 1 ≤ kept_of s mode (event_at bytes i) (events_from bytes n (i + 1))

-- no event breaks a rule
abbrev pub Clean : Settings → List ℕ → ℕ → Type 0
Clean s bytes n = not_clean (verdict_of s (events_in bytes n)) ≡ none

-- the bursts of n events, and that of event i if it gives one: each has a cycle of its own
abbrev pub bursts_on : Settings → List ℕ → ℕ → List reading.Burst
bursts_on s bytes n = bursts_of s (events_in bytes n)

unfoldable pub burst_at : Settings → List ℕ → ℕ → ℕ → Option reading.Burst
burst_at s bytes n i = search.find (λ x. eqb x.k (event_at bytes i).cycle) (bursts_on s bytes n)

-- what event i gives by it
abbrev pub given_at : Settings → List ℕ → ℕ → ℕ → Option Burst
given_at s bytes n i = map (told_of s) (burst_at s bytes n i)

-- the first cells of the rows that the banks of a part were opened on; these and the mode word before event i
abbrev pub firsts_of : Settings → Part → List ℕ
firsts_of s p = first_cells s (p.banks 0).row (p.banks 1).row (p.banks 2).row (p.banks 3).row

abbrev pub firsts_at : Settings → List ℕ → ℕ → List ℕ
firsts_at s bytes i = firsts_of s (part_at s bytes i)

abbrev pub mode_at : Settings → List ℕ → ℕ → ℕ
mode_at s bytes i = (part_at s bytes i).mode

pub record At (s : Settings) (bytes : List ℕ) (i : ℕ) (firsts : List ℕ) (mode : ℕ) : Type 0 where
  pub rowed : firsts ≡ firsts_at s bytes i
  pub moded : mode ≡ mode_at s bytes i

-- the cells of the first n events' bursts
unfoldable pub cells_on : Settings → List ℕ → ℕ → List ℕ
cells_on s bytes n = cells_of s (bursts_on s bytes n)

-- the cells that are needed, where there is room for fewer
abbrev pub lacking_in : ℕ → ℕ → Option ℕ
lacking_in room cells = search.given cells (ltb room cells)

-- refusals 8 and 7, and what is left in the buffer
unfoldable pub listing : Settings → List ℕ → ℕ → List ℕ → Outcome
listing s bytes n buffer =
    leaves (unless 8 (not_clean (verdict_of s (events_in bytes n))) (fitting buffer (cells_on s bytes n))) buffer
