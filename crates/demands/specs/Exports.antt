-- When reading or writing an export is refused, and with which number and place: every case, said out in full.
use Rattle.std.specs.Prelude.{ℕ, ◌*◌, ◌%◌, ◌≤◌, ◌<◌, List, ◌⊎◌, ◌≡◌, length}
use Rattle.std.proofs.Math.Option.{none, some}
use Rattle.reading.specs.Search.{lowest}
use Rattle.reading.specs.Settings.{bad_setting}
use Rattle.reading.specs.Capture.{count_in, capture_size, edition_in, setting_words, events_of}
use Rattle.reading.specs.Schedule.{capture_in}
use Rattle.reading.specs.Export.{record_count, stands, bad_export, bad_pins, bridged, first_cycle}
use Rattle.demands.specs.Captures.{CaptureRefused}
use Rattle.demands.specs.Refused.{Accepted, Fine}

-- settings that fit, and an edition that there is
pub record Known (ws : List ℕ) (edition : ℕ) : Type 0 where
  pub fine : Fine ws
  pub is-there : edition ≤ 1

-- an export that is to be read
pub data ReadRefused (x ws : List ℕ) (edition : ℕ) (out : List ℕ) (number place : ℕ) : Type 0 where
  -- 2: not fourteen settings, or no such edition
  count : (length ws ≡ 14 → ⊥) ⊎ (1 < edition) → number ≡ 2 → place ≡ 0 → ReadRefused x ws edition out number place
  -- 3: the lowest such setting
  setting : length ws ≡ 14 → edition ≤ 1 → number ≡ 3 → bad_setting ws ≡ some place → ReadRefused x ws edition out number place
  -- 11: no whole records
  uneven : Known ws edition → (length x % 6 ≡ 0 → ⊥) → number ≡ 11 → place ≡ 0 → ReadRefused x ws edition out number place
  -- 11: too many
  many : Known ws edition → length x % 6 ≡ 0 → 8000 < record_count x → number ≡ 11 → place ≡ 8000 → ReadRefused x ws edition out number place
  -- 11: the lowest record whose stamp is that of the one before
  still : Known ws edition → length x % 6 ≡ 0 → record_count x ≤ 8000 → number ≡ 11 → lowest (stands x) (record_count x) ≡ some place →
      ReadRefused x ws edition out number place
  -- 4: the lowest record with pins that there are not
  high : Known ws edition → bad_export x ≡ none → number ≡ 4 → bad_pins x ≡ some place → ReadRefused x ws edition out number place
  -- 7: the bytes of the capture
  short : Known ws edition → bad_export x ≡ none → bad_pins x ≡ none → number ≡ 7 → place ≡ capture_size 14 (record_count x) → length out < place →
      ReadRefused x ws edition out number place

-- a capture that may be an export: without sleep, not first too late, not of too many records
pub record Exportable (capture : List ℕ) : Type 0 where
  pub awake : count_in capture ≡ 14
  pub first : first_cycle (events_of capture) ≤ 65535
  pub few : length (bridged (events_of capture)) ≤ 8000

-- a capture that is to be written
pub data WriteRefused (capture out : List ℕ) (number place : ℕ) : Type 0 where
  -- 1 to 4
  unopened : CaptureRefused capture number place → WriteRefused capture out number place
  -- 12: sixteen settings
  sleeps : Accepted capture → count_in capture ≡ 16 → number ≡ 12 → place ≡ 0 → WriteRefused capture out number place
  -- 12: first too late
  late : Accepted capture → count_in capture ≡ 14 → 65535 < first_cycle (events_of capture) → number ≡ 12 → place ≡ 0 → WriteRefused capture out number place
  -- 12: too many records
  many : Accepted capture → count_in capture ≡ 14 → first_cycle (events_of capture) ≤ 65535 → 8000 < length (bridged (events_of capture)) →
      number ≡ 12 → place ≡ 0 → WriteRefused capture out number place
  -- 7: the bytes of the export
  short : Accepted capture → Exportable capture → number ≡ 7 → place ≡ 6 * length (bridged (events_of capture)) → length out < place →
      WriteRefused capture out number place

-- a capture with the NOPs that its export puts between its events
abbrev pub with_nops : List ℕ → List ℕ
with_nops capture = capture_in (edition_in capture) (setting_words capture) (bridged (events_of capture))

-- how many events it has then
abbrev pub events_with_nops : List ℕ → ℕ
events_with_nops capture = length (bridged (events_of capture))
