-- When a capture is refused, by whatever call, and when a recording: refusals 1 to 4 of document 01's table, case by case, where
-- there may be at most so many events. Words of the header are told by their numbers: 0 the total, 1 how many settings, 2 and 4
-- where settings and events start, 3 how many events, 5 the edition.
use Rattle.std.specs.Prelude.{ℕ, ◌+◌, ◌-◌, ◌*◌, ◌^◌, ◌≤◌, ◌<◌, false, cond, List, ◌≡◌, eqb, length, get_or}
use Rattle.reading.specs.Mode.{mode_word}
use Rattle.reading.specs.Settings.{settings_of}
use Rattle.reading.specs.Capture.{Event, header_word, count_in, event_count, setting_words, event_bytes, event_at, pin_limit}
use Rattle.settings.proofs.Fitting.{row_at}

-- the lowest number below n of which something is so
pub record Lowest (So : ℕ → Type 0) (n i : ℕ) : Type 0 where
  pub within : i < n
  pub is-so : So i
  pub none-lower : (j : ℕ) → j < i → So j → ⊥

-- the least bytes; with sixteen settings eight more
abbrev pub least_bytes : List ℕ → ℕ
least_bytes capture = cond (eqb (header_word capture 1) 16) 88 80

-- 1
pub data BadLength (most : ℕ) (capture : List ℕ) : Type 0 where
  short : length capture < least_bytes capture → BadLength most capture
  long : least_bytes capture + 8 * most < length capture → BadLength most capture
  not-as-stated : (header_word capture 0 ≡ length capture → ⊥) → BadLength most capture

-- 2
pub data BadHeader (most : ℕ) (capture : List ℕ) : Type 0 where
  count : (header_word capture 1 ≡ 14 → ⊥) → (header_word capture 1 ≡ 16 → ⊥) → BadHeader most capture
  settings-start : (header_word capture 2 ≡ 24 → ⊥) → BadHeader most capture
  many : most < header_word capture 3 → BadHeader most capture
  events-start : (header_word capture 4 ≡ least_bytes capture → ⊥) → BadHeader most capture
  edition : 1 < header_word capture 5 → BadHeader most capture
  total : (header_word capture 0 ≡ least_bytes capture + 8 * header_word capture 3 → ⊥) → BadHeader most capture

-- 3, of setting i by its row of the table; the mode word also by rule 2
pub data BadSetting (ws : List ℕ) (i : ℕ) : Type 0 where
  below : get_or ws i 0 < (row_at i).least → BadSetting ws i
  above : (row_at i).most < get_or ws i 0 → BadSetting ws i
  mode : i ≡ 3 → mode_word (get_or ws i 0) ≡ false → BadSetting ws i

-- 4, of event i
abbrev pub event_in : List ℕ → ℕ → Event
event_in capture i = event_at (event_bytes capture) i

pub data BadEvent (capture : List ℕ) (i : ℕ) : Type 0 where
  pins : pin_limit capture ≤ (event_in capture i).pins → BadEvent capture i
  late : 2000000000 < (event_in capture i).cycle → BadEvent capture i
  not-above : 0 < i → (event_in capture i).cycle ≤ (event_in capture (i - 1)).cycle → BadEvent capture i

-- nothing is wrong with the length and the header; nor with a setting
pub record Framed (most : ℕ) (capture : List ℕ) : Type 0 where
  pub length-fits : BadLength most capture → ⊥
  pub header-fits : BadHeader most capture → ⊥

pub record Limited (most : ℕ) (capture : List ℕ) : Type 0 where
  pub framed : Framed most capture
  pub settings-fit : (i : ℕ) → i < count_in capture → BadSetting (setting_words capture) i → ⊥

abbrev pub Contradicts : List ℕ → Type 0
Contradicts ws = (settings_of ws).t_ras + (settings_of ws).t_rp < (settings_of ws).t_rc

pub data RefusedTo (most : ℕ) (capture : List ℕ) (number place : ℕ) : Type 0 where
  bad-length : BadLength most capture → number ≡ 1 → place ≡ 0 → RefusedTo most capture number place
  bad-header : (BadLength most capture → ⊥) → BadHeader most capture → number ≡ 2 → place ≡ 0 → RefusedTo most capture number place
  -- the lowest such setting; if there is none, tRC where it contradicts tRAS and tRP
  bad-setting : Framed most capture → number ≡ 3 → Lowest (BadSetting (setting_words capture)) (count_in capture) place → RefusedTo most capture number place
  contradiction : Limited most capture → Contradicts (setting_words capture) → number ≡ 3 → place ≡ 7 → RefusedTo most capture number place
  -- the lowest such event
  bad-event : Limited most capture → (Contradicts (setting_words capture) → ⊥) → number ≡ 4 → Lowest (BadEvent capture) (event_count capture) place →
      RefusedTo most capture number place

-- a capture has at most 8,000 events, a recording as many as a word can count
abbrev pub CaptureRefused : List ℕ → ℕ → ℕ → Type 0
CaptureRefused = RefusedTo 8000

abbrev pub RecordingRefused : List ℕ → ℕ → ℕ → Type 0
RecordingRefused = RefusedTo (2 ^ 32 - 1)
