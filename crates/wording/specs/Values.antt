-- The settings that are shown.
use Rattle.std.specs.Prelude.{ℕ, Bool, cond, not, List, eqb, ltb, length, replicate}
use Rattle.reading.specs.Capture.{count_in, events_start, edition_in, setting_words}
use Rattle.reading.specs.Settings.{Settings}
use Rattle.settings.specs.Meaning.{held_count, held}

-- those of a capture; zeros where there is no room for them
abbrev pub shown : List ℕ → List ℕ
shown capture = cond (ltb (length capture) (events_start (count_in capture))) (replicate held_count 0) (held (edition_in capture) (setting_words capture))

-- a board with sleep, whose tXP is not 0
abbrev pub is_sleeping : Settings → Bool
is_sleeping s = not (eqb s.t_xp 0)
