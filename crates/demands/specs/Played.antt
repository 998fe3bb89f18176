-- When a play is refused, and what it is that was played.
use Rattle.std.specs.Prelude.{ℕ, ◌+◌, ◌≤◌, ◌<◌, false, List, [], map, ◌≡◌, length, take, drop}
use Rattle.std.proofs.Math.Option.{Option, none, some}
use Rattle.reading.specs.Search.{count}
use Rattle.reading.specs.Settings.{Settings}
use Rattle.reading.specs.Capture.{events_of}
use Rattle.reading.specs.Bursts.{Burst, cell_number}
use Rattle.reading.specs.Cells.{bursts_of}
use Rattle.reading.specs.Memory.{Contents, Run}
use Rattle.reading.specs.Answers.{settings_in}
use Rattle.reading.specs.Player.{most_window, in_window, data_of, unplayable, event_of_burst, played_on}
use Rattle.demands.specs.Captures.{CaptureRefused}
use Rattle.demands.specs.Refused.{Accepted, Clean, Broken}

-- at most 16,384 words, and all of them cells of the part, which has four banks
abbrev pub Within : Settings → ℕ → ℕ → Type 0
Within s first size = (size ≤ most_window) × (first + size ≤ cell_number s 4 0 0)

-- how many words are read
abbrev pub needed : List ℕ → ℕ → List ℕ → List ℕ → ℕ
needed capture first window writes = length (played_on (settings_in capture) (events_of capture) first window writes).returned

-- the first burst with a kept beat outside the window, or with too few words or masks
abbrev pub first_bad : List ℕ → ℕ → List ℕ → List ℕ → Option Burst
first_bad capture first window writes =
    unplayable (settings_in capture) first (length window) (length (data_of writes)) (bursts_of (settings_in capture) (events_of capture))

-- a capture that is to be played
pub data PlayRefused (capture : List ℕ) (first : ℕ) (window writes reads : List ℕ) (number place : ℕ) : Type 0 where
  -- 1 to 4
  unopened : CaptureRefused capture number place → PlayRefused capture first window writes reads number place
  -- 8: the first event that breaks a rule
  unsound : Accepted capture → number ≡ 8 → (rule cycle : ℕ) → Broken capture rule place cycle → PlayRefused capture first window writes reads number place
  -- 15: the window is too large, or leaves the part
  outside : Accepted capture → Clean capture → (Within (settings_in capture) first (length window) → ⊥) → number ≡ 15 → place ≡ 0 →
      PlayRefused capture first window writes reads number place
  -- 15: the event of the first burst that cannot be played
  unplayed : Accepted capture → Clean capture → Within (settings_in capture) first (length window) → (x : Burst) →
      first_bad capture first window writes ≡ some x → number ≡ 15 → place ≡ event_of_burst (events_of capture) x →
      PlayRefused capture first window writes reads number place
  -- 7: the words that would be read
  unread : Accepted capture → Clean capture → Within (settings_in capture) first (length window) → first_bad capture first window writes ≡ none →
      number ≡ 7 → place ≡ needed capture first window writes → length reads < place → PlayRefused capture first window writes reads number place

-- a part that holds what the window says, and nothing was returned yet
abbrev pub starting : Contents → List ℕ → Run
starting m writes = record { contents = m; supply = data_of writes; returned = [] }

-- afterwards window and words read are those of a run r of a part that held m; cells outside stay, words behind stay
pub record Shows (first : ℕ) (window reads left words : List ℕ) (k : ℕ) (m : Contents) (r : Run) : Type 0 where
  pub cells : left ≡ map r.contents (count first (length window))
  pub others : (x : ℕ) → in_window first (length window) x ≡ false → r.contents x ≡ m x
  pub read : take k words ≡ r.returned
  pub counted : k ≡ length r.returned
  pub behind : drop k words ≡ drop k reads
