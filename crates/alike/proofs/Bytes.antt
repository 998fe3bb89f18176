-- Of bytes, what may not be hidden is the same byte for byte: header and settings, every cycle, and the pins of an event whose
-- pin word is the same.
use Prim.Native.Nat.{ℕ, ◌+◌, ◌*◌, ◌<◌}
use mathlib.Core.List.{List}
use mathlib.Core.Path.{◌≡◌, sym, ap, ◌∙◌}
use lib.ListN.{get_or, take}
use lib.Seq.{get_or-take, get_or-drop}
use Rattle.reading.specs.Words.{bytes_of}
use Rattle.reading.specs.Capture.{events_start, count_in, event_count, event_bytes, event_at}
use Rattle.reading.specs.Schedule.{event_words}
use Rattle.reading.specs.Blank.{OnlyAddressesDiffer, blanked}
use Rattle.words.proofs.Bytes.{Bytes, word_same, words-bytes, joined_bytes, first-bytes}

-- ---- two captures that differ only in addresses

module _ (a b : List ℕ) (bytes-a : Bytes a) (bytes-b : Bytes b) (only : OnlyAddressesDiffer a b) where
  pub front_bytes : (j : ℕ) → j < events_start (count_in a) → get_or a j 0 ≡ get_or b j 0
  front_bytes j l =
      sym (get_or-take (events_start (count_in a)) a j 0 l) ∙ ap (λ (x : List ℕ). get_or x j 0) only.front ∙ get_or-take (events_start (count_in a)) b j 0 l

  events-a : Bytes (event_bytes a)
  events-a i = rw (get_or-drop (events_start (count_in a)) a i 0) (bytes-a (events_start (count_in a) + i))

  events-b : Bytes (event_bytes b)
  events-b i = rw (get_or-drop (events_start (count_in b)) b i 0) (bytes-b (events_start (count_in b) + i))

  module _ (i : ℕ) (l : i < event_count a) where
    pub cycle-bytes : (j : ℕ) → j < 4 → get_or (event_bytes a) (8 * i + j) 0 ≡ get_or (event_bytes b) (8 * i + j) 0
    cycle-bytes = word_same (event_bytes a) (event_bytes b) (8 * i) events-a events-b (only.cycles i l)

    pub pin-bytes : (event_at (event_bytes a) i).pins ≡ (event_at (event_bytes b) i).pins → (j : ℕ) → j < 4 →
        get_or (event_bytes a) (8 * i + 4 + j) 0 ≡ get_or (event_bytes b) (8 * i + 4 + j) 0
    pin-bytes = word_same (event_bytes a) (event_bytes b) (8 * i + 4) events-a events-b

-- ---- a capture blanked is bytes

pub blanked-bytes : (c : List ℕ) → Bytes c → Bytes (blanked c)
unfolding blanked
blanked-bytes c b =
    joined_bytes (take (events_start (count_in c)) c) (bytes_of (event_words _)) (first-bytes (events_start (count_in c)) c b)
    (words-bytes (event_words _))
