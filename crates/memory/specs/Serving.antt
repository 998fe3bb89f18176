-- Bursts that serve requests.
use Rattle.std.specs.Prelude.{ℕ, ◌≤◌, ◌<◌, true, List, [], ◌∷◌, ◌≡◌, length, get_or}
use Rattle.reading.specs.Mode.{h, mode_word}
use Rattle.reading.specs.Settings.{Settings}
use Rattle.reading.specs.Bursts.{Burst}
use Rattle.reading.specs.Schedule.{request_fits}
use Rattle.reading.specs.Memory.{requested}

-- All that is asked of the settings: rows and columns have their pins, and the mode has a burst length. A clause and no type: the
-- settings stay the array that the deadlines' functions take, so a type round it would be taken off at each call.
pub record Sized (s : Settings) : Type 0 where
  pub rows : s.row_bits ≤ 14
  pub columns : s.column_bits ≤ 11
  pub mode : mode_word s.mode ≡ true

-- all that is asked of the requests
abbrev pub EachFits : Settings → List ℕ → Type 0
EachFits s qs = (i : ℕ) → i < length qs → request_fits s (get_or qs i 0) ≡ true

-- ---- bursts

-- the same but for when it is given, how many pairs it keeps, and how its row is closed
pub record SameBeats (x y : Burst) : Type 0 where
  pub writes : x.writes ≡ y.writes
  pub bank : x.bank ≡ y.bank
  pub row : x.row ≡ y.row
  pub column : x.column ≡ y.column
  pub mode : x.mode ≡ y.mode

-- the burst that a request asks for, with all its pairs: by auto precharge, or because nothing cut it
pub record Serves (s : Settings) (x : Burst) (q : ℕ) : Type 0 where
  pub alike : SameBeats x (requested s q)
  pub whole : x.n ≡ h x.mode

-- two lists, element by element
pub data Each {A B : Type 0} (R : A → B → Type 0) : List A → List B → Type 0 where
  nil : Each R [] []
  cons : {x : A} {y : B} {xs : List A} {ys : List B} → R x y → Each R xs ys → Each R (x ∷ xs) (y ∷ ys)
