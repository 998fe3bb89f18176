-- What printing does to the mark that all text before was written, and to what a writer holds.
use Rattle.std.specs.Prelude.{◌≡◌, ◌≤◌, ℕ, Bool, true, List, Option, length, take}
use Rattle.std.specs.Io.KnownBytes.{Appends}

-- whole afterwards means whole before: what was lost stays lost
abbrev pub Stays : Bool → Bool → Type 0
Stays before after = after ≡ true → before ≡ true

-- what a writer holds, where that is known, grows by the text up to some byte, and by all of it where it was written whole
abbrev pub Writes : Option (List ℕ) → Option (List ℕ) → Bool → List ℕ → Type 0
Writes old new whole text = (n : ℕ) × (n ≤ length text) × (whole ≡ true → n ≡ length text) × Appends old new (take n text)
