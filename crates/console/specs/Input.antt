-- How many bytes reading put into the buffer, and which.
use Rattle.std.specs.Prelude.{◌<◌, ℕ, List, Option, length, take, ⊤, MatchResult}
use Rattle.std.specs.Io.KnownBytes.{Consumes, IsAtEnd, ReadConsumes}
use Rattle.std.specs.declared.result.Result.{Result}
use Rattle.std.specs.declared.result.Result.TheVariants.{Ok, Err}
use Rattle.console.specs.declared.Failure.{Failure}

-- of an input that could not be read, none are of use
abbrev pub size_of : Result ℕ Failure → ℕ
size_of (Ok n) = n
size_of (Err why) = 0

-- of a reader whose bytes are known: a piece is its next ones, none only at its end or with no room, and a failed read leaves them
abbrev pub Gives : Option (List ℕ) → Option (List ℕ) → Result ℕ Failure → List ℕ → Type 0
Gives old new r buf = ReadConsumes old new r buf

-- of such a reader: what was read whole is its next bytes, and fewer than the buffer has only at its end
abbrev pub Reads : Option (List ℕ) → Option (List ℕ) → Result ℕ Failure → List ℕ → Type 0
Reads old new r buf = MatchResult r (λ n. Consumes old new (take n buf) × (n < length buf → IsAtEnd new)) (λ _. ⊤)
