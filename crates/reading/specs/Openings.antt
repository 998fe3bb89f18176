-- What was open when: the row of a bank after an event, and the openings of each bank.
use Rattle.std.specs.Prelude.{ℕ, suc, ◌+◌, Bool, cond, ◌&&◌, List, [], ◌∷◌, ◌++◌, map, length, take, eqb}
use Rattle.std.proofs.Math.Option.{Option, none, some}
use Rattle.reading.specs.Search.{count}
use Rattle.reading.specs.Settings.{Settings}
use Rattle.reading.specs.Capture.{Event}
use Rattle.reading.specs.Commands.{Command, ACTIVE, is, command_of}
use Rattle.reading.specs.Part.{Part, Bank, start, step, run}

-- ---- what the rules say

-- the row, or idle
abbrev pub row_of : Bank → Option ℕ
row_of x = cond x.opened (some x.row) none

-- of bank b after event j
unfoldable pub row_after : Settings → List Event → ℕ → ℕ → Option ℕ
row_after s es b j = row_of ((run s (start s) (take (suc j) es)).banks b)

-- ---- the openings

-- its row, the event of the ACTIVE that began it, the last event after which it still stood open
pub record Opening : Type 0 where
  pub row : ℕ
  pub first : ℕ
  pub last : ℕ

abbrev pub opens : Command → ℕ → Bool
opens c b = is ACTIVE c && eqb b c.bank

-- bank b stands open in part p, after event i: how far it does, where these events follow
abbrev pub last_open : Settings → ℕ → Part → ℕ → List Event → ℕ
last_open s b p i [] = i
last_open s b p i (e ∷ es) = cond ((step s p e).banks b).opened (last_open s b (step s p e) (suc i) es) i

-- of bank b, where these events follow part p and the first of them is event i; each has the row that its ACTIVE leaves
abbrev pub openings_from : Settings → ℕ → Part → ℕ → List Event → List Opening
openings_from s b p i [] = []
openings_from s b p i (e ∷ es) =
    cond (opens (command_of e.pins) b)
    (record { row = ((step s p e).banks b).row; first = i; last = last_open s b (step s p e) i es } ∷ openings_from s b (step s p e) (suc i) es)
    (openings_from s b (step s p e) (suc i) es)

unfoldable pub openings_of : Settings → List Event → ℕ → List Opening
openings_of s es b = openings_from s b (start s) 0 es

-- ---- the index: three words an opening, in that order, bank 0's first

abbrev pub opening_words : List Opening → List ℕ
opening_words [] = []
opening_words (x ∷ xs) = x.row ∷ x.first ∷ x.last ∷ opening_words xs

unfoldable pub index_of : Settings → List Event → List ℕ
index_of s es = opening_words (openings_of s es 0 ++ openings_of s es 1 ++ openings_of s es 2 ++ openings_of s es 3)

-- ---- the bank records: how many openings stand before its own, and how many it has

pub record Record : Type 0 where
  pub before : ℕ
  pub count : ℕ

-- by the numbers of openings of the banks
abbrev pub records_from : ℕ → List ℕ → List Record
records_from before [] = []
records_from before (n ∷ ns) = record { before = before; count = n } ∷ records_from (before + n) ns

unfoldable pub records_of : Settings → List Event → List Record
records_of s es = records_from 0 (map (λ b. length (openings_of s es b)) (count 0 4))
