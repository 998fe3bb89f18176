-- What this crate's answers mean in the reading, and what is left in the lent records.
use Rattle.std.specs.Prelude as std
use Rattle.std.specs.Prelude.{ℕ, zero, suc, ◌+◌, List, map, get_or, set, Some, None, Result, Ok, Err}
use Rattle.std.proofs.Math.Option.{Option, none, some}
use Rattle.reading.specs.Answers.{Answer, refused, answered}
use Rattle.reading.specs.Openings.{Record}
use Rattle.words.specs.Found.{place_of}
use Rattle.refusal.specs.declared.Refusal.{Refusal}
use Rattle.refusal.specs.Refusal.{told}
use Rattle.banks.specs.declared.Bank.{Bank}
use Rattle.banks.specs.declared.Told.{Told}

-- the reading's answer: the row, or idle
abbrev pub means : Result Told Refusal → Answer (Option ℕ)
means r = told (λ t. place_of t.row) r

-- a bank with no opening, none before its own; and the record of bank i
abbrev pub no_opening : Bank
no_opening = record { before = 0; count = 0 }

abbrev pub bank_at : List Bank → ℕ → Bank
bank_at banks i = get_or banks i no_opening

-- a refusal leaves the record as it is
abbrev pub filled_of : Result Told Refusal → Bank → ℕ → Bank
filled_of (Ok t) b bank = bank_at t.banks bank
filled_of (Err r) b bank = b

-- ---- the reading's records and answers, as they are told

abbrev pub bank_of : Record → Bank
bank_of r = record { before = r.before; count = r.count }

abbrev pub record_of : Bank → Record
record_of b = record { before = b.before; count = b.count }

abbrev pub row_asked : Option ℕ → std.Option ℕ
row_asked none = None
row_asked (some row) = Some row

-- what was found, as the reading has it: the row, and the records
abbrev pub found : Told → Option ℕ × List Record
found t = (place_of t.row, map record_of t.banks)

-- a refusal tells of no openings
abbrev pub told_of : Answer (Option ℕ) → List Record → Answer (Option ℕ × List Record)
told_of (refused number place) records = refused number place
told_of (answered row) records = answered (row, records)

-- ---- in place

-- n records from record i on, one after the other
unfoldable pub filled_from : Result Told Refusal → List Bank → ℕ → ℕ → List Bank
filled_from t records i zero = records
filled_from t records i (suc n) = filled_from t (set records i (filled_of t (bank_at records i) i)) (i + 1) n
