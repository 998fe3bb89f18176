-- The numbers of the rules in document 01, and of what a command answers; what two commands or two rules share.
use Rattle.std.specs.Prelude.{ℕ, ◌+◌, Bool, not, ◌||◌, List, [], ◌∷◌, leb, eqb, ⊤, Result, Ok, Err}
use Rattle.reading.specs.Rules.{every_bank}
use Rattle.deadlines.specs.Deadlines.{OPENED, COLUMN, BUSY, at, rule_unless, asks, unmet, last_breaks}
use Rattle.rules.specs.declared.Rule.{Rule}
use Rattle.rules.specs.declared.Rule.TheVariants.{Row, ModeWord, BankState, Busy, Precharge, RowCycle, OtherActive, RowToColumn, RowHeld, WriteRecovery, WriteToRead, Bus, AutoPrecharge, Refresh, Sleep}

abbrev pub number_of : Rule → ℕ
number_of Row = 1
number_of ModeWord = 2
number_of BankState = 3
number_of Busy = 4
number_of Precharge = 5
number_of RowCycle = 6
number_of OtherActive = 7
number_of RowToColumn = 8
number_of RowHeld = 9
number_of WriteRecovery = 10
number_of WriteToRead = 11
number_of Bus = 12
number_of AutoPrecharge = 13
number_of Refresh = 14
number_of Sleep = 15

-- the rule that an answer names, 0 where none is broken
abbrev pub broken : Result ⊤ Rule → ℕ
broken (Ok done) = 0
broken (Err rule) = number_of rule

-- of each bank that is open a deadline of one kind is over
abbrev pub open_kept : List ℕ → ℕ → ℕ → Bool
open_kept d t first = every_bank (λ i. leb (at d (first + i)) t || eqb (at d (OPENED + i)) 0)

-- READ and WRITE, which wait for the bus by deadlines of their own
unfoldable pub burst_breaks : List ℕ → ℕ → ℕ → ℕ → ℕ → ℕ → ℕ
burst_breaks d t b bus rule auto =
    rule_unless (not (eqb (at d (OPENED + b)) 0)) 3
    (unmet (asks 4 (at d BUSY) ∷ asks 8 (at d (COLUMN + b)) ∷ asks rule (at d bus) ∷ asks 13 (at d auto) ∷ []) t (last_breaks d t))
