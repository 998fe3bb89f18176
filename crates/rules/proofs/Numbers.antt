-- A rule is told by its number.
use Prim.Native.Nat.{ℕ}
use mathlib.Core.Bool.{cond}
use mathlib.Core.Path.{◌≡◌, refl}
use lib.Dec.{eqb}
use Rattle.rules.specs.declared.Rule.{Rule}
use Rattle.rules.specs.declared.Rule.TheVariants.{Row, ModeWord, BankState, Busy, Precharge, RowCycle, OtherActive, RowToColumn, RowHeld, WriteRecovery, WriteToRead, Bus, AutoPrecharge, Refresh, Sleep}
use Rattle.rules.specs.Rule.{number_of}

pub numbered : ℕ → Rule
numbered n =
    cond (eqb n 1) Row
    (cond (eqb n 2) ModeWord
    (cond (eqb n 3) BankState
    (cond (eqb n 4) Busy
    (cond (eqb n 5) Precharge
    (cond (eqb n 6) RowCycle
    (cond (eqb n 7) OtherActive
    (cond (eqb n 8) RowToColumn
    (cond (eqb n 9) RowHeld
    (cond (eqb n 10) WriteRecovery
    (cond (eqb n 11) WriteToRead
    (cond (eqb n 12) Bus
    (cond (eqb n 13) AutoPrecharge
    (cond (eqb n 14) Refresh Sleep)))))))))))))

pub numbered_is : (rule : Rule) → numbered (number_of rule) ≡ rule
unfolding numbered
numbered_is Row = refl
numbered_is ModeWord = refl
numbered_is BankState = refl
numbered_is Busy = refl
numbered_is Precharge = refl
numbered_is RowCycle = refl
numbered_is OtherActive = refl
numbered_is RowToColumn = refl
numbered_is RowHeld = refl
numbered_is WriteRecovery = refl
numbered_is WriteToRead = refl
numbered_is Bus = refl
numbered_is AutoPrecharge = refl
numbered_is Refresh = refl
numbered_is Sleep = refl
