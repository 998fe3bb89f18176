-- Cases a to l of document 01, every line of each.
use Prim.Native.Nat.{◌+◌}
use mathlib.Core.List.{List, [], ◌∷◌}
use mathlib.Core.Path.{refl}
use lib.ListN.{set}
use Rattle.reading.proofs.Cases.{ACTIVE, READ, WRITE, TERMINATE, PRECHARGE, REFRESH, NOP, A10, bank, at, usual, refuses, touches, breaks, said, Case, case, under, Hold}

cases : List Case
cases =
    -- a
    case [] (touches 0 [])
    -- b
    ∷ case (at 0 ACTIVE ∷ at 3 READ ∷ []) (touches 2 (0 ∷ 1 ∷ 2 ∷ 3 ∷ []))
    ∷ case (at 0 ACTIVE ∷ at 2 READ ∷ []) (breaks 1 8 1 2)
    -- c
    ∷ case (at 0 ACTIVE ∷ at 3 WRITE ∷ at 9 PRECHARGE ∷ []) (touches 3 (0 ∷ 1 ∷ 2 ∷ 3 ∷ []))
    ∷ case (at 0 ACTIVE ∷ at 3 WRITE ∷ at 8 PRECHARGE ∷ []) (breaks 2 10 2 8)
    ∷ case (at 0 ACTIVE ∷ at 3 WRITE ∷ at 6 PRECHARGE ∷ []) (breaks 2 9 2 6)
    -- d
    ∷ case (at 0 ACTIVE ∷ at 2 (ACTIVE + bank 1) ∷ []) (touches 2 [])
    ∷ case (at 0 ACTIVE ∷ at 1 (ACTIVE + bank 1) ∷ []) (breaks 1 7 1 1)
    -- e
    ∷ case (at 0 ACTIVE ∷ at 3 READ ∷ at 8 WRITE ∷ []) (touches 3 (0 ∷ 1 ∷ 2 ∷ 3 ∷ 0 ∷ 1 ∷ 2 ∷ 3 ∷ []))
    ∷ case (at 0 ACTIVE ∷ at 3 READ ∷ at 7 WRITE ∷ []) (breaks 2 12 2 7)
    -- f
    ∷ case (at 0 ACTIVE ∷ at 3 READ ∷ at 4 TERMINATE ∷ at 7 WRITE ∷ []) (touches 4 (0 ∷ 1 ∷ 0 ∷ 1 ∷ 2 ∷ 3 ∷ []))
    ∷ case (at 0 ACTIVE ∷ at 3 READ ∷ at 4 TERMINATE ∷ at 6 WRITE ∷ []) (breaks 3 12 3 6)
    -- g
    ∷ case (at 0 ACTIVE ∷ at 3 (READ + A10) ∷ at 10 ACTIVE ∷ []) (touches 3 (0 ∷ 1 ∷ 2 ∷ 3 ∷ []))
    ∷ case (at 0 ACTIVE ∷ at 3 (READ + A10) ∷ at 9 ACTIVE ∷ []) (breaks 2 5 2 9)
    -- its third line was rule 6 until settings that contradict each other were refused
    ∷ under (set usual 7 11) (at 0 ACTIVE ∷ at 3 (READ + A10) ∷ at 10 ACTIVE ∷ []) (refuses 3 7)
    -- h
    ∷ case (at 0 ACTIVE ∷ at 3 WRITE ∷ at 7 READ ∷ []) (touches 3 (0 ∷ 1 ∷ 2 ∷ 3 ∷ 0 ∷ 1 ∷ 2 ∷ 3 ∷ []))
    ∷ case (at 0 ACTIVE ∷ at 3 WRITE ∷ at 6 READ ∷ []) (breaks 2 11 2 6)
    -- i
    ∷ case (at 1 REFRESH ∷ at 13 ACTIVE ∷ []) (touches 2 [])
    ∷ case (at 1 REFRESH ∷ at 12 ACTIVE ∷ []) (breaks 1 4 1 12)
    -- j
    ∷ case (at 8999 NOP ∷ []) (touches 1 [])
    ∷ case (at 9000 NOP ∷ []) (breaks 0 14 0 9000)
    -- k
    ∷ case (at 0 ACTIVE ∷ at 3 (READ + 5) ∷ []) (touches 2 (5 ∷ 6 ∷ 7 ∷ 4 ∷ []))
    ∷ under (set usual 3 0x3a) (at 0 ACTIVE ∷ at 3 (READ + 5) ∷ []) (touches 2 (5 ∷ 4 ∷ 7 ∷ 6 ∷ []))
    ∷ case (at 0 ACTIVE ∷ at 3 (READ + 5) ∷ at 4 (READ + 8) ∷ []) (touches 3 (5 ∷ 6 ∷ 8 ∷ 9 ∷ 10 ∷ 11 ∷ []))
    -- l
    ∷ case (at 0 ACTIVE ∷ at 3 WRITE ∷ at 4 TERMINATE ∷ []) (breaks 2 13 2 4)
    ∷ []

a-to-l : Hold cases
unfolding cases said
a-to-l = refl
