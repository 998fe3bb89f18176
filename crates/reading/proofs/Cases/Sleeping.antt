-- Captures with sleep in them: the request's worked lines, and each clause of rule 15 from both sides.
use Prim.Native.Nat.{ℕ, ◌+◌}
use mathlib.Core.List.{List, [], ◌∷◌, ◌++◌}
use mathlib.Core.Path.{refl}
use lib.ListN.{set}
use Rattle.reading.specs.Words.{bytes_of}
use Rattle.reading.specs.Capture.{Event}
use Rattle.reading.proofs.Cases.{ACTIVE, READ, WRITE, TERMINATE, PRECHARGE, REFRESH, MODE, NOP, DESELECT, A10, LOW, bank, at, usual, sleeping, refuses, touches, breaks, said, Case, under, bytes, Hold}

-- clean, with no burst; and the last of n + 1 events breaks a rule at a cycle
abbrev quietly : ℕ → List Event → Case
quietly n es = under sleeping es (touches n [])

abbrev breaking : List Event → ℕ → ℕ → ℕ → Case
breaking es n r t = under sleeping es (breaks n r n t)

-- tREFI 100
abbrev owing : List ℕ
owing = set sleeping 13 100

lines : List Case
lines =
    -- tXP
    quietly 3 (at 0 (NOP + LOW) ∷ at 5 NOP ∷ at 7 ACTIVE ∷ [])
    ∷ breaking (at 0 (NOP + LOW) ∷ at 5 NOP ∷ at 6 ACTIVE ∷ []) 2 15 6
    -- the next entry waits
    ∷ quietly 3 (at 0 (NOP + LOW) ∷ at 1 NOP ∷ at 3 (NOP + LOW) ∷ [])
    ∷ breaking (at 0 (NOP + LOW) ∷ at 1 NOP ∷ at 2 (NOP + LOW) ∷ []) 2 15 2
    ∷ breaking (at 0 (NOP + LOW) ∷ at 1 NOP ∷ at 2 (REFRESH + LOW) ∷ []) 2 15 2
    ∷ breaking (at 0 (NOP + LOW) ∷ at 1 NOP ∷ at 2 PRECHARGE ∷ []) 2 15 2
    ∷ breaking (at 0 (NOP + LOW) ∷ at 1 NOP ∷ at 2 TERMINATE ∷ []) 2 15 2
    -- a NOP does not wait
    ∷ quietly 3 (at 0 (NOP + LOW) ∷ at 1 NOP ∷ at 2 NOP ∷ [])
    ∷ quietly 3 (at 0 (DESELECT + LOW) ∷ at 1 DESELECT ∷ at 3 ACTIVE ∷ [])
    -- tXSR
    ∷ quietly 3 (at 5 (REFRESH + LOW) ∷ at 5000 NOP ∷ at 5020 ACTIVE ∷ [])
    ∷ breaking (at 5 (REFRESH + LOW) ∷ at 5000 NOP ∷ at 5019 ACTIVE ∷ []) 2 15 5019
    -- rule 14 anew
    ∷ quietly 4 (at 5 (REFRESH + LOW) ∷ at 2500 (NOP + LOW) ∷ at 5000 NOP ∷ at 13999 NOP ∷ [])
    ∷ breaking (at 5 (REFRESH + LOW) ∷ at 2500 (NOP + LOW) ∷ at 5000 NOP ∷ at 14000 NOP ∷ []) 3 14 14000
    ∷ under owing (at 800 (REFRESH + LOW) ∷ at 5050 NOP ∷ at 5949 NOP ∷ []) (touches 3 [])
    ∷ under owing (at 800 (REFRESH + LOW) ∷ at 5050 NOP ∷ at 5950 NOP ∷ []) (breaks 2 14 2 5950)
    -- rule 14 in power-down
    ∷ quietly 2 (at 0 (NOP + LOW) ∷ at 8999 NOP ∷ [])
    ∷ under owing (at 800 (NOP + LOW) ∷ at 899 NOP ∷ []) (touches 2 [])
    ∷ under owing (at 800 (NOP + LOW) ∷ at 900 NOP ∷ []) (breaks 1 14 1 900)
    ∷ breaking (at 0 (NOP + LOW) ∷ at 9000 NOP ∷ []) 1 14 9000
    ∷ breaking (at 0 (NOP + LOW) ∷ at 500 NOP ∷ at 9000 NOP ∷ []) 2 14 9000
    ∷ breaking (at 0 (NOP + LOW) ∷ at 9000 ACTIVE ∷ []) 1 14 9000
    -- read end, whole and cut, and data end
    ∷ under sleeping (at 0 ACTIVE ∷ at 3 READ ∷ at 8 (NOP + LOW) ∷ []) (touches 3 (0 ∷ 1 ∷ 2 ∷ 3 ∷ []))
    ∷ breaking (at 0 ACTIVE ∷ at 3 READ ∷ at 7 (NOP + LOW) ∷ []) 2 15 7
    ∷ under sleeping (at 0 ACTIVE ∷ at 3 READ ∷ at 4 TERMINATE ∷ at 7 (NOP + LOW) ∷ []) (touches 4 (0 ∷ 1 ∷ []))
    ∷ breaking (at 0 ACTIVE ∷ at 3 READ ∷ at 4 TERMINATE ∷ at 6 (NOP + LOW) ∷ []) 3 15 6
    ∷ under sleeping (at 0 ACTIVE ∷ at 3 WRITE ∷ at 6 (NOP + LOW) ∷ []) (touches 3 (0 ∷ 1 ∷ 2 ∷ 3 ∷ []))
    ∷ breaking (at 0 ACTIVE ∷ at 3 WRITE ∷ at 5 (NOP + LOW) ∷ []) 2 15 5
    -- rule 4 of an entry, and of no other NOP
    ∷ quietly 2 (at 1 REFRESH ∷ at 13 (NOP + LOW) ∷ [])
    ∷ quietly 2 (at 1 REFRESH ∷ at 2 NOP ∷ [])
    ∷ breaking (at 1 REFRESH ∷ at 12 (NOP + LOW) ∷ []) 1 4 12
    ∷ breaking (at 1 (MODE + bank 2) ∷ at 2 (DESELECT + LOW) ∷ []) 1 4 2
    -- rule 5 of an entry
    ∷ under sleeping (at 0 ACTIVE ∷ at 3 (READ + A10) ∷ at 10 (REFRESH + LOW) ∷ []) (touches 3 (0 ∷ 1 ∷ 2 ∷ 3 ∷ []))
    ∷ breaking (at 0 ACTIVE ∷ at 3 (READ + A10) ∷ at 9 (REFRESH + LOW) ∷ []) 2 5 9
    -- power-down with an open bank
    ∷ under sleeping (at 0 ACTIVE ∷ at 1 (NOP + LOW) ∷ at 2 NOP ∷ at 4 READ ∷ []) (touches 4 (0 ∷ 1 ∷ 2 ∷ 3 ∷ []))
    -- an entry is no AUTO REFRESH
    ∷ under (set sleeping 11 500) (at 0 (REFRESH + LOW) ∷ at 1 NOP ∷ at 21 ACTIVE ∷ []) (touches 3 [])
    -- wrong entries
    ∷ breaking (at 0 (TERMINATE + LOW) ∷ []) 0 15 0
    ∷ breaking (at 0 (READ + LOW) ∷ []) 0 3 0
    ∷ breaking (at 0 ACTIVE ∷ at 20 (REFRESH + LOW) ∷ []) 1 3 20
    ∷ quietly 1 (at 8999 (REFRESH + LOW) ∷ [])
    ∷ breaking (at 9000 (REFRESH + LOW) ∷ []) 0 14 9000
    -- while low
    ∷ breaking (at 0 (NOP + LOW) ∷ at 5 (READ + LOW) ∷ []) 1 3 5
    ∷ breaking (at 0 (NOP + LOW) ∷ at 5 (ACTIVE + LOW + 0x2000) ∷ []) 1 1 5
    ∷ breaking (at 0 (NOP + LOW) ∷ at 5 READ ∷ []) 1 3 5
    ∷ breaking (at 0 (NOP + LOW) ∷ at 5 (PRECHARGE + LOW) ∷ []) 1 15 5
    ∷ breaking (at 0 (REFRESH + LOW) ∷ at 10000 ACTIVE ∷ []) 1 15 10000
    ∷ breaking (at 0 (REFRESH + LOW) ∷ at 10000 (ACTIVE + LOW) ∷ []) 1 15 10000
    ∷ []

worked-lines : Hold lines
unfolding lines said
worked-lines = refl

-- ---- clauses that the lines leave open

clauses : List Case
clauses =
    -- self refresh inside a read is rule 12: tRAS and tRP 1, tRC 2
    under (set (set (set sleeping 5 1) 6 1) 7 2) (at 0 ACTIVE ∷ at 3 (READ + A10) ∷ at 7 (REFRESH + LOW) ∷ []) (breaks 2 12 2 7)
    -- power-down waits for a write's data end, not for tWR
    ∷ under (set sleeping 9 30) (at 0 ACTIVE ∷ at 3 WRITE ∷ at 6 (NOP + LOW) ∷ []) (touches 3 (0 ∷ 1 ∷ 2 ∷ 3 ∷ []))
    -- DESELECT low keeps the part asleep, DESELECT high leaves self refresh; leaving restarts rule 14, not rule 4
    ∷ quietly 4 (at 0 (REFRESH + LOW) ∷ at 13000 (DESELECT + LOW) ∷ at 14000 DESELECT ∷ at 15000 NOP ∷ [])
    ∷ under (set sleeping 11 30) (at 0 REFRESH ∷ at 30 (REFRESH + LOW) ∷ at 31 NOP ∷ at 51 ACTIVE ∷ []) (touches 4 [])
    -- the wait after power-down is not that after self refresh, in either order
    ∷ quietly 5 (at 0 (REFRESH + LOW) ∷ at 1 NOP ∷ at 21 (NOP + LOW) ∷ at 22 NOP ∷ at 24 ACTIVE ∷ [])
    ∷ breaking (at 0 (REFRESH + LOW) ∷ at 1 NOP ∷ at 20 (NOP + LOW) ∷ []) 2 15 20
    ∷ breaking (at 0 (NOP + LOW) ∷ at 1 NOP ∷ at 3 (REFRESH + LOW) ∷ at 4 NOP ∷ at 23 ACTIVE ∷ []) 4 15 23
    ∷ quietly 5 (at 0 (NOP + LOW) ∷ at 1 NOP ∷ at 3 (REFRESH + LOW) ∷ at 4 NOP ∷ at 24 ACTIVE ∷ [])
    -- nothing more is asked of a second NOP while low, and rule 4 of no NOP that stays
    ∷ quietly 3 (at 0 (NOP + LOW) ∷ at 1 (NOP + LOW) ∷ at 2 (DESELECT + LOW) ∷ [])
    -- AUTO REFRESH is no exception: it may not come asleep, and waits for leaving to be over
    ∷ breaking (at 0 (NOP + LOW) ∷ at 5 (REFRESH + LOW) ∷ []) 1 15 5
    ∷ breaking (at 0 (NOP + LOW) ∷ at 1 NOP ∷ at 2 REFRESH ∷ []) 2 15 2
    -- in power-down rule 14 is asked of what stays, and before rule 15
    ∷ breaking (at 0 (NOP + LOW) ∷ at 9000 (NOP + LOW) ∷ []) 1 14 9000
    ∷ breaking (at 0 (NOP + LOW) ∷ at 9000 (TERMINATE + LOW) ∷ []) 1 14 9000
    ∷ breaking (at 0 (NOP + LOW) ∷ at 8998 NOP ∷ at 9000 (NOP + LOW) ∷ []) 2 14 9000
    -- not asked of a command in self refresh, nor of a wrong exit; a wrong entry names lower rules first
    ∷ breaking (at 0 (REFRESH + LOW) ∷ at 10000 (TERMINATE + LOW) ∷ []) 1 15 10000
    ∷ breaking (at 0 REFRESH ∷ at 5 (TERMINATE + LOW) ∷ []) 1 4 5
    -- self refresh behind a write with auto precharge, as soon as its bank has rested
    ∷ under (set (set (set (set sleeping 5 1) 6 1) 7 2) 9 1) (at 0 ACTIVE ∷ at 3 (WRITE + A10) ∷ at 8 (REFRESH + LOW) ∷ [])
    (touches 3 (0 ∷ 1 ∷ 2 ∷ 3 ∷ []))
    -- a capture may end asleep, and wakes to rule 14's end
    ∷ quietly 1 (at 7 (REFRESH + LOW) ∷ [])
    ∷ quietly 3 (at 5 (REFRESH + LOW) ∷ at 5000 NOP ∷ at 13999 (NOP + LOW) ∷ [])
    ∷ breaking (at 5 (REFRESH + LOW) ∷ at 5000 NOP ∷ at 14000 (NOP + LOW) ∷ []) 2 14 14000
    -- what was paid before self refresh is not kept, and entering it pays nothing
    ∷ under owing (at 500 REFRESH ∷ at 520 REFRESH ∷ at 600 (REFRESH + LOW) ∷ at 601 NOP ∷ at 1500 NOP ∷ []) (touches 5 [])
    ∷ under owing (at 500 REFRESH ∷ at 520 REFRESH ∷ at 600 (REFRESH + LOW) ∷ at 601 NOP ∷ at 1501 NOP ∷ []) (breaks 4 14 4 1501)
    -- and after it an AUTO REFRESH pays what is owed since
    ∷ under owing (at 0 (REFRESH + LOW) ∷ at 50 NOP ∷ at 150 REFRESH ∷ at 1049 NOP ∷ []) (touches 4 [])
    ∷ under owing (at 0 (REFRESH + LOW) ∷ at 50 NOP ∷ at 149 REFRESH ∷ at 950 NOP ∷ []) (breaks 3 14 3 950)
    ∷ []

each-clause : Hold clauses
unfolding clauses said
each-clause = refl

-- ---- the format: sixteen settings, and refusals of both layouts

layouts : List Case
layouts =
    bytes (bytes_of (88 ∷ 16 ∷ 24 ∷ 0 ∷ 88 ∷ 0 ∷ []) ++ bytes_of sleeping) (touches 0 [])
    ∷ bytes (bytes_of (87 ∷ 16 ∷ 24 ∷ 0 ∷ 88 ∷ 0 ∷ []) ++ bytes_of usual ++ (2 ∷ 0 ∷ 0 ∷ 0 ∷ 20 ∷ 0 ∷ 0 ∷ [])) (refuses 1 0)
    ∷ bytes (bytes_of (88 ∷ 16 ∷ 24 ∷ 0 ∷ 80 ∷ 0 ∷ []) ++ bytes_of sleeping) (refuses 2 0)
    ∷ bytes (bytes_of (88 ∷ 16 ∷ 24 ∷ 1 ∷ 88 ∷ 0 ∷ []) ++ bytes_of sleeping) (refuses 2 0)
    ∷ bytes (bytes_of (88 ∷ 15 ∷ 24 ∷ 1 ∷ 80 ∷ 0 ∷ []) ++ bytes_of sleeping) (refuses 2 0)
    ∷ bytes (bytes_of (88 ∷ 17 ∷ 24 ∷ 0 ∷ 88 ∷ 0 ∷ []) ++ bytes_of sleeping) (refuses 2 0)
    ∷ under (set sleeping 14 0) [] (refuses 3 14)
    ∷ under (set sleeping 14 10001) [] (refuses 3 14)
    ∷ under (set sleeping 15 0) [] (refuses 3 15)
    ∷ under (set sleeping 15 10001) [] (refuses 3 15)
    ∷ under (set (set sleeping 14 10000) 15 10000) [] (touches 0 [])
    ∷ under (set (set sleeping 14 0) 3 0) [] (refuses 3 3)
    ∷ under sleeping (at 0 (NOP + LOW) ∷ []) (touches 1 [])
    ∷ under sleeping (at 0 (NOP + 0x200000) ∷ []) (refuses 4 0)
    ∷ under usual (at 0 (NOP + LOW) ∷ []) (refuses 4 0)
    ∷ []

each_layout : Hold layouts
unfolding layouts said
each_layout = refl
