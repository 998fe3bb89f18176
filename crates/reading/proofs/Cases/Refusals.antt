-- Refusals 1 to 4: each alone, and several faults at once.
use Prim.Native.Nat.{ℕ, ◌+◌}
use mathlib.Core.List.{List, [], ◌∷◌, ◌++◌}
use mathlib.Core.Path.{refl}
use lib.ListN.{set, replicate}
use Rattle.reading.specs.Words.{bytes_of}
use Rattle.reading.proofs.Cases.{ACTIVE, READ, NOP, at, usual, sleeping, refuses, touches, breaks, said, Case, case, under, bytes, Hold}

-- a header word is wrong: the usual settings behind it, and no events
abbrev wrong : List ℕ → ℕ → ℕ → Case
wrong header number place = bytes (bytes_of (header ++ usual)) (refuses number place)

refusals : List Case
refusals =
    -- 1: too short, or not of its stated total
    bytes [] (refuses 1 0)
    ∷ bytes (replicate 79 0) (refuses 1 0)
    ∷ bytes (replicate 80 0) (refuses 1 0)
    ∷ bytes (bytes_of (80 ∷ 14 ∷ 24 ∷ 0 ∷ 80 ∷ 0 ∷ []) ++ bytes_of usual) (touches 0 [])
    ∷ bytes (bytes_of (80 ∷ 14 ∷ 24 ∷ 0 ∷ 80 ∷ 0 ∷ []) ++ bytes_of usual ++ (0 ∷ [])) (refuses 1 0)
    ∷ wrong (81 ∷ 14 ∷ 24 ∷ 0 ∷ 80 ∷ 0 ∷ []) 1 0
    -- with sixteen settings the shortest is longer
    ∷ wrong (80 ∷ 16 ∷ 24 ∷ 0 ∷ 80 ∷ 0 ∷ []) 1 0
    -- 2: another header word, or the total is not 80 + 8 N, reckoned without wrapping
    ∷ wrong (80 ∷ 15 ∷ 24 ∷ 0 ∷ 80 ∷ 0 ∷ []) 2 0
    ∷ wrong (80 ∷ 17 ∷ 24 ∷ 0 ∷ 80 ∷ 0 ∷ []) 2 0
    ∷ wrong (80 ∷ 14 ∷ 28 ∷ 0 ∷ 80 ∷ 0 ∷ []) 2 0
    ∷ wrong (80 ∷ 14 ∷ 24 ∷ 1 ∷ 80 ∷ 0 ∷ []) 2 0
    ∷ wrong (80 ∷ 14 ∷ 24 ∷ 0x20000000 ∷ 80 ∷ 0 ∷ []) 2 0
    ∷ wrong (80 ∷ 14 ∷ 24 ∷ 0 ∷ 88 ∷ 0 ∷ []) 2 0
    ∷ wrong (80 ∷ 14 ∷ 24 ∷ 0 ∷ 80 ∷ 2 ∷ []) 2 0
    ∷ wrong (80 ∷ 14 ∷ 24 ∷ 0 ∷ 80 ∷ 0xffffffff ∷ []) 2 0
    ∷ bytes (bytes_of (80 ∷ 14 ∷ 24 ∷ 0 ∷ 80 ∷ 1 ∷ []) ++ bytes_of usual) (touches 0 [])
    -- 3: the lowest setting, by its range or as a mode word
    ∷ under (set usual 0 0) [] (refuses 3 0)
    ∷ under (set usual 0 3) [] (refuses 3 0)
    ∷ under (set usual 1 15) [] (refuses 3 1)
    ∷ under (set usual 2 7) [] (refuses 3 2)
    ∷ under (set usual 3 0x42) [] (refuses 3 3)
    ∷ under (set usual 3 0xb2) [] (refuses 3 3)
    ∷ under (set (set usual 3 0x02) 4 0) [] (refuses 3 3)
    ∷ under (set (set usual 2 12) 3 0x02) [] (refuses 3 2)
    ∷ under (set usual 12 10001) [] (refuses 3 12)
    ∷ under (set usual 13 1000000) [] (touches 0 [])
    ∷ under (set usual 13 1000001) [] (refuses 3 13)
    -- and where each is in its range, tRC above tRAS + tRP
    ∷ under (set usual 7 10) [] (touches 0 [])
    ∷ under (set usual 7 11) [] (refuses 3 7)
    ∷ under (set usual 7 100) [] (refuses 3 7)
    ∷ under (set sleeping 7 10) [] (touches 0 [])
    ∷ under (set sleeping 7 11) [] (refuses 3 7)
    -- 4: the lowest event, by its pins or its cycle, before any event is judged
    ∷ case (at 0 (NOP + 0x100000) ∷ []) (refuses 4 0)
    ∷ case (at 0 NOP ∷ at 0 NOP ∷ []) (refuses 4 1)
    ∷ case (at 5 NOP ∷ at 6 NOP ∷ at 4 NOP ∷ []) (refuses 4 2)
    ∷ case (at 2000000000 NOP ∷ []) (breaks 0 14 0 2000000000)
    ∷ case (at 2000000001 NOP ∷ []) (refuses 4 0)
    ∷ case (at 0 ACTIVE ∷ at 2 READ ∷ at 3 (NOP + 0x80000000) ∷ []) (refuses 4 2)
    -- several at once: the first of the table
    ∷ wrong (81 ∷ 15 ∷ 24 ∷ 0 ∷ 80 ∷ 0 ∷ []) 1 0
    ∷ bytes (bytes_of (80 ∷ 14 ∷ 24 ∷ 0 ∷ 80 ∷ 7 ∷ []) ++ bytes_of (set usual 0 0)) (refuses 2 0)
    ∷ under (set usual 13 0) (at 0 (NOP + 0x100000) ∷ []) (refuses 3 13)
    ∷ under (set (set usual 7 11) 13 0) [] (refuses 3 13)
    ∷ under (set (set sleeping 7 11) 15 0) [] (refuses 3 15)
    ∷ under (set usual 7 11) (at 0 (NOP + 0x100000) ∷ []) (refuses 3 7)
    ∷ under (set sleeping 7 11) (at 0 NOP ∷ at 0 NOP ∷ []) (refuses 3 7)
    ∷ bytes (bytes_of (80 ∷ 14 ∷ 24 ∷ 0 ∷ 80 ∷ 7 ∷ []) ++ bytes_of (set usual 7 11)) (refuses 2 0)
    ∷ []

each-refusal : Hold refusals
unfolding refusals said
each-refusal = refl
