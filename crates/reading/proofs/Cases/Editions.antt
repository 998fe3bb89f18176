-- Interrupted writes: the newer edition beside the old one.
use Prim.Native.Nat.{ℕ, ◌+◌, ◌-◌, ◌*◌}
use mathlib.Core.List.{List, [], ◌∷◌, ◌++◌}
use mathlib.Core.Path.{refl}
use lib.ListN.{length, set, replicate}
use Rattle.reading.specs.Search.{count}
use Rattle.reading.specs.Capture.{Event}
use Rattle.reading.specs.Schedule.{capture_in}
use Rattle.reading.proofs.Cases.{ACTIVE, READ, WRITE, TERMINATE, PRECHARGE, NOP, A10, LOW, bank, at, usual, sleeping, four, Said, refuses, touches, breaks, said, said_of, Case, case, bytes, Hold, Line, line_under, HoldLines}

-- a capture that names an edition in its sixth header word
abbrev named : ℕ → List ℕ → List Event → Said → Case
named edition settings es o = bytes (capture_in edition settings es) o

abbrev newer : List Event → Said → Case
newer = named 1 usual

-- the same where no capture is written
abbrev newer_under : List ℕ → List Event → Said → Line
newer_under settings = line_under (settings ++ replicate (16 - length settings) 0 ++ (1 ∷ []))

-- BL 16, tWTR 1, tWR 6
abbrev long : List ℕ
long = set (set usual 3 0x34) 9 6

-- the cells of so many pairs from cell 0 on, and of an uncut burst of sixteen
abbrev first : ℕ → List ℕ
first pairs = count 0 (2 * pairs)

abbrev sixteen_from : ℕ → List ℕ
sixteen_from cell = count cell 16

worked : List Case
worked =
    newer (at 0 ACTIVE ∷ at 3 WRITE ∷ at 6 READ ∷ []) (touches 3 (first 1 ++ four 0))
    ∷ newer (at 0 ACTIVE ∷ at 3 WRITE ∷ at 5 READ ∷ []) (breaks 2 11 2 5)
    ∷ newer (at 0 ACTIVE ∷ at 3 WRITE ∷ at 8 PRECHARGE ∷ []) (touches 3 (first 1))
    ∷ newer (at 0 ACTIVE ∷ at 3 WRITE ∷ at 7 PRECHARGE ∷ []) (breaks 2 10 2 7)
    ∷ named 2 usual [] (refuses 2 0)
    -- the same two boards by the old edition
    ∷ case (at 0 ACTIVE ∷ at 3 WRITE ∷ at 6 READ ∷ []) (breaks 2 11 2 6)
    ∷ case (at 0 ACTIVE ∷ at 3 WRITE ∷ at 8 PRECHARGE ∷ []) (breaks 2 10 2 8)
    -- with sixteen settings
    ∷ named 1 sleeping (at 0 ACTIVE ∷ at 3 WRITE ∷ at 6 READ ∷ []) (touches 3 (first 1 ++ four 0))
    ∷ named 2 sleeping [] (refuses 2 0)
    -- the header before the settings, and these before the events
    ∷ named 2 (set usual 0 0) [] (refuses 2 0)
    ∷ named 1 (set usual 0 0) [] (refuses 3 0)
    ∷ named 1 usual (at 0 NOP ∷ at 0 NOP ∷ []) (refuses 4 1)
    ∷ []

worked-captures : Hold worked
unfolding worked said
worked-captures = refl

lines : List Line
lines =
    -- a later PRECHARGE cuts further, unless the bank is idle
    newer_under long (at 0 ACTIVE ∷ at 3 WRITE ∷ at 9 READ ∷ []) (touches 3 (first 4 ++ sixteen_from 0))
    ∷ newer_under long (at 0 ACTIVE ∷ at 3 WRITE ∷ at 9 READ ∷ at 12 PRECHARGE ∷ []) (touches 4 (first 2 ++ first 3))
    ∷ newer_under long (at 0 ACTIVE ∷ at 3 WRITE ∷ at 9 (READ + A10) ∷ at 12 PRECHARGE ∷ []) (touches 4 (first 4 ++ sixteen_from 0))
    -- what is cut is over
    ∷ newer_under long (at 0 ACTIVE ∷ at 3 WRITE ∷ at 9 READ ∷ at 10 TERMINATE ∷ []) (touches 4 (first 4 ++ first 1))
    -- a write whose data has ended can still be cut, by a READ of another bank when its own is closed
    ∷ newer_under (set usual 10 20) (at 0 ACTIVE ∷ at 2 (ACTIVE + bank 1) ∷ at 3 WRITE ∷ at 9 PRECHARGE ∷ at 25 (READ + bank 1) ∷ [])
    (touches 5 (first 1 ++ four 8388608))
    ∷ newer_under (set usual 10 20) (at 0 ACTIVE ∷ at 2 (ACTIVE + bank 1) ∷ at 3 WRITE ∷ at 9 PRECHARGE ∷ at 26 (READ + bank 1) ∷ [])
    (touches 5 (four 0 ++ four 8388608))
    -- after a write with auto precharge rule 11 is the old one
    ∷ newer_under usual (at 0 ACTIVE ∷ at 2 (ACTIVE + bank 1) ∷ at 5 (WRITE + A10) ∷ at 9 (READ + bank 1) ∷ []) (touches 4 (four 0 ++ four 8388608))
    ∷ newer_under usual (at 0 ACTIVE ∷ at 2 (ACTIVE + bank 1) ∷ at 5 (WRITE + A10) ∷ at 8 (READ + bank 1) ∷ []) (breaks 3 11 3 8)
    -- power-down asks for the data's end as it was cut
    ∷ newer_under (set (set sleeping 3 0x34) 9 1) (at 0 ACTIVE ∷ at 5 WRITE ∷ at 8 PRECHARGE ∷ at 9 (NOP + LOW) ∷ []) (touches 4 (first 1))
    ∷ []

worked-lines : HoldLines lines
unfolding lines said_of
worked-lines = refl

clauses : List Line
clauses =
    -- READ of any bank: the write's own, another, and where the write's row has been closed
    newer_under long (at 0 ACTIVE ∷ at 2 (ACTIVE + bank 1) ∷ at 5 WRITE ∷ at 10 (READ + bank 1) ∷ []) (touches 4 (first 3 ++ sixteen_from 8388608))
    -- only the last write: of two the first keeps what the second left it
    ∷ newer_under long (at 0 ACTIVE ∷ at 3 WRITE ∷ at 9 (WRITE + 16) ∷ at 13 READ ∷ []) (touches 4 (first 6 ++ (16 ∷ 17 ∷ 18 ∷ 19 ∷ []) ++ sixteen_from 0))
    -- a READ waits for the last write of all, and not for those of its bank
    ∷ newer_under long (at 0 ACTIVE ∷ at 2 (ACTIVE + bank 1) ∷ at 5 WRITE ∷ at 6 (WRITE + bank 1) ∷ at 8 READ ∷ []) (breaks 4 11 4 8)
    -- a read is not interrupted, by READ or PRECHARGE
    ∷ newer_under long (at 0 ACTIVE ∷ at 3 READ ∷ at 6 READ ∷ []) (touches 3 (first 3 ++ sixteen_from 0))
    ∷ newer_under long (at 0 ACTIVE ∷ at 3 READ ∷ at 12 PRECHARGE ∷ []) (touches 3 (sixteen_from 0))
    -- PRECHARGE of one bank and of all; the other bank's write stays
    ∷ newer_under long (at 0 ACTIVE ∷ at 2 (ACTIVE + bank 1) ∷ at 5 WRITE ∷ at 7 (WRITE + bank 1) ∷ at 15 (PRECHARGE + bank 1) ∷ [])
    (touches 5 (first 2 ++ (8388608 ∷ 8388609 ∷ [])))
    ∷ newer_under long (at 0 ACTIVE ∷ at 2 (ACTIVE + bank 1) ∷ at 5 WRITE ∷ at 7 (WRITE + bank 1) ∷ at 16 (PRECHARGE + A10) ∷ [])
    (touches 5 (first 2 ++ (8388608 ∷ 8388609 ∷ 8388610 ∷ 8388611 ∷ [])))
    -- of a bank's own last write, also where another bank was written since
    ∷ newer_under long (at 0 ACTIVE ∷ at 2 (ACTIVE + bank 1) ∷ at 5 WRITE ∷ at 12 (WRITE + bank 1) ∷ at 13 PRECHARGE ∷ [])
    (touches 5 (first 1 ++ sixteen_from 8388608))
    -- a write from before the ACTIVE is not interrupted by a PRECHARGE, nor waited for
    ∷ newer_under (set long 9 40) (at 0 ACTIVE ∷ at 3 WRITE ∷ at 12 (READ + A10) ∷ at 30 ACTIVE ∷ at 37 PRECHARGE ∷ [])
    (touches 5 (first 7 ++ sixteen_from 0))
    -- by tWR, where tWTR is another time; and as far as that allows
    ∷ newer_under (set long 10 4) (at 0 ACTIVE ∷ at 3 WRITE ∷ at 11 READ ∷ []) (touches 3 (first 3 ++ sixteen_from 0))
    ∷ newer_under (set long 10 4) (at 0 ACTIVE ∷ at 3 WRITE ∷ at 8 READ ∷ []) (breaks 2 11 2 8)
    ∷ newer_under (set long 10 4) (at 0 ACTIVE ∷ at 3 WRITE ∷ at 11 PRECHARGE ∷ []) (touches 3 (first 1))
    ∷ newer_under (set long 10 4) (at 0 ACTIVE ∷ at 3 WRITE ∷ at 10 PRECHARGE ∷ []) (breaks 2 10 2 10)
    -- a WRITE cuts as before
    ∷ newer_under long (at 0 ACTIVE ∷ at 3 WRITE ∷ at 4 (WRITE + 16) ∷ []) (touches 3 (first 1 ++ sixteen_from 16))
    -- what is left of a write is over for BURST TERMINATE and for sleep, and what runs is not
    ∷ newer_under long (at 0 ACTIVE ∷ at 3 WRITE ∷ at 9 TERMINATE ∷ []) (breaks 2 13 2 9)
    ∷ newer_under (set long 9 1) (at 0 ACTIVE ∷ at 2 (ACTIVE + bank 1) ∷ at 5 WRITE ∷ at 8 PRECHARGE ∷ at 9 TERMINATE ∷ []) (touches 5 (first 1))
    ∷ newer_under (set sleeping 3 0x34) (at 0 ACTIVE ∷ at 3 WRITE ∷ at 10 (NOP + LOW) ∷ []) (breaks 2 15 2 10)
    ∷ newer_under (set sleeping 3 0x34) (at 0 ACTIVE ∷ at 3 WRITE ∷ at 6 READ ∷ at 17 (NOP + LOW) ∷ []) (touches 4 (first 1 ++ sixteen_from 0))
    -- with auto precharge a write is never interrupted, and is waited for as a whole
    ∷ newer_under long (at 0 ACTIVE ∷ at 2 (ACTIVE + bank 1) ∷ at 5 (WRITE + A10) ∷ at 15 (READ + bank 1) ∷ []) (touches 4 (sixteen_from 0 ++ sixteen_from 8388608))
    ∷ newer_under long (at 0 ACTIVE ∷ at 2 (ACTIVE + bank 1) ∷ at 5 (WRITE + A10) ∷ at 14 (READ + bank 1) ∷ []) (breaks 3 11 3 14)
    ∷ newer_under long (at 0 ACTIVE ∷ at 3 (WRITE + A10) ∷ at 9 PRECHARGE ∷ []) (touches 3 (sixteen_from 0))
    ∷ []

each-clause : HoldLines clauses
unfolding clauses said_of
each-clause = refl
