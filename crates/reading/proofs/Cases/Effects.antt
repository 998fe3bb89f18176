-- What the commands do: which banks they open and close, what they cut, which cells a burst touches, which pins count.
use Prim.Native.Nat.{ℕ, ◌+◌}
use mathlib.Core.List.{List, [], ◌∷◌, ◌++◌, map}
use mathlib.Core.Path.{◌≡◌, refl}
use lib.ListN.{set}
use Rattle.reading.specs.Settings.{settings_of}
use Rattle.reading.specs.Capture.{Event}
use Rattle.reading.specs.Bursts.{reads}
use Rattle.reading.specs.Cells.{bursts_of, beats_by, beats_of}
use Rattle.reading.proofs.Cases.{ACTIVE, READ, WRITE, TERMINATE, PRECHARGE, REFRESH, MODE, NOP, DESELECT, A10, A11, bank, at, usual, four, touches, breaks, said_of, Line, line, line_under, HoldLines}

-- the first cell of bank 1: 8192 x 1024
abbrev one : ℕ
one = 8388608

auto_precharges : List Line
auto_precharges =
    -- the clean side of a write's: 3 + 1 + 2 + 3, and tRP
    line (at 0 ACTIVE ∷ at 3 (WRITE + A10) ∷ at 12 ACTIVE ∷ []) (touches 3 (four 0))
    -- a burst of eight: 3 + 1 + 4 + 3, and tRP
    ∷ line_under (set usual 3 0x33) (at 0 ACTIVE ∷ at 3 (WRITE + A10) ∷ at 13 ACTIVE ∷ []) (breaks 2 5 2 13)
    ∷ line_under (set usual 3 0x33) (at 0 ACTIVE ∷ at 3 (WRITE + A10) ∷ at 14 ACTIVE ∷ []) (touches 3 (four 0 ++ four 4))
    -- so it is where the length was set before: 5 + 1 + 4 + 3, and tRP
    ∷ line (at 0 (MODE + 0x33) ∷ at 2 ACTIVE ∷ at 5 (WRITE + A10) ∷ at 15 ACTIVE ∷ []) (breaks 3 5 3 15)
    ∷ line (at 0 (MODE + 0x33) ∷ at 2 ACTIVE ∷ at 5 (WRITE + A10) ∷ at 16 ACTIVE ∷ []) (touches 4 (four 0 ++ four 4))
    -- a read that ends after tRAS: 6 + 2, and tRP
    ∷ line (at 0 ACTIVE ∷ at 6 (READ + A10) ∷ at 10 ACTIVE ∷ []) (breaks 2 5 2 10)
    ∷ line (at 0 ACTIVE ∷ at 6 (READ + A10) ∷ at 11 ACTIVE ∷ []) (touches 3 (four 0))
    -- tRAS runs from the ACTIVE: 5 + 7, and tRP
    ∷ line (at 5 ACTIVE ∷ at 8 (READ + A10) ∷ at 14 ACTIVE ∷ []) (breaks 2 5 2 14)
    ∷ line (at 5 ACTIVE ∷ at 8 (READ + A10) ∷ at 15 ACTIVE ∷ []) (touches 3 (four 0))
    -- the bank is idle at once; without A10 it stays open
    ∷ line (at 0 ACTIVE ∷ at 3 (READ + A10) ∷ at 20 READ ∷ []) (breaks 2 3 2 20)
    ∷ line (at 0 ACTIVE ∷ at 3 (WRITE + A10) ∷ at 20 WRITE ∷ []) (breaks 2 3 2 20)
    ∷ line (at 0 ACTIVE ∷ at 3 READ ∷ at 20 READ ∷ []) (touches 3 (four 0 ++ four 0))
    -- and the others stay as they are
    ∷ line (at 0 ACTIVE ∷ at 2 (ACTIVE + bank 1) ∷ at 5 (WRITE + A10 + bank 1) ∷ at 20 READ ∷ []) (touches 4 (four one ++ four 0))
    ∷ []

auto-precharges : HoldLines auto_precharges
unfolding auto_precharges said_of
auto-precharges = refl

precharges : List Line
precharges =
    -- all: the other banks are closed too, 9 + 3 and 13 + 3
    line (at 0 ACTIVE ∷ at 2 (ACTIVE + bank 1) ∷ at 9 (PRECHARGE + A10) ∷ at 12 (ACTIVE + bank 1) ∷ []) (touches 4 [])
    ∷ line
    (at 0 ACTIVE ∷ at 2 (ACTIVE + bank 1) ∷ at 4 (ACTIVE + bank 2) ∷ at 6 (ACTIVE + bank 3) ∷ at 13 (PRECHARGE + A10) ∷ at 16 REFRESH ∷ [])
    (touches 6 [])
    ∷ line
    (at 0 ACTIVE ∷ at 2 (ACTIVE + bank 1) ∷ at 4 (ACTIVE + bank 2) ∷ at 6 (ACTIVE + bank 3) ∷ at 13 (PRECHARGE + A10) ∷ at 15 REFRESH ∷ [])
    (breaks 5 5 5 15)
    -- one: the others stay open
    ∷ line (at 0 ACTIVE ∷ at 2 (ACTIVE + bank 1) ∷ at 9 PRECHARGE ∷ at 10 (READ + bank 1) ∷ []) (touches 4 (four one))
    ∷ line (at 0 ACTIVE ∷ at 2 (ACTIVE + bank 1) ∷ at 9 PRECHARGE ∷ at 20 READ ∷ []) (breaks 3 3 3 20)
    ∷ line (at 0 ACTIVE ∷ at 2 (ACTIVE + bank 1) ∷ at 9 (PRECHARGE + bank 1) ∷ at 10 READ ∷ []) (touches 4 (four 0))
    -- all: a read of another bank is cut, and by one it is not
    ∷ line (at 0 ACTIVE ∷ at 2 (ACTIVE + bank 1) ∷ at 8 (READ + bank 1) ∷ at 9 (PRECHARGE + A10) ∷ []) (touches 4 (one ∷ (one + 1) ∷ []))
    ∷ line (at 0 ACTIVE ∷ at 2 (ACTIVE + bank 1) ∷ at 8 (READ + bank 1) ∷ at 9 PRECHARGE ∷ []) (touches 4 (four one))
    -- also where the bank of its pins is idle: each bank by itself
    ∷ line (at 0 (ACTIVE + bank 1) ∷ at 6 (READ + bank 1) ∷ at 7 (PRECHARGE + A10) ∷ []) (touches 3 (one ∷ (one + 1) ∷ []))
    -- at k + h the read has ended
    ∷ line (at 0 ACTIVE ∷ at 2 (ACTIVE + bank 1) ∷ at 8 (READ + bank 1) ∷ at 10 (PRECHARGE + A10) ∷ []) (touches 4 (four one))
    -- BURST TERMINATE cuts a read of whichever bank
    ∷ line (at 0 ACTIVE ∷ at 2 (ACTIVE + bank 1) ∷ at 5 (READ + bank 1) ∷ at 6 TERMINATE ∷ []) (touches 4 (one ∷ (one + 1) ∷ []))
    ∷ []

each-precharge : HoldLines precharges
unfolding precharges said_of
each-precharge = refl

-- the pairs that bursts keep, also behind a broken rule
abbrev pairs : List Event → List ℕ
pairs es = map (λ x. x.n) (bursts_of (settings_of usual) es)

-- a PRECHARGE cuts the read of an open bank, and not that of an idle one, which no clean capture has running
open-and-idle :
    map pairs
    ((at 0 ACTIVE ∷ at 3 READ ∷ at 4 PRECHARGE ∷ [])
    ∷ (at 0 ACTIVE ∷ at 3 READ ∷ at 4 (PRECHARGE + A10) ∷ [])
    ∷ (at 3 READ ∷ at 4 PRECHARGE ∷ [])
    ∷ (at 3 READ ∷ at 4 (PRECHARGE + A10) ∷ [])
    ∷ (at 0 (ACTIVE + bank 1) ∷ at 3 READ ∷ at 4 (PRECHARGE + A10) ∷ [])
    ∷ (at 0 ACTIVE ∷ at 3 (READ + bank 1) ∷ at 4 (PRECHARGE + A10) ∷ [])
    ∷ []) ≡
    (1 ∷ []) ∷ (1 ∷ []) ∷ (2 ∷ []) ∷ (2 ∷ []) ∷ (2 ∷ []) ∷ (2 ∷ []) ∷ []
unfolding bursts_of
open-and-idle = refl

-- a burst with auto precharge is never cut, and what would cut it breaks a rule or finds its bank idle
never-cut :
    map pairs
    ((at 0 ACTIVE ∷ at 3 (READ + A10) ∷ at 4 READ ∷ [])
    ∷ (at 0 ACTIVE ∷ at 3 (READ + A10) ∷ at 4 TERMINATE ∷ [])
    ∷ (at 0 ACTIVE ∷ at 3 (READ + A10) ∷ at 4 PRECHARGE ∷ [])
    ∷ (at 0 ACTIVE ∷ at 3 (WRITE + A10) ∷ at 4 WRITE ∷ [])
    ∷ []) ≡
    (2 ∷ 2 ∷ []) ∷ (2 ∷ []) ∷ (2 ∷ []) ∷ (2 ∷ 2 ∷ []) ∷ []
unfolding bursts_of
never-cut = refl

-- the beats that are read, that are written, and both
abbrev beats : List Event → List ℕ
beats es =
    let xs = bursts_of (settings_of usual) es in
    beats_by reads xs ∷ beats_by (λ x. x.writes) xs ∷ beats_of xs ∷ []

counted-beats :
    map beats
    ((at 0 ACTIVE ∷ at 3 (READ + 5) ∷ at 4 (READ + 8) ∷ at 20 WRITE ∷ [])
    ∷ (at 0 ACTIVE ∷ at 3 WRITE ∷ [])
    ∷ []
    ∷ []) ≡
    (6 ∷ 4 ∷ 10 ∷ []) ∷ (0 ∷ 4 ∷ 4 ∷ []) ∷ (0 ∷ 0 ∷ 0 ∷ []) ∷ []
unfolding bursts_of
counted-beats = refl

cells : List Line
cells =
    -- the column is cut to 8 and to 9 bits
    line_under (set usual 2 8) (at 0 ACTIVE ∷ at 3 (READ + 0x3ff) ∷ []) (touches 2 (255 ∷ 252 ∷ 253 ∷ 254 ∷ []))
    ∷ line_under (set usual 2 9) (at 0 ACTIVE ∷ at 3 (READ + 0x3ff) ∷ []) (touches 2 (511 ∷ 508 ∷ 509 ∷ 510 ∷ []))
    ∷ line_under (set usual 2 8) (at 0 ACTIVE ∷ at 3 (READ + A11 + 0x100) ∷ []) (touches 2 (four 0))
    -- (3 x 4096 + 5) x 256 + 4, and (2 x 16384 + 12289) x 2048 + 1024 + 8
    ∷ line_under (set (set usual 1 12) 2 8) (at 0 (ACTIVE + bank 3 + 5) ∷ at 3 (READ + bank 3 + 4) ∷ []) (touches 2 (four 3147012))
    ∷ line_under (set (set usual 1 14) 2 11) (at 0 (ACTIVE + bank 2 + 12289) ∷ at 3 (WRITE + bank 2 + A11 + 8) ∷ []) (touches 2 (four 92277768))
    -- bursts of 2 and of 16, in both orders
    ∷ line_under (set usual 3 0x31) (at 0 ACTIVE ∷ at 3 (READ + 5) ∷ []) (touches 2 (5 ∷ 4 ∷ []))
    ∷ line_under (set usual 3 0x39) (at 0 ACTIVE ∷ at 3 (READ + 5) ∷ []) (touches 2 (5 ∷ 4 ∷ []))
    ∷ line_under (set usual 3 0x34) (at 0 ACTIVE ∷ at 3 (READ + 19) ∷ [])
    (touches 2 (19 ∷ four 20 ++ four 24 ++ four 28 ++ (16 ∷ 17 ∷ 18 ∷ [])))
    ∷ line_under (set usual 3 0x3c) (at 0 ACTIVE ∷ at 3 (READ + 19) ∷ [])
    (touches 2 (19 ∷ 18 ∷ 17 ∷ 16 ∷ 23 ∷ 22 ∷ 21 ∷ 20 ∷ 27 ∷ 26 ∷ 25 ∷ 24 ∷ 31 ∷ 30 ∷ 29 ∷ 28 ∷ []))
    -- the mode word that was set, its order too
    ∷ line (at 0 (MODE + 0x2a) ∷ at 2 ACTIVE ∷ at 5 (READ + 5) ∷ []) (touches 3 (5 ∷ 4 ∷ 7 ∷ 6 ∷ []))
    ∷ []

each-cell : HoldLines cells
unfolding cells said_of
each-cell = refl

pins : List Line
pins =
    -- pins that a command does not name are ignored
    line (at 0 ACTIVE ∷ at 3 (READ + 0x3000) ∷ []) (touches 2 (four 0))
    ∷ line (at 0 ACTIVE ∷ at 2 (ACTIVE + bank 1) ∷ at 9 (PRECHARGE + 0x3bff) ∷ at 10 (READ + bank 1) ∷ []) (touches 4 (four one))
    ∷ line (at 0 (TERMINATE + 0xffff) ∷ at 1 (REFRESH + 0xffff) ∷ at 2 (NOP + 0xffff) ∷ at 13 ACTIVE ∷ []) (touches 4 [])
    -- with CS# high every code is DESELECT
    ∷ line
    (at 1 REFRESH ∷ at 2 (DESELECT + MODE) ∷ at 3 (DESELECT + WRITE) ∷ at 4 (DESELECT + PRECHARGE) ∷ at 5 (DESELECT + TERMINATE)
    ∷ at 6 (DESELECT + REFRESH) ∷ at 7 (DESELECT + READ) ∷ at 8 (DESELECT + ACTIVE) ∷ at 9 (DESELECT + NOP) ∷ at 13 ACTIVE ∷ [])
    (touches 10 [])
    ∷ []

each-pin : HoldLines pins
unfolding pins said_of
each-pin = refl
