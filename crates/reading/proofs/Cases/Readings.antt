-- What is easy to get wrong, and the readings of document 01 that change some capture's answer (docs/DECISIONS.md).
use Prim.Native.Nat.{ℕ, ◌+◌}
use mathlib.Core.List.{List, [], ◌∷◌}
use mathlib.Core.Path.{refl}
use lib.ListN.{set}
use Rattle.reading.proofs.Cases.{ACTIVE, READ, WRITE, TERMINATE, PRECHARGE, REFRESH, MODE, NOP, DESELECT, A10, A11, bank, at, usual, touches, breaks, said, Case, case, under, Hold}

-- every time 1, BL 2
abbrev quick : List ℕ
quick = 1 ∷ 13 ∷ 10 ∷ 0x21 ∷ 1 ∷ 1 ∷ 1 ∷ 1 ∷ 1 ∷ 1 ∷ 1 ∷ 1 ∷ 1 ∷ 1000 ∷ []

easy_to_get_wrong : List Case
easy_to_get_wrong =
    -- A10 is no column pin; A11 is one with 11 column bits, and only then
    under (set usual 2 11) (at 0 ACTIVE ∷ at 3 (READ + A10) ∷ []) (touches 2 (0 ∷ 1 ∷ 2 ∷ 3 ∷ []))
    ∷ under (set usual 2 11) (at 0 ACTIVE ∷ at 3 (READ + A11) ∷ []) (touches 2 (1024 ∷ 1025 ∷ 1026 ∷ 1027 ∷ []))
    ∷ case (at 0 ACTIVE ∷ at 3 (READ + A11) ∷ []) (touches 2 (0 ∷ 1 ∷ 2 ∷ 3 ∷ []))
    -- tWR runs from the data end: 3 + 1 + 2 + 20
    ∷ under (set usual 9 20) (at 0 ACTIVE ∷ at 3 WRITE ∷ at 26 PRECHARGE ∷ []) (touches 3 (0 ∷ 1 ∷ 2 ∷ 3 ∷ []))
    ∷ under (set usual 9 20) (at 0 ACTIVE ∷ at 3 WRITE ∷ at 25 PRECHARGE ∷ []) (breaks 2 10 2 25)
    -- a PRECHARGE of an idle bank does not restart tRP
    ∷ case (at 0 ACTIVE ∷ at 7 PRECHARGE ∷ at 9 PRECHARGE ∷ at 10 ACTIVE ∷ []) (touches 4 [])
    ∷ case (at 0 ACTIVE ∷ at 7 PRECHARGE ∷ at 9 (PRECHARGE + A10) ∷ at 10 ACTIVE ∷ []) (touches 4 [])
    -- auto precharge waits for tRAS, of a read and of a write
    ∷ under (set usual 6 9) (at 0 ACTIVE ∷ at 3 (READ + A10) ∷ at 12 ACTIVE ∷ []) (touches 3 (0 ∷ 1 ∷ 2 ∷ 3 ∷ []))
    ∷ under (set usual 6 9) (at 0 ACTIVE ∷ at 3 (READ + A10) ∷ at 11 ACTIVE ∷ []) (breaks 2 5 2 11)
    ∷ under (set usual 6 20) (at 0 ACTIVE ∷ at 3 (WRITE + A10) ∷ at 22 ACTIVE ∷ []) (breaks 2 5 2 22)
    ∷ case (at 0 ACTIVE ∷ at 3 (WRITE + A10) ∷ at 11 ACTIVE ∷ []) (breaks 2 5 2 11)
    -- a cut burst keeps the beats before the cut, and a second cut adds none
    ∷ case (at 0 ACTIVE ∷ at 3 WRITE ∷ at 4 (WRITE + 8) ∷ []) (touches 3 (0 ∷ 1 ∷ 8 ∷ 9 ∷ 10 ∷ 11 ∷ []))
    ∷ under (set usual 3 0x33) (at 0 ACTIVE ∷ at 3 READ ∷ at 4 TERMINATE ∷ at 6 TERMINATE ∷ at 7 WRITE ∷ [])
    (touches 5 (0 ∷ 1 ∷ 0 ∷ 1 ∷ 2 ∷ 3 ∷ 4 ∷ 5 ∷ 6 ∷ 7 ∷ []))
    -- a burst stays in its block
    ∷ under (set usual 3 0x33) (at 0 ACTIVE ∷ at 3 (READ + 14) ∷ []) (touches 2 (14 ∷ 15 ∷ 8 ∷ 9 ∷ 10 ∷ 11 ∷ 12 ∷ 13 ∷ []))
    ∷ under (set usual 3 0x3b) (at 0 ACTIVE ∷ at 3 (READ + 14) ∷ []) (touches 2 (14 ∷ 15 ∷ 12 ∷ 13 ∷ 10 ∷ 11 ∷ 8 ∷ 9 ∷ []))
    ∷ []

easy-to-get-wrong : Hold easy_to_get_wrong
unfolding easy_to_get_wrong said
easy-to-get-wrong = refl

readings : List Case
readings =
    -- a burst has the length, the order and the latency of the mode in which it was given
    under quick (at 0 ACTIVE ∷ at 1 (READ + A10 + 1) ∷ at 4 (MODE + 0x24) ∷ at 5 TERMINATE ∷ []) (touches 4 (1 ∷ 0 ∷ []))
    ∷ under quick (at 0 ACTIVE ∷ at 1 (READ + A10 + 1) ∷ at 4 (MODE + 0x2a) ∷ at 5 ACTIVE ∷ at 6 (READ + 5) ∷ [])
    (touches 5 (1 ∷ 0 ∷ 5 ∷ 4 ∷ 7 ∷ 6 ∷ []))
    -- READ cuts reads and WRITE cuts writes of every bank; only PRECHARGE looks at the bank
    ∷ case (at 0 ACTIVE ∷ at 2 (ACTIVE + bank 1) ∷ at 4 READ ∷ at 5 (READ + bank 1) ∷ [])
    (touches 4 (0 ∷ 1 ∷ 8388608 ∷ 8388609 ∷ 8388610 ∷ 8388611 ∷ []))
    ∷ case (at 0 ACTIVE ∷ at 2 (ACTIVE + bank 1) ∷ at 4 WRITE ∷ at 5 (WRITE + bank 1) ∷ [])
    (touches 4 (0 ∷ 1 ∷ 8388608 ∷ 8388609 ∷ 8388610 ∷ 8388611 ∷ []))
    ∷ under (set usual 3 0x33) (at 0 ACTIVE ∷ at 2 (ACTIVE + bank 1) ∷ at 7 READ ∷ at 9 (PRECHARGE + bank 1) ∷ [])
    (touches 4 (0 ∷ 1 ∷ 2 ∷ 3 ∷ 4 ∷ 5 ∷ 6 ∷ 7 ∷ []))
    ∷ under (set usual 3 0x33) (at 0 ACTIVE ∷ at 2 (ACTIVE + bank 1) ∷ at 7 READ ∷ at 9 PRECHARGE ∷ []) (touches 4 (0 ∷ 1 ∷ 2 ∷ 3 ∷ []))
    ∷ under (set usual 3 0x33) (at 0 ACTIVE ∷ at 2 (ACTIVE + bank 1) ∷ at 7 READ ∷ at 9 (PRECHARGE + A10) ∷ []) (touches 4 (0 ∷ 1 ∷ 2 ∷ 3 ∷ []))
    -- an extended MODE REGISTER SET starts tMRD and is asked rules 3, 5 and 12, whatever it holds
    ∷ case (at 0 (MODE + bank 2 + 0x3fff) ∷ at 2 ACTIVE ∷ []) (touches 2 [])
    ∷ case (at 0 (MODE + bank 2) ∷ at 1 ACTIVE ∷ []) (breaks 1 4 1 1)
    ∷ case (at 0 ACTIVE ∷ at 20 (MODE + bank 2) ∷ []) (breaks 1 3 1 20)
    ∷ case (at 0 ACTIVE ∷ at 7 PRECHARGE ∷ at 9 (MODE + bank 2) ∷ []) (breaks 2 5 2 9)
    ∷ under (set (set usual 5 1) 7 8) (at 0 ACTIVE ∷ at 8 (READ + A10) ∷ at 12 (MODE + bank 2) ∷ []) (breaks 2 12 2 12)
    ∷ under (set (set usual 5 1) 7 8) (at 0 ACTIVE ∷ at 8 (READ + A10) ∷ at 13 (MODE + bank 2) ∷ []) (touches 3 (0 ∷ 1 ∷ 2 ∷ 3 ∷ []))
    -- it leaves the mode word alone
    ∷ case (at 0 (MODE + bank 2 + 0x31) ∷ at 2 ACTIVE ∷ at 5 READ ∷ []) (touches 3 (0 ∷ 1 ∷ 2 ∷ 3 ∷ []))
    ∷ case (at 0 (MODE + 0x31) ∷ at 2 ACTIVE ∷ at 5 READ ∷ []) (touches 3 (0 ∷ 1 ∷ []))
    -- registers 01 and 11, and words that are no mode words, break rule 2
    ∷ case (at 0 (MODE + bank 1 + 0x32) ∷ []) (breaks 0 2 0 0)
    ∷ case (at 0 (MODE + bank 3 + 0x32) ∷ []) (breaks 0 2 0 0)
    ∷ case (at 0 (MODE + 0x30) ∷ []) (breaks 0 2 0 0)
    ∷ case (at 0 (MODE + 0x35) ∷ []) (breaks 0 2 0 0)
    ∷ case (at 0 (MODE + 0x12) ∷ []) (breaks 0 2 0 0)
    ∷ case (at 0 (MODE + 0xb2) ∷ []) (breaks 0 2 0 0)
    -- a READ with auto precharge after a WRITE looks at the read alone, and an ACTIVE forgets the write
    ∷ under (set usual 9 50) (at 0 ACTIVE ∷ at 3 WRITE ∷ at 7 (READ + A10) ∷ at 12 ACTIVE ∷ at 19 PRECHARGE ∷ [])
    (touches 5 (0 ∷ 1 ∷ 2 ∷ 3 ∷ 0 ∷ 1 ∷ 2 ∷ 3 ∷ []))
    -- BURST TERMINATE with no burst and PRECHARGE of idle banks do nothing, but keep rules 4 and 14
    ∷ case (at 0 TERMINATE ∷ at 1 PRECHARGE ∷ at 2 ACTIVE ∷ []) (touches 3 [])
    ∷ case (at 1 REFRESH ∷ at 12 TERMINATE ∷ []) (breaks 1 4 1 12)
    ∷ case (at 1 REFRESH ∷ at 12 PRECHARGE ∷ []) (breaks 1 4 1 12)
    ∷ case (at 1 REFRESH ∷ at 2 NOP ∷ at 3 DESELECT ∷ []) (touches 3 [])
    ∷ case (at 9000 TERMINATE ∷ []) (breaks 0 14 0 9000)
    ∷ case (at 9000 (PRECHARGE + A10) ∷ []) (breaks 0 14 0 9000)
    -- a PRECHARGE during a burst with auto precharge meets an idle bank
    ∷ case (at 0 ACTIVE ∷ at 3 (READ + A10) ∷ at 4 (PRECHARGE + A10) ∷ at 10 ACTIVE ∷ []) (touches 4 (0 ∷ 1 ∷ 2 ∷ 3 ∷ []))
    -- an AUTO REFRESH is held to rule 14 itself
    ∷ case (at 8999 REFRESH ∷ at 9999 NOP ∷ []) (touches 2 [])
    ∷ case (at 9000 REFRESH ∷ []) (breaks 0 14 0 9000)
    -- a burst goes to its own bank's row, whatever rows the others are open on: (1 x 8192 + 3) x 1024 + 5
    ∷ case (at 0 (ACTIVE + 7) ∷ at 2 (ACTIVE + bank 1 + 3) ∷ at 5 (READ + bank 1 + 5) ∷ []) (touches 3 (8391685 ∷ 8391686 ∷ 8391687 ∷ 8391684 ∷ []))
    -- a row or a pin beyond the part
    ∷ case (at 0 (ACTIVE + 0x1fff) ∷ []) (touches 1 [])
    ∷ case (at 0 (ACTIVE + 0x2000) ∷ []) (breaks 0 1 0 0)
    -- rule 13: auto precharge bursts hold off their like, and writes hold off BURST TERMINATE
    ∷ under (set usual 3 0x33) (at 0 ACTIVE ∷ at 2 (ACTIVE + bank 1) ∷ at 5 (READ + A10) ∷ at 8 (READ + bank 1) ∷ []) (breaks 3 13 3 8)
    ∷ under (set usual 3 0x33) (at 0 ACTIVE ∷ at 2 (ACTIVE + bank 1) ∷ at 5 (WRITE + A10) ∷ at 8 (WRITE + bank 1) ∷ []) (breaks 3 13 3 8)
    ∷ under (set usual 3 0x33) (at 0 ACTIVE ∷ at 3 (READ + A10) ∷ at 6 TERMINATE ∷ []) (breaks 2 13 2 6)
    ∷ under (set usual 3 0x33) (at 0 ACTIVE ∷ at 3 (READ + A10) ∷ at 7 TERMINATE ∷ []) (touches 3 (0 ∷ 1 ∷ 2 ∷ 3 ∷ 4 ∷ 5 ∷ 6 ∷ 7 ∷ []))
    ∷ case (at 0 ACTIVE ∷ at 3 WRITE ∷ at 5 TERMINATE ∷ []) (breaks 2 13 2 5)
    ∷ case (at 0 ACTIVE ∷ at 3 WRITE ∷ at 6 TERMINATE ∷ []) (touches 3 (0 ∷ 1 ∷ 2 ∷ 3 ∷ []))
    -- among the broken rules the lowest: rules 3, 4 and 14
    ∷ under (set usual 13 5) (at 1 REFRESH ∷ at 7 READ ∷ []) (breaks 1 3 1 7)
    ∷ []

each-reading : Hold readings
unfolding readings said
each-reading = refl
