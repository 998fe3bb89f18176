-- Every clause of rules 1 to 14, on both sides of its limit. The sums beside a case are document 01's, under the usual settings.
use Prim.Native.Nat.{ℕ, ◌+◌}
use mathlib.Core.List.{List, [], ◌∷◌, ◌++◌, map}
use mathlib.Core.Option.{some}
use mathlib.Core.Path.{◌≡◌, refl}
use lib.ListN.{length, set}
use Rattle.reading.specs.Settings.{Settings, settings_of}
use Rattle.reading.specs.Capture.{Event}
use Rattle.reading.specs.Part.{start}
use Rattle.reading.specs.Rules.{placing, rules, rules_with_six, broken_by}
use Rattle.reading.specs.Verdict.{Verdict, clean, broken, judge_by, verdict_by, judge_from, judged_of}
use Rattle.reading.proofs.Cases.{ACTIVE, READ, WRITE, TERMINATE, PRECHARGE, REFRESH, MODE, NOP, DESELECT, A10, LOW, bank, at, usual, sleeping, four, Said, touches, breaks, verdict_said, said_of, Line, line, line_under, HoldLines}

-- the first cells of banks 1 and 3: 8192 x 1024 a bank
abbrev one : ℕ
one = 8388608

abbrev three : ℕ
three = 25165824

-- no two times alike: tRCD 4, tRP 5, tRAS 11, tRC 16, tRRD 3, tWR 6, tWTR 2, tRFC 13, tMRD 7, tREFI 900
abbrev unlike : List ℕ
unlike = 1 ∷ 13 ∷ 10 ∷ 0x32 ∷ 4 ∷ 5 ∷ 11 ∷ 16 ∷ 3 ∷ 6 ∷ 2 ∷ 13 ∷ 7 ∷ 900 ∷ []

rule1 : List Line
rule1 =
    -- 12 and 14 row bits; 13 stand in Readings
    line_under (set usual 1 12) (at 0 (ACTIVE + 0xfff) ∷ []) (touches 1 [])
    ∷ line_under (set usual 1 12) (at 0 (ACTIVE + 0x1000) ∷ []) (breaks 0 1 0 0)
    ∷ line_under (set usual 1 14) (at 0 (ACTIVE + 0x3fff) ∷ []) (touches 1 [])
    -- it comes before rule 3
    ∷ line (at 0 ACTIVE ∷ at 1 (ACTIVE + 0x2000) ∷ []) (breaks 1 1 1 1)
    ∷ []

rule-1 : HoldLines rule1
unfolding rule1 said_of
rule-1 = refl

rule2 : List Line
rule2 =
    -- A7-A13 are zero, the latency is 2 or 3 and no other with the same low bits, the length has one of four codes
    line (at 0 (MODE + 0x2032) ∷ []) (breaks 0 2 0 0)
    ∷ line (at 0 (MODE + 0x62) ∷ []) (breaks 0 2 0 0)
    ∷ line (at 0 (MODE + 0x42) ∷ []) (breaks 0 2 0 0)
    ∷ line (at 0 (MODE + 0x37) ∷ []) (breaks 0 2 0 0)
    ∷ line (at 0 (MODE + 0x21) ∷ []) (touches 1 [])
    ∷ line (at 0 (MODE + 0x3c) ∷ []) (touches 1 [])
    -- it comes before rule 3
    ∷ line (at 0 ACTIVE ∷ at 20 (MODE + 0x30) ∷ []) (breaks 1 2 1 20)
    ∷ []

rule-2 : HoldLines rule2
unfolding rule2 said_of
rule-2 = refl

rule3 : List Line
rule3 =
    -- ACTIVE wants its own bank idle
    line (at 0 ACTIVE ∷ at 20 ACTIVE ∷ []) (breaks 1 3 1 20)
    ∷ line (at 0 (ACTIVE + bank 2) ∷ at 20 (ACTIVE + bank 2) ∷ []) (breaks 1 3 1 20)
    ∷ line (at 0 (ACTIVE + bank 2) ∷ at 20 (ACTIVE + bank 3) ∷ []) (touches 2 [])
    -- READ and WRITE want theirs open
    ∷ line (at 20 READ ∷ []) (breaks 0 3 0 20)
    ∷ line (at 20 WRITE ∷ []) (breaks 0 3 0 20)
    ∷ line (at 0 (ACTIVE + bank 2) ∷ at 20 (READ + bank 3) ∷ []) (breaks 1 3 1 20)
    ∷ line (at 0 (ACTIVE + bank 2) ∷ at 20 WRITE ∷ []) (breaks 1 3 1 20)
    ∷ line (at 0 (ACTIVE + bank 3) ∷ at 3 (READ + bank 3) ∷ []) (touches 2 (four three))
    ∷ line (at 0 (ACTIVE + bank 1) ∷ at 3 (WRITE + bank 1) ∷ []) (touches 2 (four one))
    -- AUTO REFRESH and MODE REGISTER SET want every bank idle
    ∷ line (at 0 ACTIVE ∷ at 20 REFRESH ∷ []) (breaks 1 3 1 20)
    ∷ line (at 0 (ACTIVE + bank 1) ∷ at 20 REFRESH ∷ []) (breaks 1 3 1 20)
    ∷ line (at 0 (ACTIVE + bank 2) ∷ at 20 REFRESH ∷ []) (breaks 1 3 1 20)
    ∷ line (at 0 (ACTIVE + bank 3) ∷ at 20 REFRESH ∷ []) (breaks 1 3 1 20)
    ∷ line (at 0 (ACTIVE + bank 1) ∷ at 20 (MODE + 0x32) ∷ []) (breaks 1 3 1 20)
    ∷ line (at 0 (ACTIVE + bank 3) ∷ at 20 (MODE + 0x32) ∷ []) (breaks 1 3 1 20)
    -- it comes before rule 4, and before rule 8: tRAS 1, tRC 4
    ∷ line (at 1 REFRESH ∷ at 12 READ ∷ []) (breaks 1 3 1 12)
    ∷ line_under (set (set usual 6 1) 7 4) (at 0 ACTIVE ∷ at 1 PRECHARGE ∷ at 2 READ ∷ []) (breaks 2 3 2 2)
    ∷ []

rule-3 : HoldLines rule3
unfolding rule3 said_of
rule-3 = refl

rule4 : List Line
rule4 =
    -- AUTO REFRESH and MODE REGISTER SET wait for tRFC: 1 + 12
    line (at 1 REFRESH ∷ at 12 REFRESH ∷ []) (breaks 1 4 1 12)
    ∷ line (at 1 REFRESH ∷ at 13 REFRESH ∷ []) (touches 2 [])
    ∷ line (at 1 REFRESH ∷ at 12 (MODE + bank 2) ∷ []) (breaks 1 4 1 12)
    ∷ line (at 1 REFRESH ∷ at 13 (MODE + bank 2) ∷ []) (touches 2 [])
    ∷ line (at 1 REFRESH ∷ at 12 (MODE + 0x32) ∷ []) (breaks 1 4 1 12)
    -- every command waits for tMRD after an ordinary set: 0 + 2
    ∷ line (at 0 (MODE + 0x32) ∷ at 1 ACTIVE ∷ []) (breaks 1 4 1 1)
    ∷ line (at 0 (MODE + 0x32) ∷ at 1 (MODE + 0x32) ∷ []) (breaks 1 4 1 1)
    ∷ line (at 0 (MODE + 0x32) ∷ at 1 REFRESH ∷ []) (breaks 1 4 1 1)
    ∷ line (at 0 (MODE + 0x32) ∷ at 2 REFRESH ∷ []) (touches 2 [])
    ∷ line (at 0 (MODE + 0x32) ∷ at 1 PRECHARGE ∷ []) (breaks 1 4 1 1)
    ∷ line (at 0 (MODE + 0x32) ∷ at 1 TERMINATE ∷ []) (breaks 1 4 1 1)
    ∷ line (at 0 (MODE + 0x32) ∷ at 1 NOP ∷ []) (touches 2 [])
    ∷ line (at 0 (MODE + 0x32) ∷ at 1 DESELECT ∷ []) (touches 2 [])
    -- the last of each counts: 12 + 12, 2 + 2
    ∷ line (at 0 REFRESH ∷ at 12 REFRESH ∷ at 23 ACTIVE ∷ []) (breaks 2 4 2 23)
    ∷ line (at 0 REFRESH ∷ at 12 REFRESH ∷ at 24 ACTIVE ∷ []) (touches 3 [])
    ∷ line (at 0 (MODE + 0x32) ∷ at 2 (MODE + 0x32) ∷ at 3 ACTIVE ∷ []) (breaks 2 4 2 3)
    -- and both are asked
    ∷ line (at 0 (MODE + 0x32) ∷ at 2 REFRESH ∷ at 13 ACTIVE ∷ []) (breaks 2 4 2 13)
    ∷ line (at 0 REFRESH ∷ at 12 (MODE + 0x32) ∷ at 13 ACTIVE ∷ []) (breaks 2 4 2 13)
    ∷ []

rule-4 : HoldLines rule4
unfolding rule4 said_of
rule-4 = refl

rule5 : List Line
rule5 =
    -- ACTIVE asks its own bank, and its last precharge: 17 + 3
    line (at 0 ACTIVE ∷ at 7 PRECHARGE ∷ at 8 (ACTIVE + bank 1) ∷ []) (touches 3 [])
    ∷ line (at 0 ACTIVE ∷ at 7 PRECHARGE ∷ at 10 ACTIVE ∷ at 17 PRECHARGE ∷ at 19 ACTIVE ∷ []) (breaks 4 5 4 19)
    ∷ line (at 0 ACTIVE ∷ at 7 PRECHARGE ∷ at 10 ACTIVE ∷ at 17 PRECHARGE ∷ at 20 ACTIVE ∷ []) (touches 5 [])
    -- AUTO REFRESH and MODE REGISTER SET ask every bank: 7 + 3
    ∷ line (at 0 ACTIVE ∷ at 7 PRECHARGE ∷ at 9 REFRESH ∷ []) (breaks 2 5 2 9)
    ∷ line (at 0 (ACTIVE + bank 1) ∷ at 7 (PRECHARGE + bank 1) ∷ at 9 REFRESH ∷ []) (breaks 2 5 2 9)
    ∷ line (at 0 (ACTIVE + bank 2) ∷ at 7 (PRECHARGE + bank 2) ∷ at 9 REFRESH ∷ []) (breaks 2 5 2 9)
    ∷ line (at 0 (ACTIVE + bank 3) ∷ at 7 (PRECHARGE + bank 3) ∷ at 9 REFRESH ∷ []) (breaks 2 5 2 9)
    ∷ line (at 0 (ACTIVE + bank 3) ∷ at 7 (PRECHARGE + bank 3) ∷ at 10 REFRESH ∷ []) (touches 3 [])
    ∷ line (at 0 (ACTIVE + bank 3) ∷ at 7 (PRECHARGE + bank 3) ∷ at 9 (MODE + 0x32) ∷ []) (breaks 2 5 2 9)
    ∷ line (at 0 (ACTIVE + bank 3) ∷ at 7 (PRECHARGE + bank 3) ∷ at 10 (MODE + 0x32) ∷ []) (touches 3 [])
    -- so does an auto precharge cycle, here 0 + 7
    ∷ line (at 0 ACTIVE ∷ at 3 (READ + A10) ∷ at 9 REFRESH ∷ []) (breaks 2 5 2 9)
    ∷ line (at 0 ACTIVE ∷ at 3 (READ + A10) ∷ at 10 REFRESH ∷ []) (touches 3 (four 0))
    ∷ []

rule-5 : HoldLines rule5
unfolding rule5 said_of
rule-5 = refl

-- Rule 6 is in no list that captures are judged by; here it is asked among the others. No capture with these settings is
-- accepted, since tRC is above tRAS + tRP; with others rule 5 or 3 is broken wherever rule 6 is.
said_with_six : Settings → List Event → Said
unfolding verdict_said verdict_by judge_by
said_with_six s es = let v = verdict_by rules_with_six s es in verdict_said (judged_of (length es) v) [] v

rule6 : List Line
rule6 =
    -- tRC 20: of its own bank
    line_under (set usual 7 20) (at 0 ACTIVE ∷ at 7 PRECHARGE ∷ at 10 (ACTIVE + bank 1) ∷ []) (touches 3 [])
    ∷ line_under (set usual 7 20) (at 0 ACTIVE ∷ at 7 PRECHARGE ∷ at 19 ACTIVE ∷ []) (breaks 2 6 2 19)
    ∷ line_under (set usual 7 20) (at 0 ACTIVE ∷ at 7 PRECHARGE ∷ at 20 ACTIVE ∷ []) (touches 3 [])
    -- tRC 11: its last, 20 + 11
    ∷ line_under (set usual 7 11) (at 0 ACTIVE ∷ at 7 PRECHARGE ∷ at 20 ACTIVE ∷ at 27 PRECHARGE ∷ at 30 ACTIVE ∷ []) (breaks 4 6 4 30)
    -- it comes before rule 7: 9 + 2
    ∷ line_under (set usual 7 11) (at 0 ACTIVE ∷ at 7 PRECHARGE ∷ at 9 (ACTIVE + bank 1) ∷ at 10 ACTIVE ∷ []) (breaks 3 6 3 10)
    ∷ line_under (set usual 7 11) (at 0 ACTIVE ∷ at 7 PRECHARGE ∷ at 9 (ACTIVE + bank 1) ∷ at 11 ACTIVE ∷ []) (touches 4 [])
    -- and behind rule 4: tRC 50
    ∷ line_under (set usual 7 50) (at 0 ACTIVE ∷ at 7 PRECHARGE ∷ at 10 REFRESH ∷ at 21 ACTIVE ∷ []) (breaks 3 4 3 21)
    ∷ line_under (set usual 7 50) (at 0 ACTIVE ∷ at 7 PRECHARGE ∷ at 10 REFRESH ∷ at 22 ACTIVE ∷ []) (breaks 3 6 3 22)
    -- tRP 5, tRAS 11, tRC 17: not the sum of the two
    ∷ line_under (set unlike 7 17) (at 0 ACTIVE ∷ at 11 PRECHARGE ∷ at 16 ACTIVE ∷ []) (breaks 2 6 2 16)
    ∷ line_under (set unlike 7 17) (at 0 ACTIVE ∷ at 11 PRECHARGE ∷ at 17 ACTIVE ∷ []) (touches 3 [])
    -- rules 14 and 15 are asked behind it
    ∷ line (at 9000 NOP ∷ []) (breaks 0 14 0 9000)
    ∷ line_under sleeping (at 0 (NOP + LOW) ∷ at 5 ACTIVE ∷ []) (breaks 1 15 1 5)
    ∷ []

rule-6 : map (λ x. said_with_six (settings_of x.settings) x.events) rule6 ≡ map (λ x. x.says) rule6
unfolding rule6 said_with_six
rule-6 = refl

-- and here it is not
unasked6 : List Line
unasked6 =
    line_under (set usual 7 20) (at 0 ACTIVE ∷ at 7 PRECHARGE ∷ at 10 ACTIVE ∷ []) (touches 3 [])
    ∷ line_under (set usual 7 20) (at 0 ACTIVE ∷ at 7 PRECHARGE ∷ at 9 ACTIVE ∷ []) (breaks 2 5 2 9)
    ∷ []

unasked-6 : HoldLines unasked6
unfolding unasked6 said_of
unasked-6 = refl

rule7 : List Line
rule7 =
    -- tRRD 20: the own bank is not asked, the others are though they may be idle again
    line_under (set usual 8 20) (at 0 ACTIVE ∷ at 7 PRECHARGE ∷ at 10 ACTIVE ∷ []) (touches 3 [])
    ∷ line_under (set usual 8 20) (at 0 ACTIVE ∷ at 7 PRECHARGE ∷ at 19 (ACTIVE + bank 1) ∷ []) (breaks 2 7 2 19)
    ∷ line_under (set usual 8 20) (at 0 ACTIVE ∷ at 7 PRECHARGE ∷ at 20 (ACTIVE + bank 1) ∷ []) (touches 3 [])
    -- any other bank, and the last of them
    ∷ line (at 0 (ACTIVE + bank 1) ∷ at 1 (ACTIVE + bank 2) ∷ []) (breaks 1 7 1 1)
    ∷ line (at 0 (ACTIVE + bank 2) ∷ at 1 (ACTIVE + bank 3) ∷ []) (breaks 1 7 1 1)
    ∷ line (at 0 (ACTIVE + bank 3) ∷ at 1 ACTIVE ∷ []) (breaks 1 7 1 1)
    ∷ line (at 0 (ACTIVE + bank 3) ∷ at 2 ACTIVE ∷ []) (touches 2 [])
    ∷ line (at 0 ACTIVE ∷ at 2 (ACTIVE + bank 1) ∷ at 3 (ACTIVE + bank 2) ∷ []) (breaks 2 7 2 3)
    ∷ line (at 0 ACTIVE ∷ at 2 (ACTIVE + bank 1) ∷ at 4 (ACTIVE + bank 2) ∷ []) (touches 3 [])
    ∷ []

rule-7 : HoldLines rule7
unfolding rule7 said_of
rule-7 = refl

rule8 : List Line
rule8 =
    -- WRITE as READ: 0 + 3
    line (at 0 ACTIVE ∷ at 2 WRITE ∷ []) (breaks 1 8 1 2)
    ∷ line (at 0 ACTIVE ∷ at 3 WRITE ∷ []) (touches 2 (four 0))
    -- the own bank's ACTIVE, 2 + 3 or 0 + 3, and its last, 10 + 3
    ∷ line (at 0 ACTIVE ∷ at 2 (ACTIVE + bank 1) ∷ at 4 (READ + bank 1) ∷ []) (breaks 2 8 2 4)
    ∷ line (at 0 ACTIVE ∷ at 2 (ACTIVE + bank 1) ∷ at 5 (READ + bank 1) ∷ []) (touches 3 (four one))
    ∷ line (at 0 ACTIVE ∷ at 2 (ACTIVE + bank 1) ∷ at 3 READ ∷ []) (touches 3 (four 0))
    ∷ line (at 0 ACTIVE ∷ at 7 PRECHARGE ∷ at 10 ACTIVE ∷ at 12 READ ∷ []) (breaks 3 8 3 12)
    ∷ line (at 0 ACTIVE ∷ at 7 PRECHARGE ∷ at 10 ACTIVE ∷ at 13 READ ∷ []) (touches 4 (four 0))
    -- it comes before rules 11 and 12
    ∷ line (at 0 ACTIVE ∷ at 3 WRITE ∷ at 5 (ACTIVE + bank 1) ∷ at 6 (READ + bank 1) ∷ []) (breaks 3 8 3 6)
    ∷ line (at 0 ACTIVE ∷ at 3 READ ∷ at 5 (ACTIVE + bank 1) ∷ at 7 (WRITE + bank 1) ∷ []) (breaks 3 8 3 7)
    ∷ []

rule-8 : HoldLines rule8
unfolding rule8 said_of
rule-8 = refl

rule9 : List Line
rule9 =
    -- with A10 every open bank is asked: 2 + 7
    line (at 0 ACTIVE ∷ at 2 (ACTIVE + bank 1) ∷ at 8 (PRECHARGE + A10) ∷ []) (breaks 2 9 2 8)
    ∷ line (at 0 ACTIVE ∷ at 2 (ACTIVE + bank 2) ∷ at 8 (PRECHARGE + A10) ∷ []) (breaks 2 9 2 8)
    ∷ line (at 0 ACTIVE ∷ at 2 (ACTIVE + bank 3) ∷ at 8 (PRECHARGE + A10) ∷ []) (breaks 2 9 2 8)
    ∷ line (at 0 ACTIVE ∷ at 2 (ACTIVE + bank 3) ∷ at 9 (PRECHARGE + A10) ∷ []) (touches 3 [])
    ∷ line (at 0 (ACTIVE + bank 3) ∷ at 2 ACTIVE ∷ at 8 (PRECHARGE + A10 + bank 3) ∷ []) (breaks 2 9 2 8)
    -- without it the named one only: 0 + 7
    ∷ line (at 0 ACTIVE ∷ at 2 (ACTIVE + bank 3) ∷ at 7 PRECHARGE ∷ []) (touches 3 [])
    ∷ line (at 0 ACTIVE ∷ at 2 (ACTIVE + bank 3) ∷ at 8 (PRECHARGE + bank 3) ∷ []) (breaks 2 9 2 8)
    -- its last ACTIVE: 10 + 7
    ∷ line (at 0 ACTIVE ∷ at 7 PRECHARGE ∷ at 10 ACTIVE ∷ at 16 PRECHARGE ∷ []) (breaks 3 9 3 16)
    ∷ line (at 0 ACTIVE ∷ at 7 PRECHARGE ∷ at 10 ACTIVE ∷ at 17 PRECHARGE ∷ []) (touches 4 [])
    ∷ []

rule-9 : HoldLines rule9
unfolding rule9 said_of
rule-9 = refl

rule10 : List Line
rule10 =
    -- the bank's last write: 20 + 1 + 2 + 3
    line (at 0 ACTIVE ∷ at 3 WRITE ∷ at 20 WRITE ∷ at 25 PRECHARGE ∷ []) (breaks 3 10 3 25)
    ∷ line (at 0 ACTIVE ∷ at 3 WRITE ∷ at 20 WRITE ∷ at 26 PRECHARGE ∷ []) (touches 4 (four 0 ++ four 0))
    -- with A10 every open bank is asked: 5 + 1 + 2 + 3
    ∷ line (at 0 ACTIVE ∷ at 2 (ACTIVE + bank 1) ∷ at 5 (WRITE + bank 1) ∷ at 10 (PRECHARGE + A10) ∷ []) (breaks 3 10 3 10)
    ∷ line (at 0 ACTIVE ∷ at 2 (ACTIVE + bank 1) ∷ at 5 (WRITE + bank 1) ∷ at 11 (PRECHARGE + A10) ∷ []) (touches 4 (four one))
    ∷ line (at 0 ACTIVE ∷ at 2 (ACTIVE + bank 2) ∷ at 5 (WRITE + bank 2) ∷ at 10 (PRECHARGE + A10) ∷ []) (breaks 3 10 3 10)
    ∷ line (at 0 ACTIVE ∷ at 2 (ACTIVE + bank 3) ∷ at 5 (WRITE + bank 3) ∷ at 10 (PRECHARGE + A10) ∷ []) (breaks 3 10 3 10)
    -- without it the named one only, by the writes to it
    ∷ line (at 0 ACTIVE ∷ at 2 (ACTIVE + bank 1) ∷ at 5 (WRITE + bank 1) ∷ at 10 PRECHARGE ∷ []) (touches 4 (four one))
    ∷ line (at 0 ACTIVE ∷ at 2 (ACTIVE + bank 1) ∷ at 5 (WRITE + bank 1) ∷ at 10 (PRECHARGE + bank 1) ∷ []) (breaks 3 10 3 10)
    ∷ line (at 0 ACTIVE ∷ at 2 (ACTIVE + bank 1) ∷ at 5 WRITE ∷ at 20 (WRITE + bank 1) ∷ at 21 PRECHARGE ∷ []) (touches 5 (four 0 ++ four one))
    ∷ line (at 0 ACTIVE ∷ at 2 (ACTIVE + bank 1) ∷ at 5 WRITE ∷ at 20 (WRITE + bank 1) ∷ at 21 (PRECHARGE + A10) ∷ []) (breaks 4 10 4 21)
    -- the data of a cut write ends with the pairs that it keeps: 5 + 1 + 1 + 3
    ∷ line (at 0 ACTIVE ∷ at 2 (ACTIVE + bank 1) ∷ at 5 WRITE ∷ at 6 (WRITE + bank 1) ∷ at 9 PRECHARGE ∷ []) (breaks 4 10 4 9)
    ∷ line (at 0 ACTIVE ∷ at 2 (ACTIVE + bank 1) ∷ at 5 WRITE ∷ at 6 (WRITE + bank 1) ∷ at 10 PRECHARGE ∷ []) (touches 5 (0 ∷ 1 ∷ four one))
    ∷ []

rule-10 : HoldLines rule10
unfolding rule10 said_of
rule-10 = refl

rule11 : List Line
rule11 =
    -- a write to any bank, with auto precharge or not: 5 + 1 + 2 + 1
    line (at 0 ACTIVE ∷ at 2 (ACTIVE + bank 1) ∷ at 5 WRITE ∷ at 8 (READ + bank 1) ∷ []) (breaks 3 11 3 8)
    ∷ line (at 0 ACTIVE ∷ at 2 (ACTIVE + bank 1) ∷ at 5 WRITE ∷ at 9 (READ + bank 1) ∷ []) (touches 4 (four 0 ++ four one))
    ∷ line (at 0 ACTIVE ∷ at 2 (ACTIVE + bank 1) ∷ at 5 (WRITE + A10) ∷ at 8 (READ + bank 1) ∷ []) (breaks 3 11 3 8)
    -- the last: 20 + 1 + 2 + 1
    ∷ line (at 0 ACTIVE ∷ at 3 WRITE ∷ at 20 WRITE ∷ at 23 READ ∷ []) (breaks 3 11 3 23)
    ∷ line (at 0 ACTIVE ∷ at 3 WRITE ∷ at 20 WRITE ∷ at 24 READ ∷ []) (touches 4 (four 0 ++ four 0 ++ four 0))
    ∷ line (at 0 ACTIVE ∷ at 2 (ACTIVE + bank 1) ∷ at 5 WRITE ∷ at 20 (WRITE + bank 1) ∷ at 23 READ ∷ []) (breaks 4 11 4 23)
    ∷ []

rule-11 : HoldLines rule11
unfolding rule11 said_of
rule-11 = refl

rule12 : List Line
rule12 =
    -- AUTO REFRESH, with tRP 1 and tRC 8: 8 + 3 + 2
    line_under (set (set usual 5 1) 7 8) (at 0 ACTIVE ∷ at 8 (READ + A10) ∷ at 12 REFRESH ∷ []) (breaks 2 12 2 12)
    ∷ line_under (set (set usual 5 1) 7 8) (at 0 ACTIVE ∷ at 8 (READ + A10) ∷ at 13 REFRESH ∷ []) (touches 3 (four 0))
    -- the last read, 20 + 3 + 2, of any bank, 5 + 3 + 2, with auto precharge or not
    ∷ line (at 0 ACTIVE ∷ at 3 READ ∷ at 20 READ ∷ at 24 WRITE ∷ []) (breaks 3 12 3 24)
    ∷ line (at 0 ACTIVE ∷ at 3 READ ∷ at 20 READ ∷ at 25 WRITE ∷ []) (touches 4 (four 0 ++ four 0 ++ four 0))
    ∷ line (at 0 ACTIVE ∷ at 2 (ACTIVE + bank 1) ∷ at 5 READ ∷ at 9 (WRITE + bank 1) ∷ []) (breaks 3 12 3 9)
    ∷ line (at 0 ACTIVE ∷ at 2 (ACTIVE + bank 1) ∷ at 5 (READ + A10) ∷ at 9 (WRITE + bank 1) ∷ []) (breaks 3 12 3 9)
    ∷ line (at 0 ACTIVE ∷ at 2 (ACTIVE + bank 1) ∷ at 5 (READ + A10) ∷ at 10 (WRITE + bank 1) ∷ []) (touches 4 (four 0 ++ four one))
    -- latency 2: 3 + 2 + 2
    ∷ line_under (set usual 3 0x22) (at 0 ACTIVE ∷ at 3 READ ∷ at 6 WRITE ∷ []) (breaks 2 12 2 6)
    ∷ line_under (set usual 3 0x22) (at 0 ACTIVE ∷ at 3 READ ∷ at 7 WRITE ∷ []) (touches 3 (four 0 ++ four 0))
    -- ACTIVE is not held
    ∷ line (at 0 ACTIVE ∷ at 3 READ ∷ at 4 (ACTIVE + bank 1) ∷ []) (touches 3 (four 0))
    ∷ []

rule-12 : HoldLines rule12
unfolding rule12 said_of
rule-12 = refl

rule13 : List Line
rule13 =
    -- READ and WRITE exactly at k + h, 5 + 2, and a cycle before
    line (at 0 ACTIVE ∷ at 2 (ACTIVE + bank 1) ∷ at 5 (READ + A10) ∷ at 6 (READ + bank 1) ∷ []) (breaks 3 13 3 6)
    ∷ line (at 0 ACTIVE ∷ at 2 (ACTIVE + bank 1) ∷ at 5 (READ + A10) ∷ at 7 (READ + bank 1) ∷ []) (touches 4 (four 0 ++ four one))
    ∷ line (at 0 ACTIVE ∷ at 2 (ACTIVE + bank 1) ∷ at 5 (WRITE + A10) ∷ at 6 (WRITE + bank 1) ∷ []) (breaks 3 13 3 6)
    ∷ line (at 0 ACTIVE ∷ at 2 (ACTIVE + bank 1) ∷ at 5 (WRITE + A10) ∷ at 7 (WRITE + bank 1) ∷ []) (touches 4 (four 0 ++ four one))
    -- BURST TERMINATE in a write with auto precharge, 3 + 1 + 2, and in such a read, 3 + 2
    ∷ line (at 0 ACTIVE ∷ at 3 (WRITE + A10) ∷ at 5 TERMINATE ∷ []) (breaks 2 13 2 5)
    ∷ line (at 0 ACTIVE ∷ at 3 (WRITE + A10) ∷ at 6 TERMINATE ∷ []) (touches 3 (four 0))
    ∷ line (at 0 ACTIVE ∷ at 3 (READ + A10) ∷ at 4 TERMINATE ∷ []) (breaks 2 13 2 4)
    ∷ line (at 0 ACTIVE ∷ at 3 (READ + A10) ∷ at 5 TERMINATE ∷ []) (touches 3 (four 0))
    ∷ []

rule-13 : HoldLines rule13
unfolding rule13 said_of
rule-13 = refl

-- tREFI 100
abbrev quick : List ℕ
quick = set usual 13 100

rule14 : List Line
rule14 =
    -- nine are owed at 9 x 1000
    line (at 8999 NOP ∷ []) (touches 1 [])
    ∷ line (at 9000 NOP ∷ []) (breaks 0 14 0 9000)
    -- tREFI 100: asked before it is paid; at 899 the ninth is still to come
    ∷ line_under quick (at 899 NOP ∷ []) (touches 1 [])
    ∷ line_under quick (at 900 NOP ∷ []) (breaks 0 14 0 900)
    ∷ line_under quick (at 899 REFRESH ∷ []) (touches 1 [])
    ∷ line_under quick (at 900 REFRESH ∷ []) (breaks 0 14 0 900)
    -- no credit: nothing is owed at 50, nor at 0
    ∷ line_under quick (at 50 REFRESH ∷ at 899 NOP ∷ []) (touches 2 [])
    ∷ line_under quick (at 50 REFRESH ∷ at 900 NOP ∷ []) (breaks 1 14 1 900)
    ∷ line_under quick (at 0 REFRESH ∷ at 900 NOP ∷ []) (breaks 1 14 1 900)
    -- at 100 it rises before it is paid; eight are owed at 899, and one is paid
    ∷ line_under quick (at 99 REFRESH ∷ at 900 NOP ∷ []) (breaks 1 14 1 900)
    ∷ line_under quick (at 100 REFRESH ∷ at 999 NOP ∷ []) (touches 2 [])
    ∷ line_under quick (at 100 REFRESH ∷ at 1000 NOP ∷ []) (breaks 1 14 1 1000)
    ∷ line_under quick (at 899 REFRESH ∷ at 999 NOP ∷ []) (touches 2 [])
    ∷ line_under quick (at 899 REFRESH ∷ at 1000 NOP ∷ []) (breaks 1 14 1 1000)
    -- two are owed at 250: two are paid, and the third AUTO REFRESH pays none
    ∷ line_under quick (at 250 REFRESH ∷ at 270 REFRESH ∷ at 290 REFRESH ∷ at 1099 NOP ∷ []) (touches 4 [])
    ∷ line_under quick (at 250 REFRESH ∷ at 270 REFRESH ∷ at 290 REFRESH ∷ at 1100 NOP ∷ []) (breaks 3 14 3 1100)
    -- a board that refreshes one time in eight: of eight one is paid at 800, and nine are owed at 1000
    ∷ line_under quick (at 800 REFRESH ∷ at 1000 NOP ∷ []) (breaks 1 14 1 1000)
    -- every event
    ∷ line (at 9000 DESELECT ∷ []) (breaks 0 14 0 9000)
    ∷ line (at 9000 ACTIVE ∷ []) (breaks 0 14 0 9000)
    ∷ line (at 9000 (MODE + 0x32) ∷ []) (breaks 0 14 0 9000)
    ∷ line (at 0 ACTIVE ∷ at 9000 READ ∷ []) (breaks 1 14 1 9000)
    ∷ line (at 0 ACTIVE ∷ at 9000 WRITE ∷ []) (breaks 1 14 1 9000)
    -- a lower rule is told first
    ∷ line (at 9000 READ ∷ []) (breaks 0 3 0 9000)
    -- no other command pays what is owed at 1500
    ∷ line (at 1500 NOP ∷ at 9000 NOP ∷ []) (breaks 1 14 1 9000)
    ∷ line (at 1500 DESELECT ∷ at 9000 NOP ∷ []) (breaks 1 14 1 9000)
    ∷ line (at 1500 ACTIVE ∷ at 9000 NOP ∷ []) (breaks 1 14 1 9000)
    ∷ line (at 0 ACTIVE ∷ at 1500 READ ∷ at 9000 NOP ∷ []) (breaks 2 14 2 9000)
    ∷ line (at 0 ACTIVE ∷ at 1500 WRITE ∷ at 9000 NOP ∷ []) (breaks 2 14 2 9000)
    ∷ line (at 1500 TERMINATE ∷ at 9000 NOP ∷ []) (breaks 1 14 1 9000)
    ∷ line (at 1500 PRECHARGE ∷ at 9000 NOP ∷ []) (breaks 1 14 1 9000)
    ∷ line (at 1500 (MODE + 0x32) ∷ at 9000 NOP ∷ []) (breaks 1 14 1 9000)
    ∷ []

rule-14 : HoldLines rule14
unfolding rule14 said_of
rule-14 = refl

-- ---- each rule shows which setting it takes

own_settings : List Line
own_settings =
    -- tRFC, tMRD
    line_under unlike (at 0 REFRESH ∷ at 12 ACTIVE ∷ []) (breaks 1 4 1 12)
    ∷ line_under unlike (at 0 REFRESH ∷ at 13 ACTIVE ∷ []) (touches 2 [])
    ∷ line_under unlike (at 0 (MODE + 0x32) ∷ at 6 ACTIVE ∷ []) (breaks 1 4 1 6)
    ∷ line_under unlike (at 0 (MODE + 0x32) ∷ at 7 ACTIVE ∷ []) (touches 2 [])
    -- tRP: 11 + 5; tRC is no longer than that
    ∷ line_under unlike (at 0 ACTIVE ∷ at 11 PRECHARGE ∷ at 15 ACTIVE ∷ []) (breaks 2 5 2 15)
    ∷ line_under unlike (at 0 ACTIVE ∷ at 11 PRECHARGE ∷ at 16 ACTIVE ∷ []) (touches 3 [])
    ∷ line_under unlike (at 0 ACTIVE ∷ at 11 PRECHARGE ∷ at 15 REFRESH ∷ []) (breaks 2 5 2 15)
    ∷ line_under unlike (at 0 ACTIVE ∷ at 11 PRECHARGE ∷ at 16 REFRESH ∷ []) (touches 3 [])
    -- tRRD, tRCD, tRAS
    ∷ line_under unlike (at 0 ACTIVE ∷ at 2 (ACTIVE + bank 1) ∷ []) (breaks 1 7 1 2)
    ∷ line_under unlike (at 0 ACTIVE ∷ at 3 (ACTIVE + bank 1) ∷ []) (touches 2 [])
    ∷ line_under unlike (at 0 ACTIVE ∷ at 3 READ ∷ []) (breaks 1 8 1 3)
    ∷ line_under unlike (at 0 ACTIVE ∷ at 4 READ ∷ []) (touches 2 (four 0))
    ∷ line_under unlike (at 0 ACTIVE ∷ at 10 PRECHARGE ∷ []) (breaks 1 9 1 10)
    -- tWR, tWTR after the data end 4 + 1 + 2
    ∷ line_under unlike (at 0 ACTIVE ∷ at 4 WRITE ∷ at 12 PRECHARGE ∷ []) (breaks 2 10 2 12)
    ∷ line_under unlike (at 0 ACTIVE ∷ at 4 WRITE ∷ at 13 PRECHARGE ∷ []) (touches 3 (four 0))
    ∷ line_under unlike (at 0 ACTIVE ∷ at 4 WRITE ∷ at 8 READ ∷ []) (breaks 2 11 2 8)
    ∷ line_under unlike (at 0 ACTIVE ∷ at 4 WRITE ∷ at 9 READ ∷ []) (touches 3 (four 0 ++ four 0))
    -- auto precharge: 4 + 1 + 2 + 6 + 5, 10 + 2 + 5, and 0 + 11 + 5, which AUTO REFRESH asks
    ∷ line_under unlike (at 0 ACTIVE ∷ at 4 (WRITE + A10) ∷ at 17 ACTIVE ∷ []) (breaks 2 5 2 17)
    ∷ line_under unlike (at 0 ACTIVE ∷ at 4 (WRITE + A10) ∷ at 18 ACTIVE ∷ []) (touches 3 (four 0))
    ∷ line_under unlike (at 0 ACTIVE ∷ at 10 (READ + A10) ∷ at 16 ACTIVE ∷ []) (breaks 2 5 2 16)
    ∷ line_under unlike (at 0 ACTIVE ∷ at 10 (READ + A10) ∷ at 17 ACTIVE ∷ []) (touches 3 (four 0))
    ∷ line_under unlike (at 0 ACTIVE ∷ at 4 (READ + A10) ∷ at 15 REFRESH ∷ []) (breaks 2 5 2 15)
    ∷ line_under unlike (at 0 ACTIVE ∷ at 4 (READ + A10) ∷ at 16 REFRESH ∷ []) (touches 3 (four 0))
    -- tREFI, nine times
    ∷ line_under unlike (at 8099 NOP ∷ []) (touches 1 [])
    ∷ line_under unlike (at 8100 NOP ∷ []) (breaks 0 14 0 8100)
    ∷ []

own-settings : HoldLines own_settings
unfolding own_settings said_of
own-settings = refl

-- ---- judging by some of the rules

-- the rules that are asked, and what is found
record ByList : Type 0 where
  asked : List ℕ
  events : List Event
  found : Verdict

abbrev by : List ℕ → List Event → Verdict → ByList
by rs es v = record { asked = rs; events = es; found = v }

by_lists : List ByList
by_lists =
    -- the READ is too early for rule 8, the PRECHARGE for rule 9: who is not asked about one goes on to the other
    by (8 ∷ 9 ∷ []) (at 0 ACTIVE ∷ at 2 READ ∷ at 6 PRECHARGE ∷ []) (broken 8 1 2)
    ∷ by (9 ∷ 14 ∷ []) (at 0 ACTIVE ∷ at 2 READ ∷ at 6 PRECHARGE ∷ []) (broken 9 2 6)
    ∷ by (8 ∷ 14 ∷ []) (at 0 ACTIVE ∷ at 6 PRECHARGE ∷ at 7 NOP ∷ []) clean
    ∷ by [] (at 0 READ ∷ at 2001 READ ∷ []) clean
    ∷ by (14 ∷ []) (at 0 READ ∷ at 9000 READ ∷ []) (broken 14 1 9000)
    -- placing asks no rule above 13
    ∷ by placing (at 9000 NOP ∷ []) clean
    ∷ by rules (at 9000 NOP ∷ []) (broken 14 0 9000)
    ∷ []

by-lists : map (λ x. verdict_by x.asked (settings_of usual) x.events) by_lists ≡ map (λ x. x.found) by_lists
unfolding by_lists verdict_by judge_by
by-lists = refl

-- what is asked by all rules of one event, and of events from some event on
by-all-rules : broken_by (settings_of usual) (start (settings_of usual)) (at 9000 NOP) ≡ some 14
by-all-rules = refl

from-some-event : judge_from (settings_of usual) (start (settings_of usual)) 5 (at 9000 NOP ∷ []) ≡ broken 14 5 9000
unfolding judge_by
from-some-event = refl
