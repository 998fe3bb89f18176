-- Captures as their bytes, both ways, and reports with their number of events: what the other cases cannot show, since they
-- write their captures by the definitions.
use Prim.Native.Nat.{ℕ, ◌+◌}
use mathlib.Core.List.{List, [], ◌∷◌, ◌++◌}
use mathlib.Core.Path.{◌≡◌, refl}
use lib.ListN.{set, replicate}
use Rattle.reading.specs.Words.{word_at, word_bytes, bytes_of}
use Rattle.reading.specs.Verdict.{clean, broken}
use Rattle.reading.specs.Schedule.{capture_of, request_fits, bad_request, cuts_nothing, passes, goes, earliest, free_from, last_from, placed, send, send_all, send_request, send_refresh, refresh_in_time, served, schedule_from, schedule_by}
use Rattle.reading.specs.Answers.{answered, judge_answer, schedule_outcome}
use Rattle.reading.proofs.Cases.{ACTIVE, READ, NOP, at, usual, touches, breaks, said, Case, bytes, Hold}

-- the lowest byte of a word stands first
word_read : word_at (9 ∷ 0x04 ∷ 0x03 ∷ 0x02 ∷ 0x01 ∷ 9 ∷ []) 1 ≡ 0x01020304
unfolding word_at
word_read = refl

words-written : bytes_of (0x01020304 ∷ 0xa0b0c0d0 ∷ []) ≡ 0x04 ∷ 0x03 ∷ 0x02 ∷ 0x01 ∷ 0xd0 ∷ 0xc0 ∷ 0xb0 ∷ 0xa0 ∷ []
unfolding bytes_of word_bytes
words-written = refl

-- fourteen words: the usual settings with tREFI 1,000,000
abbrev setting_bytes : List ℕ
setting_bytes =
    0x01 ∷ 0 ∷ 0 ∷ 0 ∷ 0x0d ∷ 0 ∷ 0 ∷ 0 ∷ 0x0a ∷ 0 ∷ 0 ∷ 0 ∷ 0x32 ∷ 0 ∷ 0 ∷ 0
    ∷ 0x03 ∷ 0 ∷ 0 ∷ 0 ∷ 0x03 ∷ 0 ∷ 0 ∷ 0 ∷ 0x07 ∷ 0 ∷ 0 ∷ 0 ∷ 0x0a ∷ 0 ∷ 0 ∷ 0
    ∷ 0x02 ∷ 0 ∷ 0 ∷ 0 ∷ 0x03 ∷ 0 ∷ 0 ∷ 0 ∷ 0x01 ∷ 0 ∷ 0 ∷ 0 ∷ 0x0c ∷ 0 ∷ 0 ∷ 0
    ∷ 0x02 ∷ 0 ∷ 0 ∷ 0 ∷ 0x40 ∷ 0x42 ∷ 0x0f ∷ 0 ∷ []

-- six words for two events, 96 bytes
abbrev header_bytes : List ℕ
header_bytes =
    0x60 ∷ 0 ∷ 0 ∷ 0 ∷ 0x0e ∷ 0 ∷ 0 ∷ 0 ∷ 0x18 ∷ 0 ∷ 0 ∷ 0
    ∷ 0x02 ∷ 0 ∷ 0 ∷ 0 ∷ 0x50 ∷ 0 ∷ 0 ∷ 0 ∷ 0 ∷ 0 ∷ 0 ∷ 0 ∷ []

captures : List Case
captures =
    -- ACTIVE 0, READ 2
    bytes
    (header_bytes ++ setting_bytes
    ++ (0 ∷ 0 ∷ 0 ∷ 0 ∷ 0 ∷ 0 ∷ 0x0c ∷ 0
    ∷ 0x02 ∷ 0 ∷ 0 ∷ 0 ∷ 0 ∷ 0 ∷ 0x0a ∷ 0 ∷ []))
    (breaks 1 8 1 2)
    -- ACTIVE bank 1 row 0x123 at 0x10203, READ bank 1 column 0x25 at 0x10206: (8192 + 291) x 1024 + 37
    ∷ bytes
    (header_bytes ++ setting_bytes
    ++ (0x03 ∷ 0x02 ∷ 0x01 ∷ 0 ∷ 0x23 ∷ 0x41 ∷ 0x0c ∷ 0
    ∷ 0x06 ∷ 0x02 ∷ 0x01 ∷ 0 ∷ 0x25 ∷ 0x40 ∷ 0x0a ∷ 0 ∷ []))
    (touches 2 (8686629 ∷ 8686630 ∷ 8686631 ∷ 8686628 ∷ []))
    -- NOP at 0, NOP at 0x01020304
    ∷ bytes
    (header_bytes ++ setting_bytes
    ++ (0 ∷ 0 ∷ 0 ∷ 0 ∷ 0 ∷ 0 ∷ 0x0e ∷ 0
    ∷ 0x04 ∷ 0x03 ∷ 0x02 ∷ 0x01 ∷ 0 ∷ 0 ∷ 0x0e ∷ 0 ∷ []))
    (breaks 1 14 1 16909060)
    ∷ []

capture-bytes : Hold captures
unfolding captures said
capture-bytes = refl

-- a write to the cell that was read above: ACTIVE 0, WRITE with auto precharge 3, and two bytes behind them
schedule-bytes :
    schedule_outcome (set usual 13 1000000) ((0x80000000 + 8686629) ∷ []) 1 (replicate 98 9) ≡
    record {
      answer = answered 96;
      buffer =
          header_bytes ++ setting_bytes
          ++ (0 ∷ 0 ∷ 0 ∷ 0 ∷ 0x23 ∷ 0x41 ∷ 0x0c ∷ 0
          ∷ 0x03 ∷ 0 ∷ 0 ∷ 0 ∷ 0x25 ∷ 0x44 ∷ 0x02 ∷ 0
          ∷ 9 ∷ 9 ∷ []);
    }
unfolding said schedule_outcome schedule_by schedule_from served refresh_in_time last_from send_refresh send_request send_all send placed free_from earliest goes passes cuts_nothing bad_request request_fits
schedule-bytes = refl

-- ---- the numbers that the report program prints, as document 01 has them for case b

broken-report :
    judge_answer (capture_of usual (at 0 ACTIVE ∷ at 2 READ ∷ at 9 NOP ∷ [])) ≡
    answered (record { events = 3; judged = 1; verdict = broken 8 1 2 })
unfolding said
broken-report = refl

clean-report : judge_answer (capture_of usual (at 0 ACTIVE ∷ at 3 READ ∷ at 9 NOP ∷ [])) ≡ answered (record { events = 3; judged = 3; verdict = clean })
unfolding said
clean-report = refl
