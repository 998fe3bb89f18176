-- Case m of document 01, schedules by both row policies, schedules that are refused, and lent buffers.
use Prim.Native.Nat.{ℕ, ◌+◌}
use mathlib.Core.Bool.{true, false}
use mathlib.Core.List.{List, [], ◌∷◌, ◌++◌, map}
use mathlib.Core.Path.{◌≡◌, refl}
use lib.ListN.{set, take, replicate}
use Rattle.reading.specs.Settings.{settings_of}
use Rattle.reading.specs.Capture.{Event}
use Rattle.reading.specs.Schedule.{capture_of, active_pins, burst_pins, close_pins, close_all_pins, refresh_pins, request_commands, refresh_commands, request_fits, bad_request, cuts_nothing, passes, goes, earliest, free_from, last_from, placed, send, send_all, send_request, send_refresh, refresh_in_time, served, planned, schedule_from, schedule_by}
use Rattle.reading.specs.Part.{Part, start, run}
use Rattle.reading.specs.Answers.{Outcome, refused, answered, cells_outcome, schedule_outcome}
use Rattle.reading.proofs.Cases.{ACTIVE, READ, WRITE, PRECHARGE, REFRESH, A10, A11, bank, at, usual, said}

record Case : Type 0 where
  settings : List ℕ
  requests : List ℕ
  policy : ℕ
  buffer : List ℕ
  leaves : Outcome

-- the row policies
abbrev OPEN : ℕ
OPEN = 0

abbrev CLOSED : ℕ
CLOSED = 1

abbrev refusing : ℕ → List ℕ → List ℕ → List ℕ → ℕ → ℕ → Case
refusing policy settings requests buffer number place =
    record {
      settings = settings;
      requests = requests;
      policy = policy;
      buffer = buffer;
      leaves = record { answer = refused number place; buffer = buffer };
    }

-- written into n bytes of 9s, with m of them left
abbrev writing : ℕ → List ℕ → List ℕ → ℕ → ℕ → List Event → Case
writing policy settings requests n m es =
    record {
      settings = settings;
      requests = requests;
      policy = policy;
      buffer = replicate (n + m) 9;
      leaves = record { answer = answered n; buffer = capture_of settings es ++ replicate m 9 };
    }

requests_m : List ℕ
requests_m = 5 ∷ (0x80000000 + 8388608) ∷ 5 ∷ 8388608 ∷ []

cases : List Case
cases =
    -- m: with tREFI 4 nine are owed at 36, behind all of it; with 2 at 18
    writing CLOSED (set usual 13 4) requests_m 144 3
    (at 0 ACTIVE ∷ at 3 (READ + A10 + 5) ∷ at 4 (ACTIVE + bank 1) ∷ at 8 (WRITE + A10 + bank 1) ∷ at 10 ACTIVE
    ∷ at 13 (READ + A10 + 5) ∷ at 17 (ACTIVE + bank 1) ∷ at 20 (READ + A10 + bank 1) ∷ [])
    ∷ writing CLOSED usual requests_m 144 0
    (at 0 ACTIVE ∷ at 3 (READ + A10 + 5) ∷ at 4 (ACTIVE + bank 1) ∷ at 8 (WRITE + A10 + bank 1) ∷ at 10 ACTIVE
    ∷ at 13 (READ + A10 + 5) ∷ at 17 (ACTIVE + bank 1) ∷ at 20 (READ + A10 + bank 1) ∷ [])
    ∷ refusing CLOSED (set usual 13 2) requests_m [] 6 2
    -- no requests: a capture without events
    ∷ writing CLOSED usual [] 80 1 []
    -- column bit 10 goes to A11, the row to A0-A13
    ∷ writing CLOSED (set (set usual 1 14) 2 11) (0x800fff ∷ []) 96 0 (at 0 (ACTIVE + 0x1001) ∷ at 3 (READ + A10 + A11 + 0x3ff) ∷ [])
    -- the last cell of the usual part and of the largest, and (2 x 4096 + 7) x 256 + 9
    ∷ writing CLOSED usual (0x1ffffff ∷ []) 96 0 (at 0 (ACTIVE + bank 3 + 0x1fff) ∷ at 3 (READ + A10 + bank 3 + 0x3ff) ∷ [])
    ∷ writing CLOSED (set (set usual 1 14) 2 11) (0x7ffffff ∷ []) 96 0
    (at 0 (ACTIVE + bank 3 + 0x3fff) ∷ at 3 (READ + A10 + A11 + bank 3 + 0x3ff) ∷ [])
    ∷ writing CLOSED (set (set usual 1 12) 2 8) ((0x80000000 + 2098953) ∷ []) 96 0
    (at 0 (ACTIVE + bank 2 + 7) ∷ at 3 (WRITE + A10 + bank 2 + 9) ∷ [])
    -- bursts of sixteen wait for their like: 3 + 8
    ∷ writing CLOSED (set usual 3 0x34) (0 ∷ 8388608 ∷ []) 112 0
    (at 0 ACTIVE ∷ at 3 (READ + A10) ∷ at 4 (ACTIVE + bank 1) ∷ at 11 (READ + A10 + bank 1) ∷ [])
    -- tREFI 2, nine are owed at 18: an AUTO REFRESH after the read could come at 0 + 7 + tRP, just in time and one too late;
    -- after the write at 3 + 1 + 2 + 3 + tRP; one at 0 before them pays nothing
    ∷ writing CLOSED (set (set usual 5 10) 13 2) (5 ∷ []) 96 0 (at 0 ACTIVE ∷ at 3 (READ + A10 + 5) ∷ [])
    ∷ refusing CLOSED (set (set usual 5 11) 13 2) (5 ∷ []) [] 6 0
    ∷ writing CLOSED (set (set usual 5 8) 13 2) (0x80000000 ∷ []) 96 0 (at 0 ACTIVE ∷ at 3 (WRITE + A10) ∷ [])
    ∷ refusing CLOSED (set (set usual 5 9) 13 2) (0x80000000 ∷ []) [] 6 0
    -- tWR 200, tREFI 24: after the write at 6 + 200 + 3 eight are owed; after a read behind it, at 219, nine; with one paid at
    -- 209 nine are owed at 240, and after the read at 209 + tRFC + 7 + 3
    ∷ writing CLOSED (set (set usual 9 200) 13 24) (0x80000000 ∷ 0 ∷ []) 120 0
    (at 0 ACTIVE ∷ at 3 (WRITE + A10) ∷ at 209 REFRESH ∷ at 221 ACTIVE ∷ at 224 (READ + A10) ∷ [])
    ∷ writing CLOSED (set (set (set usual 9 200) 11 20) 13 24) (0x80000000 ∷ 0 ∷ []) 120 0
    (at 0 ACTIVE ∷ at 3 (WRITE + A10) ∷ at 209 REFRESH ∷ at 229 ACTIVE ∷ at 232 (READ + A10) ∷ [])
    ∷ refusing CLOSED (set (set (set usual 9 200) 11 21) 13 24) (0x80000000 ∷ 0 ∷ []) [] 6 1
    -- 2, 3, 5: settings, then requests, all of them before any is placed
    ∷ refusing CLOSED [] [] [] 2 0
    ∷ refusing CLOSED (take 13 usual) [] [] 2 0
    ∷ refusing CLOSED (usual ++ (0 ∷ [])) (0x78000000 ∷ []) [] 2 0
    ∷ refusing CLOSED (set usual 7 11 ++ (2 ∷ [])) [] [] 2 0
    ∷ refusing CLOSED (set usual 4 0) (0x78000000 ∷ []) [] 3 4
    -- tRC above tRAS + tRP: 3 before 5
    ∷ refusing CLOSED (set usual 7 11) (5 ∷ []) (replicate 96 9) 3 7
    ∷ refusing CLOSED (set usual 7 11) (0x78000000 ∷ []) [] 3 7
    ∷ refusing CLOSED (set (set usual 7 11) 13 0) [] [] 3 13
    ∷ refusing CLOSED usual (5 ∷ 0x08000000 ∷ []) [] 5 1
    ∷ refusing CLOSED usual (0x10000000 ∷ []) [] 5 0
    ∷ refusing CLOSED usual (0x20000000 ∷ []) [] 5 0
    ∷ refusing CLOSED usual (0x40000000 ∷ []) [] 5 0
    ∷ refusing CLOSED usual (0x1ffffff ∷ 0x2000000 ∷ []) [] 5 1
    ∷ refusing CLOSED (set (set usual 1 12) 2 8) (0x3fffff ∷ 0x400000 ∷ []) [] 5 1
    ∷ refusing CLOSED (set usual 13 1) (5 ∷ 8388608 ∷ 0x2000000 ∷ []) [] 5 2
    -- 2,000 requests are looked at, one more is too many
    ∷ refusing CLOSED usual (replicate 2000 0x78000000) [] 5 0
    ∷ refusing CLOSED usual (replicate 2001 0x78000000) [] 5 2000
    -- 6 before 7, and 7 with the bytes that are needed
    ∷ refusing CLOSED (set usual 13 1) (5 ∷ []) [] 6 0
    ∷ refusing CLOSED usual (5 ∷ []) (replicate 95 9) 7 96
    ∷ []

schedules : map (λ x. schedule_outcome x.settings x.requests x.policy x.buffer) cases ≡ map (λ x. x.leaves) cases
unfolding cases requests_m said schedule_outcome schedule_by schedule_from served refresh_in_time last_from send_refresh send_request send_all send placed free_from earliest goes passes cuts_nothing bad_request request_fits
schedules = refl

-- rows left open
open-cases : List Case
open-cases =
    -- m: the second requests of both banks find their rows open
    writing OPEN usual requests_m 128 2
    (at 0 ACTIVE ∷ at 3 (READ + 5) ∷ at 4 (ACTIVE + bank 1) ∷ at 8 (WRITE + bank 1) ∷ at 12 (READ + 5) ∷ at 14 (READ + bank 1) ∷ [])
    -- another row: closed at tRAS, and after a write at its data end + tWR
    ∷ writing OPEN usual (5 ∷ 1024 ∷ []) 120 0
    (at 0 ACTIVE ∷ at 3 (READ + 5) ∷ at 7 PRECHARGE ∷ at 10 (ACTIVE + 1) ∷ at 13 READ ∷ [])
    ∷ writing OPEN usual ((0x80000000 + 5) ∷ 1024 ∷ []) 120 0
    (at 0 ACTIVE ∷ at 3 (WRITE + 5) ∷ at 9 PRECHARGE ∷ at 12 (ACTIVE + 1) ∷ at 15 READ ∷ [])
    -- no burst is cut by its like, nor a read by a WRITE: its data have left the bus
    ∷ writing OPEN usual ((0x80000000 + 5) ∷ (0x80000000 + 5) ∷ 5 ∷ (0x80000000 + 5) ∷ []) 120 0
    (at 0 ACTIVE ∷ at 3 (WRITE + 5) ∷ at 5 (WRITE + 5) ∷ at 9 (READ + 5) ∷ at 14 (WRITE + 5) ∷ [])
    ∷ writing OPEN (set usual 3 0x33) (5 ∷ 8388608 ∷ 5 ∷ []) 120 0
    (at 0 ACTIVE ∷ at 3 (READ + 5) ∷ at 4 (ACTIVE + bank 1) ∷ at 7 (READ + bank 1) ∷ at 11 (READ + 5) ∷ [])
    -- nor by PRECHARGE: with tRAS 1 it waits for the read at 3, and not for one of another bank
    ∷ writing OPEN (set (set (set usual 3 0x34) 6 1) 7 1) (5 ∷ 1024 ∷ []) 120 0
    (at 0 ACTIVE ∷ at 3 (READ + 5) ∷ at 11 PRECHARGE ∷ at 14 (ACTIVE + 1) ∷ at 17 READ ∷ [])
    ∷ writing OPEN (set (set (set usual 3 0x34) 6 1) 7 1) (5 ∷ 8388608 ∷ 1024 ∷ []) 136 0
    (at 0 ACTIVE ∷ at 3 (READ + 5) ∷ at 4 (ACTIVE + bank 1) ∷ at 11 (READ + bank 1) ∷ at 12 PRECHARGE ∷ at 15 (ACTIVE + 1) ∷ at 19 READ ∷ [])
    -- the test closes all banks first: tREFI 2, nine are owed at 18; tRP 10 lets the AUTO REFRESH come at 7 + 10, tRP 11 does not
    ∷ writing OPEN (set (set usual 5 10) 13 2) (5 ∷ []) 96 0 (at 0 ACTIVE ∷ at 3 (READ + 5) ∷ [])
    ∷ refusing OPEN (set (set usual 5 11) 13 2) (5 ∷ []) [] 6 0
    -- a refresh closes all banks, so that the request behind it needs no PRECHARGE: tWR 200, tREFI 24, nine are owed at 216; the
    -- row that is asked for could be opened at 209, and the AUTO REFRESH behind it came at 219
    ∷ writing OPEN (set (set usual 9 200) 13 24) (0x80000000 ∷ 1024 ∷ []) 128 0
    (at 0 ACTIVE ∷ at 3 WRITE ∷ at 206 (PRECHARGE + A10) ∷ at 209 REFRESH ∷ at 221 (ACTIVE + 1) ∷ at 224 READ ∷ [])
    ∷ refusing OPEN (set usual 13 2) (replicate 9 5) [] 6 5
    ∷ refusing OPEN (set usual 13 3) (replicate 12 5) [] 6 10
    -- a policy that is none: 10 behind 2 and 3, before 5
    ∷ refusing 2 usual (0x78000000 ∷ []) [] 10 0
    ∷ refusing 2 [] [] [] 2 0
    ∷ refusing 2 (set usual 7 11) [] [] 3 7
    ∷ refusing 0xffffffff usual (5 ∷ []) (replicate 96 9) 10 0
    ∷ refusing OPEN usual (0x78000000 ∷ []) [] 5 0
    ∷ refusing OPEN (set usual 13 1) (5 ∷ []) [] 6 0
    ∷ refusing OPEN usual (5 ∷ 5 ∷ []) (replicate 103 9) 7 104
    ∷ []

open-schedules : map (λ x. schedule_outcome x.settings x.requests x.policy x.buffer) open-cases ≡ map (λ x. x.leaves) open-cases
unfolding open-cases requests_m said schedule_outcome schedule_by schedule_from served refresh_in_time last_from send_refresh send_request send_all send placed free_from earliest goes passes cuts_nothing bad_request request_fits
open-schedules = refl

-- the pins by themselves: with other pins a row could lie beyond the part or a bank stay open, and no cycle be found at all
request-pins :
    active_pins (settings_of usual) 5
    ∷ active_pins (settings_of usual) (8388608 + 1024)
    ∷ burst_pins true (settings_of usual) 5
    ∷ burst_pins true (settings_of usual) (0x80000000 + 8388608)
    ∷ burst_pins true (settings_of (set usual 2 11)) 0x7ff
    ∷ burst_pins false (settings_of (set usual 2 11)) 0x7ff
    ∷ close_pins (settings_of usual) (8388608 + 1024)
    ∷ close_all_pins
    ∷ refresh_pins
    ∷ [] ≡
    ACTIVE
    ∷ (ACTIVE + bank 1 + 1)
    ∷ (READ + A10 + 5)
    ∷ (WRITE + A10 + bank 1)
    ∷ (READ + A10 + A11 + 0x3ff)
    ∷ (READ + A11 + 0x3ff)
    ∷ (PRECHARGE + bank 1)
    ∷ (PRECHARGE + A10)
    ∷ REFRESH
    ∷ []
request-pins = refl

-- the commands of a request and of a refresh, in their order: banks idle, bank 0 open on row 0
request-commands : map (λ closed. request_commands closed (settings_of usual) (start (settings_of usual)) 5) (true ∷ false ∷ []) ≡
    (ACTIVE ∷ (READ + A10 + 5) ∷ []) ∷ (ACTIVE ∷ (READ + 5) ∷ []) ∷ []
request-commands = refl

opened : Part
opened = run (settings_of usual) (start (settings_of usual)) (at 0 ACTIVE ∷ [])

open-commands : map (request_commands false (settings_of usual) opened) (5 ∷ 1024 ∷ 8388608 ∷ []) ≡
    ((READ + 5) ∷ []) ∷ (PRECHARGE ∷ (ACTIVE + 1) ∷ READ ∷ []) ∷ ((ACTIVE + bank 1) ∷ (READ + bank 1) ∷ []) ∷ []
unfolding opened
open-commands = refl

refresh-commands : refresh_commands (start (settings_of usual)) ≡ REFRESH ∷ []
refresh-commands = refl

open-refresh : refresh_commands opened ≡ (PRECHARGE + A10) ∷ REFRESH ∷ []
unfolding opened
open-refresh = refl

-- placed by fewer rules: without rule 8 the READ need not wait for tRCD
fewer-rules :
    schedule_by (3 ∷ 5 ∷ []) (settings_of usual) true (5 ∷ []) ≡ planned (at 0 ACTIVE ∷ at 1 (READ + A10 + 5) ∷ [])
unfolding schedule_by schedule_from served refresh_in_time last_from send_refresh send_request send_all send placed free_from earliest goes passes cuts_nothing
fewer-rules = refl

-- ---- burst cells: 8 before 7, and what lies behind them stays

record Lent : Type 0 where
  capture : List ℕ
  buffer : List ℕ
  leaves : Outcome

abbrev lent : List Event → List ℕ → Outcome → Lent
lent es buffer o = record { capture = capture_of usual es; buffer = buffer; leaves = o }

lists : List Lent
lists =
    lent (at 0 ACTIVE ∷ at 3 (READ + 5) ∷ []) (9 ∷ 9 ∷ 9 ∷ 9 ∷ 9 ∷ []) (record { answer = answered 4; buffer = 5 ∷ 6 ∷ 7 ∷ 4 ∷ 9 ∷ [] })
    ∷ lent (at 0 ACTIVE ∷ at 3 (READ + 5) ∷ []) (9 ∷ 9 ∷ 9 ∷ []) (record { answer = refused 7 4; buffer = 9 ∷ 9 ∷ 9 ∷ [] })
    ∷ lent (at 0 ACTIVE ∷ at 3 READ ∷ at 4 READ ∷ at 5 ACTIVE ∷ []) [] (record { answer = refused 8 3; buffer = [] })
    ∷ lent (at 0 ACTIVE ∷ at 2 READ ∷ []) (9 ∷ []) (record { answer = refused 8 1; buffer = 9 ∷ [] })
    ∷ lent (at 7 ACTIVE ∷ at 3 READ ∷ []) (9 ∷ []) (record { answer = refused 4 1; buffer = 9 ∷ [] })
    ∷ record {
      capture = capture_of (set usual 7 11) (at 0 ACTIVE ∷ at 2 READ ∷ []);
      buffer = 9 ∷ [];
      leaves = record { answer = refused 3 7; buffer = 9 ∷ [] };
    }
    ∷ []

burst-lists : map (λ x. cells_outcome x.capture x.buffer) lists ≡ map (λ x. x.leaves) lists
unfolding lists said cells_outcome
burst-lists = refl
