-- The month in numbers: worked lines and their sums, and where a stream ends.
use Prim.Native.Nat.{ℕ, ◌+◌}
use mathlib.Core.Bool.{true, false}
use mathlib.Core.List.{List, [], ◌∷◌, ◌++◌, map}
use mathlib.Core.Path.{◌≡◌, refl}
use lib.ListN.{set, take}
use Rattle.reading.specs.Words.{word_at, word_bytes, bytes_of}
use Rattle.reading.specs.Settings.{setting_fits, bad_setting}
use Rattle.reading.specs.Capture.{setting_words, events_of, length_fits_to, header_fits_to, event_fits, bad_event}
use Rattle.reading.specs.Verdict as is
use Rattle.reading.specs.Verdict.{judge_by, verdict_by}
use Rattle.reading.specs.Cells.{bursts_of}
use Rattle.reading.specs.Schedule.{capture_in, capture_of, event_words, last_from}
use Rattle.reading.specs.Answers.{Answer, refused, answered, Report, accepted_to, judge_answer_to, verdict_in}
use Rattle.reading.specs.Month.{Line, unused, line_of, sum_of, Month, month_from, month_of, totals_told}
use Rattle.reading.proofs.Cases.{ACTIVE, READ, WRITE, NOP, LOW, A10, at, usual, sleeping}

-- to unfold this is to unfold all that a month is made of
monthly : ℕ → List ℕ → Month
unfolding month_from line_of judge_answer_to accepted_to verdict_in setting_words bad_setting setting_fits events_of length_fits_to header_fits_to event_fits bad_event verdict_by judge_by bursts_of last_from capture_in event_words bytes_of word_bytes word_at
monthly most stream = month_from most stream

-- ---- lines

abbrev says : ℕ → ℕ → is.Verdict → Answer Report
says events judged v = answered (record { events = events; judged = judged; verdict = v })

-- clean, all of so many events judged; beats read and written, over so many cycles
abbrev clean : ℕ → ℕ → ℕ → ℕ → Line
clean events read written cycles = record { answer = says events events is.clean; read = read; written = written; cycles = cycles }

abbrev broken : ℕ → ℕ → ℕ → ℕ → Line
broken events rule event cycle = unused (says events event (is.broken rule event cycle))

-- a month that ends with its stream; with a refusal 1; with more captures than there may be
abbrev whole : List Line → Month
whole xs = record { lines = xs; ended = false; over = false }

abbrev cut : List Line → Month
cut xs = record { lines = xs; ended = true; over = false }

abbrev over : List Line → Month
over xs = record { lines = xs; ended = false; over = true }

-- ---- captures

abbrev four : List ℕ
four = capture_of usual (at 0 ACTIVE ∷ at 3 (READ + 5) ∷ at 4 (READ + 8) ∷ at 20 WRITE ∷ [])

-- case b at 2
abbrev late : List ℕ
late = capture_of usual (at 0 ACTIVE ∷ at 2 READ ∷ [])

abbrev lanes : List ℕ
lanes = capture_of (set usual 0 3) []

abbrev nothing : List ℕ
nothing = capture_of usual []

-- the five lines of the request
worked : monthly 10000 (four ++ late ++ lanes ++ nothing) ≡
    whole (clean 4 6 4 40 ∷ broken 2 8 1 2 ∷ unused (refused 3 0) ∷ clean 0 0 0 0 ∷ [])
unfolding monthly
worked = refl

worked-totals : totals_told (whole (clean 4 6 4 40 ∷ broken 2 8 1 2 ∷ unused (refused 3 0) ∷ clean 0 0 0 0 ∷ [])) ≡
    answered (record { captures = 4; clean = 2; broken = 1; refused = 1; events = 6; judged = 5; read = 6; written = 4; cycles = 40 })
unfolding sum_of
worked-totals = refl

-- a sum of each number over several lines, in which each is another
sums : totals_told (whole (clean 4 6 4 40 ∷ clean 9 2 16 100 ∷ broken 7 8 5 2 ∷ broken 3 3 0 1 ∷ broken 2 3 1 1 ∷ unused (refused 4 6) ∷ [])) ≡
    answered (record { captures = 6; clean = 2; broken = 3; refused = 1; events = 25; judged = 19; read = 8; written = 20; cycles = 140 })
unfolding sum_of
sums = refl

-- ---- one capture

-- each alone; the last event's cycle counts, whatever it asks; beats that a burst lost do not; sleep; the newer edition
lines : map (λ c. (monthly 10000 c).lines)
    (capture_of usual (at 7 NOP ∷ [])
    ∷ capture_of usual (at 0 ACTIVE ∷ at 3 WRITE ∷ at 4 (WRITE + 8) ∷ at 30 NOP ∷ [])
    ∷ capture_of usual (at 0 NOP ∷ [])
    ∷ capture_of sleeping (at 0 ACTIVE ∷ at 3 READ ∷ at 20 (NOP + LOW) ∷ [])
    ∷ capture_in 1 usual (at 0 ACTIVE ∷ at 3 (WRITE + A10) ∷ [])
    ∷ capture_in 1 (set usual 3 0x33) (at 0 ACTIVE ∷ at 3 WRITE ∷ at 6 READ ∷ [])
    ∷ capture_of (set usual 13 1) (at 9 NOP ∷ [])
    ∷ capture_in 2 usual []
    ∷ capture_of usual (at 5 NOP ∷ at 5 NOP ∷ [])
    ∷ []) ≡
    (clean 1 0 0 14 ∷ [])
    ∷ (clean 4 0 6 60 ∷ [])
    ∷ (clean 1 0 0 0 ∷ [])
    ∷ (clean 3 4 0 40 ∷ [])
    ∷ (clean 2 0 4 6 ∷ [])
    ∷ (clean 3 8 2 12 ∷ [])
    ∷ (broken 1 14 0 9 ∷ [])
    ∷ (unused (refused 2 0) ∷ [])
    ∷ (unused (refused 4 1) ∷ [])
    ∷ []
unfolding monthly
lines = refl

-- ---- where a stream ends

abbrev refusal : Line
refusal = unused (refused 1 0)

-- a capture whose total word says otherwise
abbrev stating : ℕ → List ℕ
stating total = bytes_of (total ∷ 14 ∷ 24 ∷ 0 ∷ 80 ∷ 0 ∷ usual)

ends : map (monthly 10000)
    ([]
    -- 1 to 3 bytes, and a total word alone
    ∷ (80 ∷ [])
    ∷ (80 ∷ 0 ∷ [])
    ∷ (0 ∷ 0 ∷ 0 ∷ [])
    ∷ (1 ∷ 0 ∷ 0 ∷ 0 ∷ [])
    -- no capture has that total, however many bytes there are
    ∷ (stating 0 ++ nothing)
    ∷ (stating 4 ++ nothing)
    ∷ (stating 79 ++ nothing)
    ∷ stating 64089
    ∷ stating 0xffffffff
    -- fewer bytes than it says
    ∷ take 79 nothing
    ∷ stating 81
    ∷ (nothing ++ take 79 nothing)
    -- what lies behind a refusal 1 is not looked at; behind another it is
    ∷ (late ++ stating 0 ++ late ++ late)
    ∷ (lanes ++ capture_of usual (at 5 NOP ∷ at 5 NOP ∷ []) ++ nothing)
    -- bytes that the total counts in make it a refusal 2, and the next capture starts behind them
    ∷ (stating 81 ++ (0 ∷ []) ++ nothing)
    ∷ []) ≡
    whole []
    ∷ cut (refusal ∷ [])
    ∷ cut (refusal ∷ [])
    ∷ cut (refusal ∷ [])
    ∷ cut (refusal ∷ [])
    ∷ cut (refusal ∷ [])
    ∷ cut (refusal ∷ [])
    ∷ cut (refusal ∷ [])
    ∷ cut (refusal ∷ [])
    ∷ cut (refusal ∷ [])
    ∷ cut (refusal ∷ [])
    ∷ cut (refusal ∷ [])
    ∷ cut (clean 0 0 0 0 ∷ refusal ∷ [])
    ∷ cut (broken 2 8 1 2 ∷ refusal ∷ [])
    ∷ whole (unused (refused 3 0) ∷ unused (refused 4 1) ∷ clean 0 0 0 0 ∷ [])
    ∷ whole (unused (refused 2 0) ∷ clean 0 0 0 0 ∷ [])
    ∷ []
unfolding monthly
ends = refl

-- the most captures, one byte more, one less; a refusal 1 of the last ends the stream before anything can be behind it
limits : monthly 2 (nothing ++ lanes)
    ∷ monthly 2 (nothing ++ lanes ++ (0 ∷ []))
    ∷ monthly 2 (nothing ++ lanes ++ nothing)
    ∷ monthly 2 nothing
    ∷ monthly 2 (nothing ++ stating 0 ++ nothing)
    ∷ []
    ≡ whole (clean 0 0 0 0 ∷ unused (refused 3 0) ∷ [])
    ∷ over (clean 0 0 0 0 ∷ unused (refused 3 0) ∷ [])
    ∷ over (clean 0 0 0 0 ∷ unused (refused 3 0) ∷ [])
    ∷ whole (clean 0 0 0 0 ∷ [])
    ∷ cut (clean 0 0 0 0 ∷ refusal ∷ [])
    ∷ []
unfolding monthly
limits = refl

too_many : totals_told (over (clean 0 0 0 0 ∷ [])) ≡ refused 14 10000
too_many = refl

-- of a whole month they are 10,000
most : (stream : List ℕ) → month_of stream ≡ month_from 10000 stream
most stream = refl

-- an empty stream, and one that ended
nothing-told : totals_told (whole [])
    ∷ totals_told (cut (refusal ∷ []))
    ∷ []
    ≡ answered (record { captures = 0; clean = 0; broken = 0; refused = 0; events = 0; judged = 0; read = 0; written = 0; cycles = 0 })
    ∷ answered (record { captures = 1; clean = 0; broken = 0; refused = 1; events = 0; judged = 0; read = 0; written = 0; cycles = 0 })
    ∷ []
unfolding sum_of
nothing-told = refl
