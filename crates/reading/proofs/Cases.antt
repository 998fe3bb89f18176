-- Worked cases: pin words and captures as a person would write them, and what is said of a capture.
-- The cases stand below in Cases/: each list is one statement, and holds by computation.
use Prim.Native.Nat.{ℕ, ◌+◌, ◌*◌}
use mathlib.Core.List.{List, [], ◌∷◌, ◌++◌, map}
use mathlib.Core.Path.{◌≡◌}
use lib.ListN.{length}
use Rattle.reading.specs.Words.{word_at, word_bytes, bytes_of}
use Rattle.reading.specs.Settings.{Settings, settings_of, setting_fits, bad_setting}
use Rattle.reading.specs.Capture.{Event, setting_words, events_of, length_fits_to, header_fits_to, event_fits, bad_event}
use Rattle.reading.specs.Bursts.{burst_cells, beat_cell, beat_column, place}
use Rattle.reading.specs.Verdict.{Verdict, clean, broken, verdict_of, judged_of, judge_by, verdict_by}
use Rattle.reading.specs.Cells.{bursts_of, cells_of}
use Rattle.reading.specs.Schedule.{capture_in, capture_of, event_words}
use Rattle.reading.specs.Answers.{Answer, refused, answered, Report, accepted_to, judge_answer, judge_answer_to, verdict_in, cells_in}
mod Document
mod Readings
mod Clauses
mod Effects
mod Refusals
mod Limits
mod Bytes
mod Schedules
mod Memories
mod Sleeping
mod Tables
mod Editions
mod Blanking
mod Recordings
mod Exports
mod Opened
mod Months
mod Played

-- pin words, put together by adding: a command, a bank, A10, column or row pins
abbrev ACTIVE : ℕ
ACTIVE = 0xC0000

abbrev READ : ℕ
READ = 0xA0000

abbrev WRITE : ℕ
WRITE = 0x20000

abbrev TERMINATE : ℕ
TERMINATE = 0x60000

abbrev PRECHARGE : ℕ
PRECHARGE = 0x40000

abbrev REFRESH : ℕ
REFRESH = 0x80000

abbrev MODE : ℕ
MODE = 0x00000

abbrev NOP : ℕ
NOP = 0xE0000

abbrev DESELECT : ℕ
DESELECT = 0x10000

abbrev A10 : ℕ
A10 = 0x400

abbrev A11 : ℕ
A11 = 0x800

abbrev bank : ℕ → ℕ
bank b = 0x4000 * b

abbrev at : ℕ → ℕ → Event
at t w = record { cycle = t; pins = w }

-- the settings of document 01's cases
abbrev usual : List ℕ
usual = 1 ∷ 13 ∷ 10 ∷ 0x32 ∷ 3 ∷ 3 ∷ 7 ∷ 10 ∷ 2 ∷ 3 ∷ 1 ∷ 12 ∷ 2 ∷ 1000 ∷ []

-- with tXP 2 and tXSR 20
abbrev sleeping : List ℕ
sleeping = usual ++ (2 ∷ 20 ∷ [])

-- CKE low
abbrev LOW : ℕ
LOW = 0x100000

-- the cells of an uncut burst of four that starts with its block
abbrev four : ℕ → List ℕ
four c = c ∷ (c + 1) ∷ (c + 2) ∷ (c + 3) ∷ []

-- what is said of a capture
data Said : Type 0 where
  -- number, place
  refuses : ℕ → ℕ → Said
  -- judged, and the cells that its bursts touch
  touches : ℕ → List ℕ → Said
  -- judged; rule, event, cycle
  breaks : ℕ → ℕ → ℕ → ℕ → Said

verdict_said : ℕ → List ℕ → Verdict → Said
verdict_said judged cells clean = touches judged cells
verdict_said judged cells (broken r i t) = breaks judged r i t

answer_said : List ℕ → Answer Report → Said
answer_said cells (refused number place) = refuses number place
answer_said cells (answered r) = verdict_said r.judged cells r.verdict

-- to unfold this is to unfold all that a capture's answers are made of
said : List ℕ → Said
unfolding answer_said verdict_said capture_in event_words bytes_of word_bytes word_at judge_answer_to accepted_to verdict_in cells_in setting_words bad_setting setting_fits events_of length_fits_to header_fits_to event_fits bad_event verdict_by judge_by cells_of bursts_of burst_cells beat_cell beat_column place
said capture = answer_said (cells_in capture) (judge_answer capture)

record Case : Type 0 where
  capture : List ℕ
  says : Said

-- a capture of events under the usual settings, and under others; and a capture as it stands
abbrev case : List Event → Said → Case
case es o = record { capture = capture_of usual es; says = o }

abbrev under : List ℕ → List Event → Said → Case
under settings es o = record { capture = capture_of settings es; says = o }

abbrev bytes : List ℕ → Said → Case
bytes capture o = record { capture = capture; says = o }

-- of each capture is said what its case says
abbrev Hold : List Case → Type 0
Hold cases = map (λ x. said x.capture) cases ≡ map (λ x. x.says) cases

-- ---- lists of events that no capture is written of, which takes a fifth of the time: for the many cases of single clauses

said_of : Settings → List Event → Said
unfolding verdict_said verdict_by judge_by cells_of bursts_of burst_cells beat_cell beat_column place
said_of s es = let v = verdict_of s es in verdict_said (judged_of (length es) v) (cells_of s (bursts_of s es)) v

record Line : Type 0 where
  settings : List ℕ
  events : List Event
  says : Said

abbrev line : List Event → Said → Line
line es o = record { settings = usual; events = es; says = o }

abbrev line_under : List ℕ → List Event → Said → Line
line_under settings es o = record { settings = settings; events = es; says = o }

abbrev HoldLines : List Line → Type 0
HoldLines lines = map (λ x. said_of (settings_of x.settings) x.events) lines ≡ map (λ x. x.says) lines
