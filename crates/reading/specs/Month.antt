-- The month in numbers: captures one behind another, parted by their total words; a line for each, and their sums.
use Rattle.std.specs.Prelude.{ℕ, zero, suc, ◌+◌, ◌*◌, Bool, true, false, cond, not, List, [], ◌∷◌, length, take, drop, eqb}
use Rattle.reading.specs.Search.{given}
use Rattle.reading.specs.Capture.{header_word, events_of}
use Rattle.reading.specs.Bursts.{Burst, reads}
use Rattle.reading.specs.Cells.{bursts_of, beats_by}
use Rattle.reading.specs.Schedule.{last_from}
use Rattle.reading.specs.Verdict as is
use Rattle.reading.specs.Verdict.{Verdict}
use Rattle.reading.specs.Answers.{Answer, refused, answered, unless, Report, settings_in, judge_answer}

-- ---- the line of a capture

-- the share of the bus is the beats read and written over the cycles, which are twice that of the last event
pub record Line : Type 0 where
  pub answer : Answer Report
  pub read : ℕ
  pub written : ℕ
  pub cycles : ℕ

-- one that is refused, or not clean, adds nothing to beats or cycles
abbrev pub unused : Answer Report → Line
unused answer = record { answer = answer; read = 0; written = 0; cycles = 0 }

abbrev pub bursts_in : List ℕ → List Burst
bursts_in capture = bursts_of (settings_in capture) (events_of capture)

abbrev pub line_by : List ℕ → Report → Verdict → Line
line_by capture r is.clean =
    record {
      answer = answered r;
      read = beats_by reads (bursts_in capture);
      written = beats_by (λ x. x.writes) (bursts_in capture);
      cycles = 2 * last_from 0 (events_of capture);
    }
line_by capture r (is.broken rule event cycle) = unused (answered r)

abbrev pub line_for : List ℕ → Answer Report → Line
line_for capture (refused number place) = unused (refused number place)
line_for capture (answered r) = line_by capture r r.verdict

unfoldable pub line_of : List ℕ → Line
line_of capture = line_for capture (judge_answer capture)

-- one that is refused has no events, and none are judged
abbrev pub events_told : Answer Report → ℕ
events_told (refused number place) = 0
events_told (answered r) = r.events

abbrev pub judged_told : Answer Report → ℕ
judged_told (refused number place) = 0
judged_told (answered r) = r.judged

-- ---- the sums

abbrev pub none_broken : Verdict → ℕ
none_broken is.clean = 1
none_broken (is.broken rule event cycle) = 0

abbrev pub one_broken : Verdict → ℕ
one_broken is.clean = 0
one_broken (is.broken rule event cycle) = 1

-- 1 for an answer of the kind, 0 for any other
abbrev pub clean_told : Answer Report → ℕ
clean_told (refused number place) = 0
clean_told (answered r) = none_broken r.verdict

abbrev pub broken_told : Answer Report → ℕ
broken_told (refused number place) = 0
broken_told (answered r) = one_broken r.verdict

abbrev pub refused_told : Answer Report → ℕ
refused_told (refused number place) = 1
refused_told (answered r) = 0

unfoldable pub sum_of : (Line → ℕ) → List Line → ℕ
sum_of f [] = 0
sum_of f (x ∷ xs) = f x + sum_of f xs

pub record Totals : Type 0 where
  pub captures : ℕ
  pub clean : ℕ
  pub broken : ℕ
  pub refused : ℕ
  pub events : ℕ
  pub judged : ℕ
  pub read : ℕ
  pub written : ℕ
  pub cycles : ℕ

abbrev pub totals_of : List Line → Totals
totals_of xs =
    record {
      captures = length xs;
      clean = sum_of (λ x. clean_told x.answer) xs;
      broken = sum_of (λ x. broken_told x.answer) xs;
      refused = sum_of (λ x. refused_told x.answer) xs;
      events = sum_of (λ x. events_told x.answer) xs;
      judged = sum_of (λ x. judged_told x.answer) xs;
      read = sum_of (λ x. x.read) xs;
      written = sum_of (λ x. x.written) xs;
      cycles = sum_of (λ x. x.cycles) xs;
    }

-- ---- the stream

abbrev pub most_captures : ℕ
most_captures = 10000

-- behind a refusal 1 nobody knows where a capture starts
abbrev pub ends_stream : Answer Report → Bool
ends_stream (refused number place) = eqb number 1
ends_stream (answered r) = false

-- the lines; whether a refusal 1 ended the stream; whether bytes lie behind the last capture that there may be
pub record Month : Type 0 where
  pub lines : List Line
  pub ended : Bool
  pub over : Bool

abbrev pub behind : Line → Month → Month
behind x m = record { lines = x ∷ m.lines; ended = m.ended; over = m.over }

-- of so many captures at most; each has as many bytes as its total word says, if there are as many
unfoldable pub month_from : ℕ → List ℕ → Month
month_from zero stream = record { lines = []; ended = false; over = not (eqb (length stream) 0) }
month_from (suc left) stream =
    let total = header_word stream 0 in
    let x = line_of (take total stream) in
    cond (eqb (length stream) 0) (record { lines = []; ended = false; over = false })
    (cond (ends_stream x.answer) (record { lines = x ∷ []; ended = true; over = false }) (behind x (month_from left (drop total stream))))

abbrev pub month_of : List ℕ → Month
month_of stream = month_from most_captures stream

-- the totals, or that there are too many captures
abbrev pub totals_told : Month → Answer Totals
totals_told m = unless 14 (given most_captures m.over) (answered (totals_of m.lines))
