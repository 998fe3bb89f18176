-- What lines, totals and the bytes that are read of a stream mean in the reading, and what is known of totals that are added to.
use Rattle.std.specs.Prelude.{ℕ, ◌+◌, ◌*◌, ◌≤◌, cond, List, ltb, length, take, drop}
use Rattle.reading.specs.Capture.{most_events, capture_size, header_word}
use Rattle.reading.specs.Settings.{settings_count, sleeping_count}
use Rattle.reading.specs.Answers.{Answer, Report}
use Rattle.reading.specs.Month as month
use Rattle.reading.specs.Month.{most_captures, events_told, judged_told, clean_told, broken_told, refused_told}
use Rattle.refusal.specs.Refusal.{told}
use Rattle.judge.specs.Meaning.{report_of}
use Rattle.monthly.specs.declared.Line.{Line}
use Rattle.monthly.specs.declared.Counts.{Counts}
use Rattle.monthly.specs.declared.Totals.{Totals}

-- ---- a line

abbrev pub line_means : Line → month.Line
line_means x = record { answer = told report_of x.verdict; read = x.read; written = x.written; cycles = x.cycles }

-- what an answer adds to the counts
abbrev pub counts_of : Answer Report → Counts
counts_of a =
    record { clean = clean_told a; broken = broken_told a; refused = refused_told a; events = events_told a; judged = judged_told a }

-- ---- totals

abbrev pub totals_mean : Totals → month.Totals
totals_mean t =
    record {
      captures = t.captures;
      clean = t.clean;
      broken = t.broken;
      refused = t.refused;
      events = t.events;
      judged = t.judged;
      read = t.read;
      written = t.written;
      cycles = t.cycles;
    }

-- one line more
abbrev pub added : month.Totals → month.Line → month.Totals
added t x =
    record {
      captures = t.captures + 1;
      clean = t.clean + clean_told x.answer;
      broken = t.broken + broken_told x.answer;
      refused = t.refused + refused_told x.answer;
      events = t.events + events_told x.answer;
      judged = t.judged + judged_told x.answer;
      read = t.read + x.read;
      written = t.written + x.written;
      cycles = t.cycles + x.cycles;
    }

-- no number of a line is above this, and each of the totals is at most that of as many lines
abbrev pub most_told : ℕ
most_told = 4294967295

pub record Held (t : Totals) : Type 0 where
  pub captures : t.captures ≤ most_captures
  pub clean : t.clean ≤ most_told * t.captures
  pub broken : t.broken ≤ most_told * t.captures
  pub refused : t.refused ≤ most_told * t.captures
  pub events : t.events ≤ most_told * t.captures
  pub judged : t.judged ≤ most_told * t.captures
  pub read : t.read ≤ most_told * t.captures
  pub written : t.written ≤ most_told * t.captures
  pub cycles : t.cycles ≤ most_told * t.captures

-- ---- the stream

-- the bytes to be looked at where a total word says so: its own four where no capture has that total
abbrev pub wanted_of : ℕ → ℕ
wanted_of total =
    cond (ltb total (capture_size settings_count 0)) 4 (cond (ltb (capture_size sleeping_count most_events) total) 4 total)

-- what is read of a stream for the next capture, as far as there is any; fewer bytes than a word are taken as they are
abbrev pub read_of : List ℕ → List ℕ
read_of stream = cond (ltb (length stream) 4) stream (take (wanted_of (header_word stream 0)) stream)

-- what is left of it
abbrev pub left_of : List ℕ → List ℕ
left_of stream = drop (wanted_of (header_word stream 0)) stream
