-- When a call is refused, and with which number and place: every case of document 01's table, said out in full. Refusals 1 to 4
-- of a capture stand in Captures.
use Rattle.std.specs.Prelude.{ℕ, ◌≤◌, ◌<◌, List, ◌≡◌, length}
use Rattle.std.proofs.Math.Option.{none, some}
use Rattle.reading.specs.Settings.{settings_of, bad_setting}
use Rattle.reading.specs.Capture.{Event, event_count, events_of}
use Rattle.reading.specs.Part.{start}
use Rattle.reading.specs.Schedule.{planned, late, bad_request, schedule_of, capture_of}
use Rattle.reading.specs.Answers.{settings_in, cells_in}
use Rattle.reading.specs.OpenRow.{index_in}
use Rattle.reading.proofs.Meaning.{Unbroken, BrokenAt}
use Rattle.demands.specs.Captures.{CaptureRefused}
-- what refusals 1 to 4 say of a capture, and none of them
pub use Rattle.capture.specs.Calls.{opened, Accepted}

-- every event, after the events before it, breaks no rule
abbrev pub Clean : List ℕ → Type 0
Clean capture = Unbroken (settings_in capture) (start (settings_in capture)) (events_of capture) (length (events_of capture))

-- the first event that breaks a rule, the lowest rule that it breaks, its cycle
abbrev pub Broken : List ℕ → ℕ → ℕ → ℕ → Type 0
Broken capture rule event cycle = BrokenAt (settings_in capture) (start (settings_in capture)) (events_of capture) event rule cycle

-- a burst list that is asked for
pub data ListRefused (capture out : List ℕ) (number place : ℕ) : Type 0 where
  -- 1 to 4
  unaccepted : CaptureRefused capture number place → ListRefused capture out number place
  -- 8: the first event that breaks a rule
  unclean : Accepted capture → number ≡ 8 → (rule cycle : ℕ) → Broken capture rule place cycle → ListRefused capture out number place
  -- 7: the cells that there are
  short : Accepted capture → Clean capture → number ≡ 7 → place ≡ length (cells_in capture) → length out < place → ListRefused capture out number place

-- a capture that is to be blanked
pub data BlankRefused (capture out : List ℕ) (number place : ℕ) : Type 0 where
  -- 1 to 4
  unopened : CaptureRefused capture number place → BlankRefused capture out number place
  -- 7: the bytes of the capture
  scant : Accepted capture → number ≡ 7 → place ≡ length capture → length out < place → BlankRefused capture out number place

-- a question about a bank and an event, where so many records and words of an index are lent
pub data RowRefused (capture : List ℕ) (bank event records words number place : ℕ) : Type 0 where
  -- 1 to 4
  unread : CaptureRefused capture number place → RowRefused capture bank event records words number place
  -- 8: the first event that breaks a rule
  unsound : Accepted capture → number ≡ 8 → (rule cycle : ℕ) →
      BrokenAt (settings_in capture) (start (settings_in capture)) (events_of capture) place rule cycle →
      RowRefused capture bank event records words number place
  -- 13: a bank above 3, or an event at or above N
  unasked : Accepted capture → Clean capture → number ≡ 13 → place ≡ 0 → (bank ≤ 3 → event_count capture ≤ event) →
      RowRefused capture bank event records words number place
  -- 7: four records
  unlent : Accepted capture → Clean capture → bank ≤ 3 → event < event_count capture → number ≡ 7 → place ≡ 4 → records < 4 →
      RowRefused capture bank event records words number place
  -- 7: the words that the index needs
  unwritten : Accepted capture → Clean capture → bank ≤ 3 → event < event_count capture → 4 ≤ records → number ≡ 7 →
      place ≡ length (index_in capture) → words < place → RowRefused capture bank event records words number place

-- settings that fit
pub record Fine (ws : List ℕ) : Type 0 where
  pub count : length ws ≡ 14
  pub each : bad_setting ws ≡ none

-- a schedule that is asked for, by a row policy: 0 open, 1 closed
pub data ScheduleRefused (ws qs : List ℕ) (policy : ℕ) (out : List ℕ) (number place : ℕ) : Type 0 where
  -- 2
  count : (length ws ≡ 14 → ⊥) → number ≡ 2 → place ≡ 0 → ScheduleRefused ws qs policy out number place
  -- 3: the lowest such setting
  setting : length ws ≡ 14 → number ≡ 3 → bad_setting ws ≡ some place → ScheduleRefused ws qs policy out number place
  -- 10: no such policy
  policy : Fine ws → 1 < policy → number ≡ 10 → place ≡ 0 → ScheduleRefused ws qs policy out number place
  -- 5: the lowest such request, or 2,000
  request : Fine ws → policy ≤ 1 → number ≡ 5 → bad_request (settings_of ws) qs ≡ some place → ScheduleRefused ws qs policy out number place
  -- 6: the request at which refresh cannot be kept
  untimely : Fine ws → policy ≤ 1 → bad_request (settings_of ws) qs ≡ none → number ≡ 6 → schedule_of (settings_of ws) policy qs ≡ late place →
      ScheduleRefused ws qs policy out number place
  -- 7: the bytes of the schedule
  short : Fine ws → policy ≤ 1 → bad_request (settings_of ws) qs ≡ none → (es : List Event) → schedule_of (settings_of ws) policy qs ≡ planned es → number ≡ 7 →
      place ≡ length (capture_of ws es) → length out < place → ScheduleRefused ws qs policy out number place
