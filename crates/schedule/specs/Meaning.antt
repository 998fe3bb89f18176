-- What this crate's functions ask of each other, and what they answer in document 01's words.
use Rattle.std.specs.Prelude.{ℕ, ◌+◌, ◌*◌, ◌≤◌, false, cond, List, ◌++◌, ◌≡◌, ltb, length, take, Result, Ok, Err}
use Rattle.std.proofs.Math.Option.{none}
use Rattle.std.proofs.lemmas.List.Edits.{sets}
use Rattle.reading.specs.Words.{bytes_of}
use Rattle.reading.specs.Settings.{settings_count, settings_of, newer, out_of_range}
use Rattle.reading.specs.Capture.{Event, capture_size}
use Rattle.reading.specs.Schedule.{Schedule, planned, late, bad_request, event_words, header_of}
use Rattle.reading.specs.Answers.{Answer, refused, answered}
use Rattle.refusal.specs.declared.Refusal.{Refusal}
use Rattle.refusal.specs.declared.Refusal.TheVariants.{Room}

-- ---- the walk over the requests

-- so many events, or the request at which refresh cannot be kept
abbrev pub plan_answer : Schedule → Answer ℕ
plan_answer (planned es) = answered (length es)
plan_answer (late i) = refused 6 i

-- the words of the schedule's events stand in front; where there is no schedule nothing is said of them
pub record Noted (x : Schedule) (words : List ℕ) : Type 0 where
  pub front : (es : List Event) → x ≡ planned es → take (2 * length es) words ≡ event_words es

-- nothing is refused, the edition is 0, and there is room for the events, and for one more
pub record Plannable (settings requests words : List ℕ) : Type 0 where
  pub right : out_of_range settings settings_count ≡ none
  pub old : newer (settings_of settings) ≡ false
  pub fine : bad_request (settings_of settings) requests ≡ none
  pub room : 8 * length requests + 2 ≤ length words

-- ---- the capture

pub record Writable (settings list : List ℕ) (n : ℕ) : Type 0 where
  pub fourteen : length settings ≡ settings_count
  pub few : n ≤ 8000
  pub there : 2 * n ≤ length list

abbrev pub size : ℕ → ℕ
size n = capture_size settings_count n

unfoldable pub written : List ℕ → ℕ → Result ℕ Refusal
written out n = cond (ltb (length out) (size n)) (Err (Room (size n))) (Ok (size n))

unfoldable pub writing : List ℕ → List ℕ → ℕ → List ℕ → List ℕ
writing settings list n out =
    cond (ltb (length out) (size n)) out (sets out 0 (bytes_of (header_of 0 (length settings) n ++ settings ++ take (2 * n) list)))
