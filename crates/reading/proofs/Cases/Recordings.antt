-- Limits of another number of events, small enough to write the captures down; and recordings, which have none.
use Prim.Native.Nat.{ℕ, ◌+◌, ◌*◌, ◌^◌, ◌<◌}
use mathlib.Core.Bool.{and-false}
use mathlib.Core.List.{List, [], ◌∷◌, ◌++◌, map}
use mathlib.Core.Path.{◌≡◌, refl}
use native.Mathlib.Omega.{arith}
use borrow.Author.Tests.{ne_eqb}
use lib.ListN.{length}
use Rattle.reading.specs.Words.{bytes_of}
use Rattle.reading.specs.Settings.{bad_setting}
use Rattle.reading.specs.Capture.{Event, header_word, event_count, setting_words, event_bytes, most_recorded, length_fits_to, header_fits_to, length_fits, header_fits, pin_limit, bad_event}
use Rattle.reading.specs.Schedule.{capture_of}
use Rattle.reading.specs.Answers.{Answer, refused, unless, accepted_to, judge_answer_to, judge_answer, recording_answer, cells_in}
use Rattle.reading.proofs.Cases.{ACTIVE, READ, NOP, LOW, at, usual, sleeping, Said, refuses, touches, breaks, answer_said, said}

-- what is said of a capture where there may be so many events
said_to : ℕ → List ℕ → Said
unfolding said
said_to most capture = answer_said (cells_in capture) (judge_answer_to most capture)

record Limited : Type 0 where
  most : ℕ
  capture : List ℕ
  says : Said

abbrev up_to : ℕ → List ℕ → List Event → Said → Limited
up_to most settings es o = record { most = most; capture = capture_of settings es; says = o }

abbrev stating : ℕ → List ℕ → List ℕ → Said → Limited
stating most header rest o = record { most = most; capture = bytes_of (header ++ rest); says = o }

-- events that keep the rules, and one more that breaks one
abbrev kept : List Event
kept = at 0 ACTIVE ∷ at 3 NOP ∷ at 5 NOP ∷ []

abbrev early : List Event
early = at 0 ACTIVE ∷ at 2 READ ∷ at 5 NOP ∷ []

limited : List Limited
limited =
    -- as many as there may be, and one more, with and without sleep
    up_to 3 usual kept (touches 3 [])
    ∷ up_to 2 usual kept (refuses 1 0)
    ∷ up_to 3 sleeping (at 0 (NOP + LOW) ∷ at 1 (NOP + LOW) ∷ at 2 NOP ∷ []) (touches 3 [])
    ∷ up_to 2 sleeping (at 0 (NOP + LOW) ∷ at 1 (NOP + LOW) ∷ at 2 NOP ∷ []) (refuses 1 0)
    -- none
    ∷ up_to 0 usual [] (touches 0 [])
    ∷ up_to 0 sleeping [] (touches 0 [])
    ∷ up_to 0 usual (at 0 NOP ∷ []) (refuses 1 0)
    -- bytes of two events of which the header counts three
    ∷ stating 2 (96 ∷ 14 ∷ 24 ∷ 3 ∷ 80 ∷ 0 ∷ []) (usual ++ (0 ∷ NOP ∷ 1 ∷ NOP ∷ [])) (refuses 2 0)
    ∷ stating 3 (96 ∷ 14 ∷ 24 ∷ 3 ∷ 80 ∷ 0 ∷ []) (usual ++ (0 ∷ NOP ∷ 1 ∷ NOP ∷ [])) (refuses 2 0)
    ∷ stating 2 (96 ∷ 14 ∷ 24 ∷ 2 ∷ 80 ∷ 0 ∷ []) (usual ++ (0 ∷ NOP ∷ 1 ∷ NOP ∷ [])) (touches 2 [])
    -- broken at the last that there may be
    ∷ up_to 2 usual (at 0 ACTIVE ∷ at 2 READ ∷ []) (breaks 1 8 1 2)
    ∷ []

recorded : List Limited
recorded =
    up_to most_recorded usual kept (touches 3 [])
    ∷ up_to most_recorded sleeping [] (touches 0 [])
    ∷ up_to most_recorded usual early (breaks 1 8 1 2)
    -- an event behind the broken one that does not fit
    ∷ up_to most_recorded usual (at 0 ACTIVE ∷ at 2 READ ∷ at 5 NOP ∷ at 5 NOP ∷ []) (refuses 4 3)
    ∷ up_to most_recorded usual (at 0 ACTIVE ∷ at 2 READ ∷ at 5 (NOP + LOW) ∷ []) (refuses 4 2)
    -- shorter than its header, or not of its stated total
    ∷ stating most_recorded (36 ∷ 14 ∷ 24 ∷ 0 ∷ 80 ∷ 0 ∷ []) (1 ∷ 13 ∷ 10 ∷ []) (refuses 1 0)
    ∷ stating most_recorded (80 ∷ 16 ∷ 24 ∷ 0 ∷ 88 ∷ 0 ∷ []) usual (refuses 1 0)
    ∷ stating most_recorded (88 ∷ 14 ∷ 24 ∷ 0 ∷ 80 ∷ 0 ∷ []) usual (refuses 1 0)
    -- totals that would be right if they wrapped in 32 bits
    ∷ stating most_recorded (80 ∷ 14 ∷ 24 ∷ 0x20000000 ∷ 80 ∷ 0 ∷ []) usual (refuses 2 0)
    ∷ stating most_recorded (88 ∷ 14 ∷ 24 ∷ 0xe0000001 ∷ 80 ∷ 0 ∷ []) (usual ++ (0 ∷ NOP ∷ [])) (refuses 2 0)
    ∷ stating most_recorded (88 ∷ 16 ∷ 24 ∷ 0x20000000 ∷ 88 ∷ 0 ∷ []) sleeping (refuses 2 0)
    ∷ []

abbrev HoldTo : List Limited → Type 0
HoldTo cases = map (λ x. said_to x.most x.capture) cases ≡ map (λ x. x.says) cases

each-limited : HoldTo limited
unfolding limited said_to said
each-limited = refl

each-recorded : HoldTo recorded
unfolding recorded said_to said
each-recorded = refl

-- ---- recordings that are too long to write down, whatever is asked of them

module _ {A : Type 0} (capture : List ℕ) (rest : Answer A) where
  -- Of one that its header states only settings and events are left to ask: of fourteen settings with 536,870,901 events, and of
  -- sixteen with one less.
  longest :
      length capture ≡ 4294967288 →
      header_word capture 0 ≡ 4294967288 →
      header_word capture 1 ≡ 14 →
      header_word capture 2 ≡ 24 →
      event_count capture ≡ 536870901 →
      header_word capture 4 ≡ 80 →
      header_word capture 5 ≡ 0 →
      accepted_to most_recorded capture rest ≡
      unless 3 (bad_setting (setting_words capture)) (unless 4 (bad_event (pin_limit capture) (event_bytes capture) 536870901) rest)
  unfolding accepted_to length_fits_to header_fits_to
  longest l total settings from events onwards zeros = rw (l, total, settings, from, events, onwards, zeros)

  longest-sleeping :
      length capture ≡ 4294967288 →
      header_word capture 0 ≡ 4294967288 →
      header_word capture 1 ≡ 16 →
      header_word capture 2 ≡ 24 →
      event_count capture ≡ 536870900 →
      header_word capture 4 ≡ 88 →
      header_word capture 5 ≡ 0 →
      accepted_to most_recorded capture rest ≡
      unless 3 (bad_setting (setting_words capture)) (unless 4 (bad_event (pin_limit capture) (event_bytes capture) 536870900) rest)
  unfolding accepted_to length_fits_to header_fits_to
  longest-sleeping l total settings from events onwards zeros = rw (l, total, settings, from, events, onwards, zeros)

  -- one event more, and no word states the bytes
  unstated : length capture ≡ 2 ^ 32 → header_word capture 0 < 2 ^ 32 → accepted_to most_recorded capture rest ≡ refused 1 0
  unfolding accepted_to length_fits_to
  unstated l small = rw (l, ne_eqb (header_word capture 0) (2 ^ 32) (λ e. omega arith), and-false _)

  -- as long as a word can state, and of its stated total: no whole event ends there
  uneven : length capture ≡ 4294967295 → header_word capture 0 ≡ 4294967295 → header_word capture 1 ≡ 14 → accepted_to most_recorded capture rest ≡ refused 2 0
  unfolding accepted_to length_fits_to header_fits_to
  uneven l total settings = rw (l, total, settings, ne_eqb 4294967295 (80 + 8 * event_count capture) (λ e. omega arith), and-false _)

-- ---- which limit is whose

of-captures : (capture : List ℕ) → (length_fits capture ≡ length_fits_to 8000 capture) × (header_fits capture ≡ header_fits_to 8000 capture)
of-captures capture = (refl, refl)

-- a byte behind the most events of a capture, if its header states it: too long for a capture, uneven for a recording
module _ (capture : List ℕ) (l : length capture ≡ 64081) (total : header_word capture 0 ≡ 64081) (settings : header_word capture 1 ≡ 14) where
  too_long : judge_answer capture ≡ refused 1 0
  unfolding judge_answer_to accepted_to length_fits_to
  too_long = rw (l, settings)

  one_more : recording_answer capture ≡ refused 2 0
  unfolding judge_answer_to accepted_to length_fits_to header_fits_to
  one_more = rw (l, total, settings, ne_eqb 64081 (80 + 8 * event_count capture) (λ e. omega arith), and-false _)
