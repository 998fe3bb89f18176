-- A schedule written as a whole capture is accepted, holds the settings and the events, and is judged clean.
use Prim.Native.Nat.{ℕ, ◌^◌, ◌≤◌, ◌<◌}
use mathlib.Core.Bool.{true}
use mathlib.Core.List.{List}
use mathlib.Core.Option.{none}
use mathlib.Core.Path.{◌≡◌, sym, ap, ◌∙◌}
use native.Mathlib.Omega.{arith}
use lib.ListN.{length, get_or, get_or-eq_default}
use Rattle.reading.specs.Settings.{Settings, settings_of, in_edition, setting_fits, bad_setting}
use Rattle.reading.specs.Capture.{Event, last_cycle, events_of}
use Rattle.reading.specs.Verdict.{Verdict, clean, verdict_of, judged_of}
use Rattle.reading.specs.Schedule.{closes_rows, bad_request, free_from, planned, schedule_of, capture_of}
use Rattle.reading.specs.Answers.{Report, answered, settings_in, judge_answer}
use Rattle.settings.proofs.Fitting.{in-range, each-in-range}
use Rattle.capture.proofs.Rising.{Rises, Low, low-at, before-free, rises-at}
use Rattle.capture.proofs.Whole as capture
use Rattle.capture.proofs.Whole.{Whole}
use Rattle.plan.proofs.Ranged.{fourteen-old, ranged}
use Rattle.plan.proofs.Ready.{Planned, few-requests, schedule-planned}

pub settings-fit : (ws : List ℕ) → length ws ≡ 14 → bad_setting ws ≡ none → (i : ℕ) → i < 14 → setting_fits i (get_or ws i 0) ≡ true
settings-fit ws fourteen good i l = in-range ws (length ws) (each-in-range ws good) i (omega (arith, fourteen))

-- clean, all events judged
abbrev pub all_clean : List Event → Report
all_clean es = record { events = length es; judged = length es; verdict = clean }

module _ (ws : List ℕ) (es : List Event) (fourteen : length ws ≡ 14) (good : bad_setting ws ≡ none) (few : length es ≤ 8000) (rises : Rises 0 es)
    (low : Low (2 ^ 20) es) (early : free_from 0 es ≤ last_cycle) where
  whole : Whole 0 ws es
  whole =
      record {
        known = omega arith;
        all = ap capture.count_for fourteen ∙ sym fourteen;
        right = good;
        orderly =
            record {
              few = few;
              rise = rises-at 0 es rises;
              low = λ i l. rw fourteen (low-at (2 ^ 20) es low i l);
              early = λ i l. omega (arith, before-free 0 es rises i l);
            };
      }

  -- fourteen settings name no edition, and the sixth header word is 0
  unnamed : in_edition 0 (settings_of ws) ≡ settings_of ws
  unnamed i = in_edition (sym (get_or-eq_default ws 0 {n = 16} (omega (arith, fourteen))) i) (settings_of ws)

  pub captured-settings : settings_in (capture_of ws es) ≡ settings_of ws
  captured-settings = capture.captured-settings whole ∙ unnamed

  pub events-back : events_of (capture_of ws es) ≡ es
  events-back = capture.events-back whole

  pub captured-clean : verdict_of (settings_of ws) es ≡ clean → judge_answer (capture_of ws es) ≡ answered (all_clean es)
  captured-clean c =
      capture.captured-judged whole
      ∙ ap (λ (v : Verdict). answered (record { events = length es; judged = judged_of (length es) v; verdict = v }))
      (ap (λ (s : Settings). verdict_of s es) unnamed ∙ c)

-- ---- the schedule of settings and requests that are not refused

module _ (ws qs : List ℕ) (fourteen : length ws ≡ 14) (right : bad_setting ws ≡ none) (asked : bad_request (settings_of ws) qs ≡ none) (policy : ℕ) (es : List Event)
    (is : schedule_of (settings_of ws) policy qs ≡ planned es) where
  pub schedule-fits : Planned (settings_of ws) qs es
  schedule-fits = schedule-planned (settings_of ws) qs asked (ranged ws (settings-fit ws fourteen right) (fourteen-old ws fourteen)) (closes_rows policy) es is

  pub schedule-clean : judge_answer (capture_of ws es) ≡ answered (all_clean es)
  schedule-clean =
      let y = schedule-fits in
      captured-clean ws es fourteen right (omega (arith, y.few, few-requests (settings_of ws) qs asked)) y.rises y.low y.early y.judged
