-- Rule 6 is asked no more, and no answer is another for that: judged and placed by rule 6 too, every capture, every burst list
-- and every schedule gets the answer that it gets without.
use Prim.Native.Nat.{ℕ, ◌+◌}
use mathlib.Core.Bool.{Bool, true, false, not}
use mathlib.Core.List.Memᴰ
use mathlib.Core.List.{List, [], ◌∷◌, ◌++◌}
use mathlib.Core.Option.{Option, none, some}
use mathlib.Core.Path.{◌≡◌, refl, ap}
use native.Mathlib.Omega.{arith}
use lib.Dec.{eqb, ltb}
use lib.ListN.{length}
use borrow.Author.Tests.{eqb-true, ltb-false, not-false}
use Rattle.reading.specs.Search.{given, or_else}
use Rattle.reading.specs.Settings.{Settings, settings_count, settings_of, out_of_range, Consistent, bad_setting}
use Rattle.reading.specs.Capture.{Event, most_events, event_count, events_of, setting_words}
use Rattle.reading.specs.Part.{start}
use Rattle.reading.specs.Rules.{above_six, placing, rules, placing_with_six, rules_with_six}
use Rattle.reading.specs.Verdict.{Verdict, verdict_by, judged_of}
use Rattle.reading.specs.Schedule.{Schedule, policy_fits, closes_rows, bad_request, schedule_by, capture_of}
use Rattle.reading.specs.Answers.{Answer, answered, unless, settings_in, not_clean, cells_in, fitting, leaves, when_planned, verdict_in, judge_answer, judge_answer_to, cells_outcome, schedule_outcome}
use Rattle.reading.proofs.Six.{same-judged, start-rest}
use Rattle.capture.specs.Calls.{Accepted}
use Rattle.capture.proofs.Accepted.{accepted-sound, accepted-alike}
use Rattle.plan.proofs.Ranged.{fourteen-old, ranged}
use Rattle.plan.proofs.Ready.{requests-fit}
use Rattle.plan.proofs.Captured.{settings-fit}
use Rattle.plan.proofs.Six.{ninth, same-schedule}
use Rattle.demands.specs.ByRules.{verdict_in_by, judge_answer_by, cells_outcome_by, schedule_outcome_by}

-- ---- settings that are not refused

short : (ws : List ℕ) → bad_setting ws ≡ none → Consistent (settings_of ws)
unfolding bad_setting
short ws fine = ltb-false sum (settings_of ws).t_rc (go (out_of_range ws (length ws)) (ltb sum (settings_of ws).t_rc) fine)
  where
    sum : ℕ
    sum = (settings_of ws).t_ras + (settings_of ws).t_rp

    go : (o : Option ℕ) (b : Bool) → or_else o (given 7 b) ≡ none → b ≡ false
    go none false e = refl
    go none true e = let z : ◌≡◌ {A = ℕ} 0 1 = cc in absurd (omega arith)
    go (some i) b e = let z : ◌≡◌ {A = ℕ} 0 1 = cc in absurd (omega arith)

-- ---- judging

-- Of whatever settings with a tRC of at most tRAS + tRP: the same verdict, rule, event and count.
pub verdicts-agree : (s : Settings) → Consistent s → (es : List Event) → verdict_by rules_with_six s es ≡ verdict_by rules s es
unfolding verdict_by
verdicts-agree s fits es = same-judged s fits (above_six ++ (14 ∷ 15 ∷ [])) (Memᴰ.append_left (14 ∷ 15 ∷ []) ninth) (start s) (start-rest s) 0 es

agree : (capture : List ℕ) → Accepted capture → verdict_in_by rules_with_six capture ≡ verdict_in_by rules capture
agree capture open-to = verdicts-agree (settings_in capture) (short (setting_words capture) (accepted-sound capture open-to).fine) (events_of capture)

-- Every byte string gets from the judge the answer that it would get with rule 6.
pub judge-without-six : (capture : List ℕ) → judge_answer_by rules_with_six capture ≡ judge_answer capture
unfolding judge_answer_to verdict_in
judge-without-six capture =
    accepted-alike most_events capture _ _
    (λ open-to.
    ap (λ (v : Verdict). answered (record { events = event_count capture; judged = judged_of (event_count capture) v; verdict = v })) (agree capture open-to))

-- So does every burst list, in answer and buffer.
pub cells-without-six : (capture out : List ℕ) → cells_outcome_by rules_with_six capture out ≡ cells_outcome capture out
unfolding cells_outcome verdict_in
cells-without-six capture out =
    ap (λ (a : Answer (List ℕ)). leaves a out)
    (accepted-alike most_events capture _ _
    (λ open-to. ap (λ (v : Verdict). unless 8 (not_clean v) (fitting out (cells_in capture))) (agree capture open-to)))

-- ---- schedules

-- And every schedule, by both row policies: the same refusals, the same bytes.
pub schedule-without-six : (ws qs : List ℕ) (policy : ℕ) (out : List ℕ) → schedule_outcome_by placing_with_six ws qs policy out ≡ schedule_outcome ws qs policy out
unfolding schedule_outcome
schedule-without-six ws qs policy out =
    ap (λ (a : Answer (List ℕ)). leaves a out)
    (go (not (eqb (length ws) settings_count)) refl (bad_setting ws) refl (given 0 (not (policy_fits policy))) (bad_request (settings_of ws) qs) refl)
  where
    rest : List ℕ → Answer (List ℕ)
    rest rs = when_planned (schedule_by rs (settings_of ws) (closes_rows policy) qs) (λ es. fitting out (capture_of ws es))

    same : length ws ≡ 14 → bad_setting ws ≡ none → bad_request (settings_of ws) qs ≡ none → rest placing_with_six ≡ rest placing
    same fourteen fine fit =
        ap (λ (x : Schedule). when_planned x (λ es. fitting out (capture_of ws es)))
        (same-schedule (ranged ws (settings-fit ws fourteen fine) (fourteen-old ws fourteen)) (short ws fine) (closes_rows policy) qs (requests-fit (settings_of ws) qs fit))

    go : (count : Bool) → not (eqb (length ws) settings_count) ≡ count → (bad : Option ℕ) → bad_setting ws ≡ bad → (none-such asked : Option ℕ) →
        bad_request (settings_of ws) qs ≡ asked →
        unless 2 (given 0 count) (unless 3 bad (unless 10 none-such (unless 5 asked (rest placing_with_six)))) ≡
        unless 2 (given 0 count) (unless 3 bad (unless 10 none-such (unless 5 asked (rest placing))))
    go true e bad f p asked g = refl
    go false e (some i) f p asked g = refl
    go false e none f (some p) asked g = refl
    go false e none f none (some i) g = refl
    go false e none f none none g = same (eqb-true (length ws) 14 (not-false _ e)) f g
