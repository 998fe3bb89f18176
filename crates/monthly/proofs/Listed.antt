-- The beats of a line are the cells of its burst list.
use Prim.Native.Nat.{ℕ, ◌+◌}
use mathlib.Core.List.{List}
use mathlib.Core.Option.{none}
use mathlib.Core.Path.{◌≡◌, refl, sym, ap, ◌∙◌}
use native.Mathlib.Omega.{arith}
use lib.ListN.{length}
use Rattle.reading.specs.Capture.{most_events, event_count}
use Rattle.reading.specs.Cells.{beats_of}
use Rattle.reading.specs.Verdict as is
use Rattle.reading.specs.Answers.{answered, unless, Report, settings_in, verdict_in, judge_answer_to, not_clean, accepted, fitting, cells_in, cells_outcome}
use Rattle.reading.specs.Month.{Line, bursts_in, line_by, line_for, line_of}
use Rattle.capture.specs.Calls.{Accepted}
use Rattle.capture.proofs.Outcome.{passed, fits, wrote}
use Rattle.capture.proofs.Accepted.{answered-in, accepted-rest}
use Rattle.beats.proofs.Sums.{beats-together, cells-length}

module _ (c : List ℕ) where
  none-broken : (v : is.Verdict) → not_clean v ≡ none → v ≡ is.clean
  none-broken is.clean e = refl
  none-broken (is.broken rule event cycle) e = let z : ◌≡◌ {A = ℕ} 0 1 = cc in absurd (omega arith)

  -- a burst list is answered of a clean capture
  listed : (out : List ℕ) {n : ℕ} → answered n ≡ (cells_outcome c out).answer → Accepted c × (verdict_in c ≡ is.clean) × (n ≡ length (cells_in c))
  unfolding cells_outcome
  listed out e =
      let w = wrote (accepted c (unless 8 (not_clean (verdict_in c)) (fitting out (cells_in c)))) out (sym e) in
      let (a, then) = answered-in most_events c _ w.is in
      let (k, room) = passed 8 (not_clean (verdict_in c)) _ then in
      (a, none-broken (verdict_in c) k, w.count ∙ ap length (sym (fits out (cells_in c) room).0))

  clean_line : Accepted c → verdict_in c ≡ is.clean → (line_of c).read + (line_of c).written ≡ beats_of (bursts_in c)
  unfolding line_of judge_answer_to
  clean_line a v =
      ap (λ (x : Line). x.read + x.written) (ap (line_for c) (accepted-rest c _ a) ∙ ap (line_by c (report (verdict_in c))) v) ∙ beats-together (bursts_in c)
    where
      report : is.Verdict → Report
      report w = record { events = event_count c; judged = is.judged_of (event_count c) w; verdict = w }

  pub beats-listed : (out : List ℕ) {n : ℕ} → answered n ≡ (cells_outcome c out).answer → (line_of c).read + (line_of c).written ≡ n
  unfolding cells_in
  beats-listed out e =
      let (a, v, l) = listed out e in
      clean_line a v ∙ sym (cells-length (settings_in c) (bursts_in c)) ∙ sym l
