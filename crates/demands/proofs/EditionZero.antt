-- Edition 0 is the reading as it was: a capture that names it gets from judge and burst list the answer that it got before there
-- was another; and one that names another was refused.
use Prim.Native.Nat.{ℕ, suc, ◌+◌, ◌-◌, ◌*◌}
use mathlib.Core.Bool.{Bool, true, false, cond, not, ◌&&◌}
use mathlib.Core.List.{List, [], ◌∷◌, map, reverse}
use mathlib.Core.Option.{Option, none, some}
use mathlib.Core.Path.{◌≡◌, refl, sym, ap, ◌∙◌}
use lib.Dec.{leb, ltb, eqb}
use lib.ListN.{get_or}
use borrow.Author.Tests.{eqb-true}
use Rattle.reading.specs.Search.{implies, ever, find, count}
use Rattle.reading.specs.Words.{word_at}
use Rattle.reading.specs.Settings.{Settings, sleeping_count, newer, in_edition}
use Rattle.reading.specs.Capture.{Event, header_word, edition_in, event_count, setting_words, events_of, header_fits, header_fits_to}
use Rattle.reading.specs.Commands.{Command, READ, WRITE, is, among, command_of}
use Rattle.reading.specs.Bursts.{Burst, with_pairs, whole_end, data_end, rests_from}
use Rattle.reading.specs.Part.{Part, start, cuts, at_most, cut_pairs, burst_given, last_write, last_bank_write, step, run}
use Rattle.reading.specs.Rules.{closing, keeps_rule, rules, broken_by}
use Rattle.reading.specs.Verdict.{Verdict, broken_or, judged_of, judge_by, verdict_by, judge_from}
use Rattle.reading.specs.Cells.{bursts_of, cells_of}
use Rattle.reading.specs.Answers.{Answer, answered, unless, accepted, accepted_to, settings_in, verdict_in, cells_in, judge_answer, judge_answer_to, cells_outcome, leaves, fitting, not_clean}
use Rattle.demands.specs.OldEdition.{old_cut_pairs, old_step, old_run, old_keeps_rule, old_broken_by, old_judge_from, old_header_fits, old_accepted, old_settings, old_verdict, old_cells, old_judge_answer, old_cells_outcome}

module _ (s : Settings) (old : newer s ≡ false) where
  same-cuts : (p : Part) (t : ℕ) (c : Command) (x : Burst) → cut_pairs s p t c x ≡ old_cut_pairs p t c x
  same-cuts p t c x = rw old (go x.auto (cuts p c x) (ltb t (whole_end x)))
    where
      go : (a u v : Bool) → cond a none (cond (u && v) (some (t - x.k)) none) ≡ cond (u && (not a && v)) (some (t - x.k)) none
      go true true v = refl
      go true false v = refl
      go false true v = refl
      go false false v = refl

  same_step : (p : Part) (e : Event) → step s p e ≡ old_step s p e
  same_step p e i =
      record {
        banks = (step s p e).banks;
        mode = (step s p e).mode;
        last_refresh = (step s p e).last_refresh;
        last_mode_set = (step s p e).last_mode_set;
        clock = (step s p e).clock;
        sleep = (step s p e).sleep;
        bursts =
            let cut = map (λ (x : Burst). with_pairs (at_most (same-cuts p e.cycle (command_of e.pins) x i) x.n) x) p.bursts in
            cond (among (READ ∷ WRITE ∷ []) (command_of e.pins)) (burst_given s p e.cycle (command_of e.pins) ∷ cut) cut;
      }

  same-run : (p : Part) (es : List Event) → run s p es ≡ old_run s p es
  same-run p [] = refl
  same-run p (e ∷ es) = ap (λ (q : Part). run s q es) (same_step p e) ∙ same-run (old_step s p e) es

  -- a rule is the one that it was
  same-rests : (x : Burst) → rests_from s x ≡ data_end x
  same-rests x = rw old

  same-rule : (r : ℕ) (p : Part) (t : ℕ) (c : Command) → keeps_rule r s p t c ≡ old_keeps_rule r s p t c
  same-rule r p t c = go (eqb r 10) refl (eqb r 11) refl
    where
      go : (u : Bool) → eqb r 10 ≡ u → (v : Bool) → eqb r 11 ≡ v → keeps_rule r s p t c ≡ old_keeps_rule r s p t c
      go true e v f =
          rw (eqb-true r 10 e) (λ i. closing p c (λ (b : ℕ). ever (last_bank_write p b) (λ (x : Burst). leb (same-rests x i + s.t_wr) t)))
      go false e true f =
          rw (eqb-true r 11 f) (λ i. implies (is READ c) (ever (last_write p) (λ (x : Burst). leb (same-rests x i + s.t_wtr) t)))
      go false e false f = rw (e, f)

  same-broken : (p : Part) (e : Event) → broken_by s p e ≡ old_broken_by s p e
  same-broken p e i = find (λ (r : ℕ). not (same-rule r p e.cycle (command_of e.pins) i)) rules

  same-judged : (p : Part) (i : ℕ) (es : List Event) → judge_from s p i es ≡ old_judge_from s p i es
  unfolding judge_by
  same-judged p i [] = refl
  same-judged p i (e ∷ es) =
      ap (λ (q : Part). broken_or (broken_by s p e) i e.cycle (judge_from s q (suc i) es)) (same_step p e)
      ∙ ap (λ (o : Option ℕ). broken_or o i e.cycle (judge_from s (old_step s p e) (suc i) es)) (same-broken p e)
      ∙ ap (broken_or (old_broken_by s p e) i e.cycle) (same-judged (old_step s p e) (suc i) es)

-- ---- captures

module _ (capture : List ℕ) where
  -- fourteen or sixteen settings name no edition
  none_named : get_or (setting_words capture) 16 0 ≡ 0
  unfolding setting_words
  none_named = go (eqb (header_word capture 1) sleeping_count)
    where
      go : (v : Bool) → get_or (map (λ (i : ℕ). word_at capture (24 + 4 * i)) (count 0 (cond v 16 14))) 16 0 ≡ 0
      go true = refl
      go false = refl

  module _ (zero : edition_in capture ≡ 0) where
    same-settings : settings_in capture ≡ old_settings capture
    same-settings i = in_edition ((zero ∙ sym none_named) i) (old_settings capture)

    old : newer (old_settings capture) ≡ false
    old = rw none_named

    same-header : header_fits capture ≡ old_header_fits capture
    unfolding header_fits_to
    same-header = rw zero

    same-verdict : verdict_in capture ≡ old_verdict capture
    unfolding verdict_in verdict_by
    same-verdict =
        ap (λ (s : Settings). judge_from s (start s) 0 (events_of capture)) same-settings
        ∙ same-judged (old_settings capture) old (start (old_settings capture)) 0 (events_of capture)

    same-cells : cells_in capture ≡ old_cells capture
    unfolding cells_in bursts_of
    same-cells =
        ap (λ (s : Settings). cells_of s (reverse (run s (start s) (events_of capture)).bursts)) same-settings
        ∙ ap (λ (p : Part). cells_of (old_settings capture) (reverse p.bursts)) (same-run (old_settings capture) old (start (old_settings capture)) (events_of capture))

    same-accepted : {A : Type 0} (rest : Answer A) → accepted capture rest ≡ old_accepted capture rest
    unfolding accepted_to
    same-accepted rest = rw same-header

-- A capture of edition 0 is judged as it was.
pub judge-edition-0 : (capture : List ℕ) → edition_in capture ≡ 0 → judge_answer capture ≡ old_judge_answer capture
unfolding judge_answer_to
judge-edition-0 capture zero =
    same-accepted capture zero _
    ∙ ap (λ (v : Verdict). old_accepted capture (answered (record { events = event_count capture; judged = judged_of (event_count capture) v; verdict = v })))
    (same-verdict capture zero)

-- And its burst list is what it was, in answer and buffer.
pub cells-edition-0 : (capture : List ℕ) → edition_in capture ≡ 0 → (buffer : List ℕ) → cells_outcome capture buffer ≡ old_cells_outcome capture buffer
unfolding cells_outcome
cells-edition-0 capture zero buffer =
    ap (λ (a : Answer (List ℕ)). leaves a buffer) (same-accepted capture zero _)
    ∙ (λ i. leaves (old_accepted capture (unless 8 (not_clean (same-verdict capture zero i)) (fitting buffer (same-cells capture zero i)))) buffer)
