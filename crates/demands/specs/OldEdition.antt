-- The reading as it was before there was a newer edition, for the theorem that edition 0 is this one: what cut a burst, rules
-- 10 and 11, and the header; and whatever they come into, with the rest of the reading as it stands.
use Rattle.std.specs.Prelude.{ℕ, suc, ◌+◌, ◌-◌, Bool, cond, not, ◌&&◌, List, [], ◌∷◌, map, reverse, leb, ltb, eqb}
use Rattle.std.proofs.Math.Option.{Option, none, some}
use Rattle.reading.specs.Search.{implies, ever, find, given}
use Rattle.reading.specs.Settings.{Settings, settings_of, bad_setting}
use Rattle.reading.specs.Capture.{Event, header_word, count_in, event_count, settings_start, events_start, capture_size, most_events, setting_words, event_bytes, events_of, length_fits, pin_limit, bad_event}
use Rattle.reading.specs.Commands.{Command, READ, WRITE, MODE-REGISTER-SET, is, among, command_of}
use Rattle.reading.specs.Sleep.{sleep_after}
use Rattle.reading.specs.Bursts.{Burst, with_pairs, whole_end, data_end}
use Rattle.reading.specs.Part.{Part, start, cuts, at_most, bank_after, burst_given, refreshes, clock_after, last_write, last_bank_write}
use Rattle.reading.specs.Rules.{Rule, closing, keeps_rule, rules}
use Rattle.reading.specs.Verdict.{Verdict, clean, broken_or, judged_of}
use Rattle.reading.specs.Cells.{cells_of}
use Rattle.reading.specs.Answers.{Answer, answered, unless, Report, Outcome, leaves, fitting, not_clean}

-- ---- bursts

abbrev pub old_cut_pairs : Part → ℕ → Command → Burst → Option ℕ
old_cut_pairs p t c x = cond (cuts p c x && (not x.auto && ltb t (whole_end x))) (some (t - x.k)) none

abbrev pub old_cut_by : Part → ℕ → Command → Burst → Burst
old_cut_by p t c x = with_pairs (at_most (old_cut_pairs p t c x) x.n) x

abbrev pub old_bursts_after : Settings → Part → ℕ → Command → List Burst
old_bursts_after s p t c =
    cond (among (READ ∷ WRITE ∷ []) c)
    (burst_given s p t c ∷ map (old_cut_by p t c) p.bursts)
    (map (old_cut_by p t c) p.bursts)

abbrev pub old_step : Settings → Part → Event → Part
old_step s p e =
    let t = e.cycle in
    let c = command_of e.pins in
    record {
      banks = λ b. bank_after s p.mode t c b (p.banks b);
      mode = cond (is MODE-REGISTER-SET c && eqb c.bank 0) c.address p.mode;
      last_refresh = cond (refreshes c) (some t) p.last_refresh;
      last_mode_set = cond (is MODE-REGISTER-SET c) (some t) p.last_mode_set;
      clock = clock_after s t c p.sleep p.clock;
      sleep = sleep_after t c p.sleep;
      bursts = old_bursts_after s p t c;
    }

abbrev pub old_run : Settings → Part → List Event → Part
old_run s p [] = p
old_run s p (e ∷ es) = old_run s (old_step s p e) es

-- ---- rules

abbrev pub after_data : ℕ → Option Burst → ℕ → Bool
after_data wait o t = ever o (λ x. leb (data_end x + wait) t)

abbrev pub old_rule10 : Rule
old_rule10 s p t c = closing p c (λ b. after_data s.t_wr (last_bank_write p b) t)

abbrev pub old_rule11 : Rule
old_rule11 s p t c = implies (is READ c) (after_data s.t_wtr (last_write p) t)

abbrev pub old_keeps_rule : ℕ → Rule
old_keeps_rule r s p t c = cond (eqb r 10) (old_rule10 s p t c) (cond (eqb r 11) (old_rule11 s p t c) (keeps_rule r s p t c))

abbrev pub old_broken_by : Settings → Part → Event → Option ℕ
old_broken_by s p e = find (λ r. not (old_keeps_rule r s p e.cycle (command_of e.pins))) rules

abbrev pub old_judge_from : Settings → Part → ℕ → List Event → Verdict
old_judge_from s p i [] = clean
old_judge_from s p i (e ∷ es) = broken_or (old_broken_by s p e) i e.cycle (old_judge_from s (old_step s p e) (suc i) es)

-- ---- captures: the sixth header word is 0, and the settings are all there is to judge by

abbrev pub old_header_fits : List ℕ → Bool
old_header_fits capture =
    eqb (header_word capture 1) (count_in capture)
    && eqb (header_word capture 2) settings_start
    && leb (event_count capture) most_events
    && eqb (header_word capture 4) (events_start (count_in capture))
    && eqb (header_word capture 5) 0
    && eqb (header_word capture 0) (capture_size (count_in capture) (event_count capture))

abbrev pub old_accepted : {A : Type 0} → List ℕ → Answer A → Answer A
old_accepted capture rest =
    unless 1 (given 0 (not (length_fits capture)))
    (unless 2 (given 0 (not (old_header_fits capture)))
    (unless 3 (bad_setting (setting_words capture))
    (unless 4 (bad_event (pin_limit capture) (event_bytes capture) (event_count capture)) rest)))

module _ (capture : List ℕ) where
  abbrev pub old_settings : Settings
  old_settings = settings_of (setting_words capture)

  abbrev pub old_verdict : Verdict
  old_verdict = old_judge_from old_settings (start old_settings) 0 (events_of capture)

  abbrev pub old_cells : List ℕ
  old_cells = cells_of old_settings (reverse (old_run old_settings (start old_settings) (events_of capture)).bursts)

  abbrev pub old_judge_answer : Answer Report
  old_judge_answer =
      old_accepted capture
      (answered (record { events = event_count capture; judged = judged_of (event_count capture) old_verdict; verdict = old_verdict }))

  abbrev pub old_cells_outcome : List ℕ → Outcome
  old_cells_outcome buffer = leaves (old_accepted capture (unless 8 (not_clean old_verdict) (fitting buffer old_cells))) buffer
