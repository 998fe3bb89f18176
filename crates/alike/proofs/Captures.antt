-- Captures that differ only in addresses are refused alike, or accepted and judged alike.
use Prim.Native.Nat.{ℕ, zero, suc, ◌+◌, ◌-◌, ◌*◌, ◌^◌, ◌≤◌, ◌<◌}
use mathlib.Core.Bool.{Bool, true, false, cond, not, ◌&&◌, ◌||◌}
use mathlib.Core.List.{List, ◌∷◌, map}
use mathlib.Core.Path.{◌≡◌, refl, sym, ap, ◌∙◌, subst}
use native.Mathlib.Omega.{arith}
use lib.Dec.{leb, ltb, eqb}
use lib.ListN.{take}
use borrow.Author.Tests.{ltb-true, ltb-false, lt-ltb, le-ltb}
use Rattle.reading.specs.Search.{given, count}
use Rattle.reading.specs.Words.{word_at}
use Rattle.reading.specs.Settings.{Settings, settings_of, in_edition, bad_setting}
use Rattle.reading.specs.Capture.{settings_start, events_start, capture_size, most_events, newest_edition, header_word, count_in, event_count, edition_in, setting_words, event_bytes, event_at, events_of, length_fits, length_fits_to, header_fits, header_fits_to, pin_limit, last_cycle, event_fits, bad_event}
use Rattle.reading.specs.Verdict.{Verdict, verdict_of, judged_of}
use Rattle.reading.specs.Answers.{Answer, Report, answered, unless, accepted, accepted_to, settings_in, verdict_in, judge_answer, judge_answer_to}
use Rattle.reading.specs.Blank.{above, OnlyAddressesDiffer}
use Rattle.words.proofs.Words.{word-take}
use Rattle.words.proofs.Counting.{same-counted, same-lowest}
use Rattle.settings.specs.Meaning.{held}
use Rattle.capture.specs.Calls.{Accepted}
use Rattle.capture.proofs.Accepted.{count-range, cycle-fits, cycle-rises, accepted-alike}
use Rattle.capture.proofs.Opened.{Opened, opens}
use Rattle.bridge.specs.Summary.{Timed}
use Rattle.alike.proofs.Pins.{alike-above}
use Rattle.alike.proofs.Walking.{Pairs, done, next, same-verdict}

-- ---- header and settings, of captures whose bytes before the events are the same

module _ (a b : List ℕ) (front : take (events_start (count_in a)) a ≡ take (events_start (count_in a)) b) where
  front-word : (at : ℕ) → at + 4 ≤ events_start (count_in a) → word_at a at ≡ word_at b at
  front-word at l =
      sym (word-take (events_start (count_in a)) a at l) ∙ ap (λ (x : List ℕ). word_at x at) front ∙ word-take (events_start (count_in a)) b at l

  pub same-header : (i : ℕ) → i < 6 → header_word a i ≡ header_word b i
  same-header i l = front-word (4 * i) (omega (arith, (count-range a).0))

  pub same_count : count_in a ≡ count_in b
  same_count = ap (λ (n : ℕ). cond (eqb n 16) 16 14) (same-header 1 (omega arith))

  pub same-words : setting_words a ≡ setting_words b
  unfolding setting_words
  same-words =
      same-counted (λ i. word_at a (settings_start + 4 * i)) (λ i. word_at b (settings_start + 4 * i)) (count_in a) (λ i l. front-word (settings_start + 4 * i) (omega arith))
      ∙ ap (λ (n : ℕ). map (λ i. word_at b (settings_start + 4 * i)) (count 0 n)) same_count

-- ---- whether pins are below a limit

below : (v w limit : ℕ) → (v < limit → w < limit) → (limit ≤ v → limit ≤ w) → ltb v limit ≡ ltb w limit
below v w limit f g = go (ltb v limit) refl
  where
    go : (x : Bool) → ltb v limit ≡ x → ltb v limit ≡ ltb w limit
    go true e = e ∙ sym (lt-ltb w limit (f (ltb-true v limit e)))
    go false e = e ∙ sym (le-ltb w limit (g (ltb-false v limit e)))

below-limit : (sleeps : Bool) (v w : ℕ) → above v ≡ above w → ltb v (cond sleeps (2 ^ 21) (2 ^ 20)) ≡ ltb w (cond sleeps (2 ^ 21) (2 ^ 20))
below-limit true v w a = below v w (2 ^ 21) (λ l. omega arith) (λ l. omega arith)
below-limit false v w a = below v w (2 ^ 20) (λ l. omega arith) (λ l. omega arith)

-- ---- two captures that differ only in addresses

module _ (a b : List ℕ) (k : OnlyAddressesDiffer a b) where
  pub same-events : event_count a ≡ event_count b
  same-events = same-header a b k.front 3 (omega arith)

  length-alike : length_fits a ≡ length_fits b
  unfolding length_fits_to
  length-alike =
      let n = same_count a b k.front in
      λ i.
      leb (capture_size (n i) 0) (k.size i)
      && leb (k.size i) (capture_size (n i) most_events)
      && eqb (same-header a b k.front 0 (omega arith) i) (k.size i)

  header-alike : header_fits a ≡ header_fits b
  unfolding header_fits_to
  header-alike =
      let n = same_count a b k.front in
      let word : (j : ℕ) → j < 6 → header_word a j ≡ header_word b j = same-header a b k.front in
      λ i.
      eqb (word 1 (omega arith) i) (n i)
      && eqb (word 2 (omega arith) i) settings_start
      && leb (word 3 (omega arith) i) most_events
      && eqb (word 4 (omega arith) i) (events_start (n i))
      && leb (word 5 (omega arith) i) newest_edition
      && eqb (word 0 (omega arith) i) (capture_size (n i) (word 3 (omega arith) i))

  event-alike : (i : ℕ) → i < event_count a → event_fits (pin_limit a) (event_bytes a) i ≡ event_fits (pin_limit a) (event_bytes b) i
  unfolding event_fits
  event-alike i l =
      let small = below-limit (eqb (header_word a 1) 16) _ _ (alike-above (settings_in a) _ _ (k.pins i l)) in
      let before = k.cycles (i - 1) (omega arith) in
      λ j. small j && (leb (k.cycles i l j) last_cycle && (eqb i 0 || ltb (before j) (k.cycles i l j)))

  events-alike : bad_event (pin_limit a) (event_bytes a) (event_count a) ≡ bad_event (pin_limit b) (event_bytes b) (event_count b)
  unfolding bad_event
  events-alike =
      same-lowest (λ i. not (event_fits (pin_limit a) (event_bytes a) i)) (λ i. not (event_fits (pin_limit a) (event_bytes b) i)) (event_count a)
      (λ i l. ap not (event-alike i l))
      ∙ (λ j. bad_event (cond (eqb (same-header a b k.front 1 (omega arith) j) 16) (2 ^ 21) (2 ^ 20)) (event_bytes b) (same-events j))

  pub same-accepted : {A : Type 0} (rest : Answer A) → accepted a rest ≡ accepted b rest
  unfolding accepted_to
  same-accepted rest =
      λ i.
      unless 1 (given 0 (not (length-alike i)))
      (unless 2 (given 0 (not (header-alike i)))
      (unless 3 (bad_setting (same-words a b k.front i)) (unless 4 (events-alike i) rest)))

  pub same-settings : settings_in a ≡ settings_in b
  same-settings i = in_edition (same-header a b k.front 5 (omega arith) i) (settings_of (same-words a b k.front i))

  -- ---- judged, where they are accepted

  module _ (open-to : Accepted a) where
    abbrev s : Settings
    s = settings_in a

    fit : Opened most_events a (held (edition_in a) (setting_words a)) (event_count a) (event_bytes a)
    fit = opens open-to refl refl refl

    wide : s.row_bits < 32
    wide = subst (λ (x : Settings). x.row_bits < 32) fit.settings-are (omega (arith, fit.rows))

    timed : (i : ℕ) → i < event_count a → Timed s (event_at (event_bytes a) i).cycle
    timed i l =
        record {
          early = omega (arith, cycle-fits (event_bytes a) i (fit.rise i l));
          ticks = subst (λ (x : Settings). 0 < x.t_refi) fit.settings-are fit.ticks;
        }

    rises : (i : ℕ) → suc i < event_count a → suc (event_at (event_bytes a) i).cycle ≤ (event_at (event_bytes a) (suc i)).cycle
    rises i l =
        let e : suc i - 1 ≡ i = omega arith in
        rw e at (cycle-rises (event_bytes a) (suc i) (fit.rise (suc i) l) (omega arith))

    -- n events from event i on
    pairs : (n i from : ℕ) → i + n ≤ event_count a → (0 < n → from ≤ (event_at (event_bytes a) i).cycle) →
        Pairs s wide from (map (event_at (event_bytes a)) (count i n)) (map (event_at (event_bytes b)) (count i n))
    pairs zero i from l f = done
    pairs (suc n) i from l f =
        let rest = pairs n (suc i) (suc (event_at (event_bytes a) i).cycle) (omega arith) (λ m. rises i (omega arith)) in
        let here : i < event_count a = omega arith in
        subst
        (λ (t : ℕ).
        Pairs s wide from (event_at (event_bytes a) i ∷ map (event_at (event_bytes a)) (count (suc i) n))
        (record { cycle = t; pins = (event_at (event_bytes b) i).pins } ∷ map (event_at (event_bytes b)) (count (suc i) n)))
        (k.cycles i here) (next (f (omega arith)) (timed i here) (k.pins i here) rest)

    verdict-alike : verdict_in a ≡ verdict_in b
    unfolding verdict_in events_of
    verdict-alike =
        same-verdict s wide (pairs (event_count a) 0 0 (omega arith) (λ m. omega arith))
        ∙ (λ i. verdict_of (same-settings i) (map (event_at (event_bytes b)) (count 0 (same-events i))))

  abbrev report : ℕ → Verdict → Answer Report
  report n v = answered (record { events = n; judged = judged_of n v; verdict = v })

  -- The judge's whole answer is the same: refusal and place, or verdict, rule, event, cycle and judged count.
  pub judged-alike : judge_answer a ≡ judge_answer b
  unfolding judge_answer_to
  judged-alike =
      accepted-alike most_events a _ _ (λ open-to. λ i. report (same-events i) (verdict-alike open-to i)) ∙ same-accepted (report (event_count b) (verdict_in b))
