-- From a capture's bytes to the answer and the buffers.
use Prim.Native.Nat.{ℕ, zero, suc, ◌+◌, ◌*◌, ◌/◌, ◌≤◌, ◌<◌}
use mathlib.Core.Bool.{Bool, true, false, cond, not}
use mathlib.Core.List.{List, [], ◌∷◌, ◌++◌, map}
use mathlib.Core.Option
use mathlib.Core.Option.{Option, none, some}
use mathlib.Core.Path.{◌≡◌, refl, sym, ap, ◌∙◌, subst}
use native.Mathlib.Nat.{zero-add}
use native.Mathlib.Omega.{arith}
use borrow.Author.Tests.{lt-ltb, le-ltb}
use lib.Dec.{ltb}
use lib.ListN.{length, take, drop, get_or, length-append}
use lib.Seq.{sets}
use Rattle.reading.specs.Search.{count, given}
use Rattle.reading.specs.Settings.{Settings, settings_of, setting_fits}
use Rattle.reading.specs.Capture.{Event, most_events, setting_words, events_of}
use Rattle.reading.specs.Bursts.{Burst, beat_cell}
use Rattle.reading.specs.Cells.{bursts_of}
use Rattle.reading.specs.Mode.{BL}
use Rattle.reading.specs.Memory.{Run, load, store_beats, play, replay_bursts, replay}
use Rattle.reading.specs.Answers.{Answer, refused, answered, unless, accepted, Report, settings_in, verdict_in, judge_answer, not_clean}
use Rattle.reading.specs.Player.{window_fits, data_of, unplayable, event_of_burst, played_on, playing, PlayOutcome, plays, play_outcome}
use Rattle.words.proofs.Runs.{front}
use Rattle.settings.proofs.Fitting.{at_least, at_most}
use Rattle.capture.proofs.Outcome.{not-answered, not-refused}
use Rattle.capture.proofs.Accepted.{accepted-rest, accepted-sound, count-range, refused-to}
use Rattle.capture.proofs.Opened.{Opened}
use Rattle.judge.specs.Meaning.{events_in}
use Rattle.cells.proofs.Listing.{judged-refused, judged-accepted, judged-verdict}
use Rattle.player.specs.Playing.{lanes_by, words_read, Coded, tried}
use Rattle.player.proofs.Window.{length-counted, data-length}

-- a call answers so, and leaves this in the lent window and in the words read
abbrev pub Ends : Answer ℕ → List ℕ → List ℕ → PlayOutcome → Type 0
Ends answer window reads o = (answer ≡ o.answer) × ((window ≡ o.window) × (reads ≡ o.reads))

-- ---- the words that are read

returned-by : (s : Settings) (x : Burst) (r : Run) → length (play s (2 * x.n) x r).returned ≡ length r.returned + cond (not x.writes) (2 * x.n) 0
unfolding play
returned-by s x r = go x.writes
  where
    words : List ℕ
    words = map (λ j. load s r.contents (beat_cell s x j)) (count 0 (2 * x.n))

    wrote : Run
    wrote =
        record {
          contents = store_beats s x 0 (take (2 * x.n) (take (BL x.mode) r.supply)) r.contents;
          supply = drop (BL x.mode) r.supply;
          returned = r.returned;
        }

    go : (v : Bool) → length (cond v wrote (record { contents = r.contents; supply = r.supply; returned = r.returned ++ words })).returned
        ≡ length r.returned + cond (not v) (2 * x.n) 0
    go true = omega arith
    go false = omega (arith, length-append r.returned words, length-counted (λ j. load s r.contents (beat_cell s x j)) 0 (2 * x.n))

pub returned-length : (s : Settings) (xs : List Burst) (r : Run) → length (replay_bursts s xs r).returned ≡ length r.returned + words_read xs
unfolding replay_bursts
returned-length s [] r = omega arith
returned-length s (x ∷ xs) r = omega (arith, returned-length s xs (play s (2 * x.n) x r), returned-by s x r)

-- ---- refusals 15 and 7

tried-refused : {A : Type 0} (q : Option ℕ) (k : ℕ) {number place : ℕ} (rest : Answer A) → unless 15 q (answered k) ≡ refused number place →
    unless 15 q rest ≡ refused number place
tried-refused none k rest e = not-refused e
tried-refused (some p) k rest e = cc

tried-fine : (q : Option ℕ) (k : ℕ) {read : ℕ} → unless 15 q (answered k) ≡ answered read → (q ≡ none) × (read ≡ k)
tried-fine none k e = (refl, cc)
tried-fine (some p) k e = not-answered e

none-mapped : (f : Burst → ℕ) (q : Option Burst) → Option.map f q ≡ none → q ≡ none
none-mapped f none e = refl
none-mapped f (some x) e = let zero_one : ◌≡◌ {A = ℕ} 0 1 = cc in absurd (omega arith)

module _ (s : Settings) (es : List Event) (first : ℕ) (window writes reads : List ℕ) where
  abbrev r : Run
  r = played_on s es first window writes

  abbrev answer : Answer Run
  answer = playing s es first window writes (length reads)

  abbrev outcome : PlayOutcome
  outcome = plays first window reads answer

  abbrev bad : Option ℕ
  bad = Option.map (event_of_burst es) (unplayable s first (length window) (length (data_of writes)) (bursts_of s es))

  abbrev short : Answer Run
  short = unless 7 (given (length r.returned) (ltb (length reads) (length r.returned))) (answered r)

  returned-so : length r.returned ≡ words_read (bursts_of s es)
  unfolding played_on replay
  returned-so = returned-length s (bursts_of s es) _ ∙ zero-add (words_read (bursts_of s es))

  refused-ends : {number place : ℕ} → answer ≡ refused number place → Ends (refused number place) window reads outcome
  refused-ends e =
      let o = ap (plays first window reads) (sym e) in
      (ap (λ (p : PlayOutcome). p.answer) o, (ap (λ (p : PlayOutcome). p.window) o, ap (λ (p : PlayOutcome). p.reads) o))

  pub unfit : {v : Bool} → v ≡ window_fits s first (length window) → v ≡ false → Ends (refused 15 0) window reads outcome
  unfolding playing
  unfit f e = refused-ends (ap (λ (w : Bool). unless 15 (given 0 (not w)) (unless 15 bad short)) (sym f ∙ e))

  module _ {v : Bool} (f : v ≡ window_fits s first (length window)) (e : v ≡ true) where
    fits : answer ≡ unless 15 bad short
    unfolding playing
    fits = ap (λ (w : Bool). unless 15 (given 0 (not w)) (unless 15 bad short)) (sym f ∙ e)

    module _ {t : Answer ℕ} (said : t ≡ tried s es first (length window) (length writes / 2) 0 (bursts_of s es)) where
      said-so : t ≡ unless 15 bad (answered (words_read (bursts_of s es)))
      unfolding tried
      said-so =
          said
          ∙ (λ u.
          unless 15 (Option.map (event_of_burst es) (unplayable s first (length window) (sym (data-length writes) u) (bursts_of s es)))
          (answered (zero-add (words_read (bursts_of s es)) u)))

      pub unplayed : {number place : ℕ} → t ≡ refused number place → Ends (refused number place) window reads outcome
      unplayed g = refused-ends (fits ∙ tried-refused bad (words_read (bursts_of s es)) short (sym said-so ∙ g))

      module _ {read : ℕ} (g : t ≡ answered read) where
        fine : (bad ≡ none) × (read ≡ words_read (bursts_of s es))
        fine = tried-fine bad (words_read (bursts_of s es)) (sym said-so ∙ g)

        pub all-playable : unplayable s first (length window) (length (data_of writes)) (bursts_of s es) ≡ none
        all-playable = none-mapped (event_of_burst es) (unplayable s first (length window) (length (data_of writes)) (bursts_of s es)) fine.0

        pub read-so : read ≡ words_read (bursts_of s es)
        read-so = fine.1

        read_is : read ≡ length r.returned
        read_is = fine.1 ∙ sym returned-so

        short-so : answer ≡ short
        short-so = fits ∙ ap (λ (q : Option ℕ). unless 15 q short) fine.0

        pub no_room : length reads < read → Ends (refused 7 read) window reads outcome
        no_room l =
            refused-ends
            (short-so
            ∙ ap (λ (w : Bool). unless 7 (given (length r.returned) w) (answered r)) (lt-ltb (length reads) (length r.returned) (omega (arith, l, read_is)))
            ∙ ap (refused 7) (sym read_is))

        pub played-ends : read ≤ length reads → {window' reads' : List ℕ} → window' ≡ map r.contents (count first (length window)) →
            reads' ≡ sets reads 0 r.returned → Ends (answered read) window' reads' outcome
        played-ends l ew er =
            let room : answer ≡ answered r =
            short-so
            ∙ ap (λ (w : Bool). unless 7 (given (length r.returned) w) (answered r)) (le-ltb (length reads) (length r.returned) (omega (arith, l, read_is))) in
            let o = ap (plays first window reads) (sym room) in (
              ap answered read_is ∙ ap (λ (p : PlayOutcome). p.answer) o,
              (
                ew ∙ ap (λ (p : PlayOutcome). p.window) o,
                er ∙ front r.returned reads (omega (arith, l, read_is)) ∙ ap (λ (p : PlayOutcome). p.reads) o,
              ),
            )

-- ---- the capture: refusals 1 to 4 and 8

module _ (c : List ℕ) (first : ℕ) (window writes reads : List ℕ) where
  by-answer : {number place : ℕ} → accepted c (unless 8 (not_clean (verdict_in c)) (playing (settings_in c) (events_of c) first window writes (length reads))) ≡ refused number place →
      Ends (refused number place) window reads (play_outcome c first window writes reads)
  unfolding play_outcome
  by-answer e =
      let same = ap (plays first window reads) (sym e) in
      (ap (λ (p : PlayOutcome). p.answer) same, (ap (λ (p : PlayOutcome). p.window) same, ap (λ (p : PlayOutcome). p.reads) same))

  pub refused-play : {number place : ℕ} → refused number place ≡ judge_answer c →
      Ends (refused number place) window reads (play_outcome c first window writes reads)
  refused-play said = by-answer (refused-to most_events c _ (judged-refused c said))

  pub broken-play : {r : Report} → answered r ≡ judge_answer c → {place : ℕ} → not_clean r.verdict ≡ some place →
      Ends (refused 8 place) window reads (play_outcome c first window writes reads)
  broken-play said e =
      by-answer
      (accepted-rest c _ (judged-accepted c said)
      ∙ ap (λ (q : Option ℕ). unless 8 q (playing (settings_in c) (events_of c) first window writes (length reads)))
      (ap not_clean (judged-verdict c said) ∙ e))

module _ {c settings : List ℕ} {n : ℕ} {bytes : List ℕ} (x : Opened most_events c settings n bytes) where
  pub opened-coded : Coded (settings_of settings)
  opened-coded = coded
    where
      word : ℕ
      word = get_or (setting_words c) 0 0

      fits : setting_fits 0 word ≡ true
      fits = (accepted-sound c x.open-to).settings 0 (omega (arith, (count-range c).0))

      lane-is : (settings_of settings).lane ≡ word
      lane-is = ap (λ (s : Settings). s.lane) x.settings-are

      coded : lanes_by (settings_of settings).lane ≡ 2 * (settings_of settings).lane
      coded = go (settings_of settings).lane (omega (arith, lane-is, at_least 0 word fits)) (omega (arith, lane-is, at_most 0 word fits))
        where
          go : (l : ℕ) → 1 ≤ l → l ≤ 2 → lanes_by l ≡ 2 * l
          go zero a b = absurd (omega arith)
          go (suc zero) a b = refl
          go (suc (suc zero)) a b = refl
          go (suc (suc (suc l))) a b = absurd (omega arith)

  module _ (k : not_clean (verdict_in c) ≡ none) where
    pub played-so : (first : ℕ) (window writes reads : List ℕ) {a : Answer ℕ} {window' reads' : List ℕ} →
        Ends a window' reads' (plays first window reads (playing (settings_of settings) (events_in bytes n) first window writes (length reads))) →
        Ends a window' reads' (play_outcome c first window writes reads)
    unfolding play_outcome
    played-so first window writes reads {a} {window'} {reads'} m = subst (Ends a window' reads') same m
      where
        same : plays first window reads (playing (settings_of settings) (events_in bytes n) first window writes (length reads)) ≡
            play_outcome c first window writes reads
        same =
            (λ u. plays first window reads (playing (x.settings-are u) (x.events-are u) first window writes (length reads)))
            ∙ ap (plays first window reads) (sym (accepted-rest c _ x.open-to ∙ ap (λ (q : Option ℕ). unless 8 q (playing (settings_in c) (events_of c) first window writes (length reads))) k))
