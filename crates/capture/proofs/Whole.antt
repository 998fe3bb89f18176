-- Captures in words: what header, settings and events say is accepted and read back, and every accepted capture is what its
-- header, settings and events say.
use Prim.Native.Nat.{ℕ, zero, suc, ◌+◌, ◌-◌, ◌*◌, ◌/◌, ◌%◌, ◌^◌, ◌≤◌, ◌<◌}
use mathlib.Core.Bool.{Bool, true, false, cond, not, and-eq-true_iff}
use mathlib.Core.List.{List, [], ◌++◌, append-nil}
use mathlib.Core.Option.{none}
use mathlib.Core.Path.{◌≡◌, refl, sym, ap, ◌∙◌}
use native.Mathlib.Decide.{dec_lt}
use native.Mathlib.Nat.{zero-add}
use native.Mathlib.Omega.{arith}
use lib.Dec.{leb, eqb, eqb-suc-zero}
use lib.ListN.{length, get_or, drop, take, length-append, length-map, length-take, get_or-append}
use lib.Seq.{get_or-append-add, get_or-take}
use borrow.Author.Tests.{eqb-true, leb-true, le-leb, lt-ltb, eq-eqb}
use Rattle.reading.specs.Search.{count}
use Rattle.reading.specs.Words.{word_at, bytes_of}
use Rattle.reading.specs.Settings.{Limits, settings_count, sleeping_count, limits, settings_of, in_edition, bad_setting}
use Rattle.reading.specs.Capture.{Event, settings_start, events_start, capture_size, most_events, newest_edition, header_word, count_in, event_count, edition_in, setting_words, event_bytes, event_at, events_of}
use Rattle.reading.specs.Capture.{length_fits, length_fits_to, header_fits, header_fits_to, pin_limit, last_cycle, event_fits, bad_event}
use Rattle.reading.specs.Verdict.{verdict_of, judged_of}
use Rattle.reading.specs.Schedule.{event_words, header_of, capture_in}
use Rattle.reading.specs.Answers.{Answer, answered, settings_in, accepted, accepted_to, verdict_in, judge_answer, judge_answer_to}
use Rattle.reading.proofs.Meaning.{event_of}
use Rattle.words.proofs.Bytes.{Bytes, same-words, words-bytes}
use Rattle.words.proofs.Counting.{at_count, counted}
use Rattle.words.proofs.Events.{words-length, cycle-word, pins-word}
use Rattle.words.proofs.Search.{nothing-below, every-at}
use Rattle.words.proofs.Words.{bytes_of-length, word-drop, word_fits, word-of-bytes}
use Rattle.settings.proofs.Fitting.{row_at, at_most, in-range, each-in-range}
use Rattle.capture.proofs.Accepted.{Sound, length-count, words_count, accepted-sound, cycle-fits, cycle-rises}

-- ---- what a capture can be made of

-- how many settings a header that names n of them has, and the limit of its pin words
abbrev pub count_for : ℕ → ℕ
count_for n = cond (eqb n sleeping_count) sleeping_count settings_count

abbrev pub limit_for : ℕ → ℕ
limit_for n = cond (eqb n sleeping_count) (2 ^ 21) (2 ^ 20)

few-settings : (n : ℕ) → count_for n ≤ 16
few-settings n = go (eqb n sleeping_count)
  where
    go : (b : Bool) → cond b 16 14 ≤ 16
    go true = omega arith
    go false = omega arith

pub low-limit : (n : ℕ) → limit_for n ≤ 2 ^ 21
low-limit n = go (eqb n sleeping_count)
  where
    go : (b : Bool) → cond b (2 ^ 21) (2 ^ 20) ≤ 2 ^ 21
    go true = omega arith
    go false = omega arith

-- events that may stand in a capture
pub record Orderly (limit : ℕ) (es : List Event) : Type 0 where
  pub few : length es ≤ most_events
  pub rise : (i : ℕ) → suc i < length es → (event_of es i).cycle < (event_of es (suc i)).cycle
  pub low : (i : ℕ) → i < length es → (event_of es i).pins < limit
  pub early : (i : ℕ) → i < length es → (event_of es i).cycle ≤ last_cycle

-- settings, fourteen or sixteen, an edition that there is, and such events
pub record Whole (edition : ℕ) (ws : List ℕ) (es : List Event) : Type 0 where
  pub known : edition ≤ newest_edition
  pub all : count_for (length ws) ≡ length ws
  pub right : bad_setting ws ≡ none
  pub orderly : Orderly (limit_for (length ws)) es

-- the first of these events
pub first-orderly : {limit : ℕ} (k : ℕ) (es : List Event) → k ≤ length es → Orderly limit es → Orderly limit (take k es)
first-orderly {limit} k es l o =
    record {
      few = omega (arith, size, o.few);
      rise = λ i m. let n : suc i < k = omega (arith, size) in rw (same (suc i) n, same i (omega arith)) (o.rise i (omega arith));
      low = λ i m. let n : i < k = omega (arith, size) in rw (same i n) (o.low i (omega arith));
      early = λ i m. let n : i < k = omega (arith, size) in rw (same i n) (o.early i (omega arith));
    }
  where
    size : length (take k es) ≡ k
    size = simp length-take (omega arith)

    same : (i : ℕ) → i < k → event_of (take k es) i ≡ event_of es i
    same i m = get_or-take k es i (record { cycle = 0; pins = 0 }) m

-- ---- its words

module _ (edition : ℕ) (ws : List ℕ) (es : List Event) where
  abbrev words : List ℕ
  words = header_of edition (length ws) (length es) ++ ws ++ event_words es

  words_size : length words ≡ 6 + length ws + 2 * length es
  words_size =
      let h = header_of edition (length ws) (length es) in
      omega (arith, length-append (h ++ ws) (event_words es), length-append h ws, words-length es)

  pub size : length (capture_in edition ws es) ≡ capture_size (length ws) (length es)
  unfolding capture_in
  size = omega (arith, bytes_of-length words, words_size)

  word : (i : ℕ) → i < length words → get_or words i 0 < 2 ^ 32 → word_at (capture_in edition ws es) (4 * i) ≡ get_or words i 0
  unfolding capture_in
  word i l k = ap (λ (x : List ℕ). word_at x (4 * i)) (sym (append-nil (bytes_of words))) ∙ word-of-bytes words [] i l k

  head : (i : ℕ) → i < 6 → get_or words i 0 < 2 ^ 32 → header_word (capture_in edition ws es) i ≡ get_or words i 0
  head i l k = word i (omega (arith, words_size)) k

  at-setting : (i : ℕ) → i < length ws → get_or words (6 + i) 0 ≡ get_or ws i 0
  at-setting i l =
      get_or-append-add (header_of edition (length ws) (length es)) (ws ++ event_words es) i 0 ∙ get_or-append ws (event_words es) 0 i l

  at-event : (j : ℕ) → get_or words (6 + length ws + j) 0 ≡ get_or (event_words es) j 0
  at-event j =
      let h = header_of edition (length ws) (length es) in
      let n : 6 + length ws ≡ length (h ++ ws) = omega (arith, length-append h ws) in
      ap (λ (x : ℕ). get_or words (x + j) 0) n ∙ get_or-append-add (h ++ ws) (event_words es) j 0

-- ---- read back

module _ {edition : ℕ} {ws : List ℕ} {es : List Event} (x : Whole edition ws es) where
  abbrev C : List ℕ
  C = capture_in edition ws es

  few : length ws ≤ 16
  few = omega (arith, x.all, few-settings (length ws))

  said : header_word C 1 ≡ length ws
  said = head edition ws es 1 (omega arith) (omega (arith, few))

  pub held : count_in C ≡ length ws
  held = ap count_for said ∙ x.all

  pub limited : pin_limit C ≡ limit_for (length ws)
  limited = ap limit_for said

  pub counts : event_count C ≡ length es
  counts = head edition ws es 3 (omega arith) (omega (arith, x.orderly.few))

  pub named : edition_in C ≡ edition
  named = head edition ws es 5 (omega arith) (omega (arith, x.known))

  -- settings
  small : (i : ℕ) → i < length ws → get_or ws i 0 < 2 ^ 32
  small i l =
      let fits = in-range ws (length ws) (each-in-range ws x.right) i l in
      let most : leb (row_at i).most 1000000 ≡ true = every-at (λ (r : Limits). leb r.most 1000000) _ refl limits refl i in
      omega (arith, at_most i (get_or ws i 0) fits, leb-true (row_at i).most 1000000 most)

  setting-word : (i : ℕ) → i < length ws → word_at C (settings_start + 4 * i) ≡ get_or ws i 0
  setting-word i l =
      let k : settings_start + 4 * i ≡ 4 * (6 + i) = omega arith in
      let e = at-setting edition ws es i l in
      ap (word_at C) k ∙ word edition ws es (6 + i) (omega (arith, words_size edition ws es)) (rw e (small i l)) ∙ e

  pub settings-back : setting_words C ≡ ws
  unfolding setting_words
  settings-back = rw held (counted (λ i. word_at C (settings_start + 4 * i)) 0 ws setting-word)

  -- events
  event-word : (j v : ℕ) → get_or (event_words es) j 0 ≡ v → j < 2 * length es → v < 2 ^ 32 → word_at (event_bytes C) (4 * j) ≡ v
  event-word j v e l k =
      let m : events_start (length ws) + 4 * j ≡ 4 * (6 + length ws + j) = omega arith in
      let f : get_or (words edition ws es) (6 + length ws + j) 0 ≡ v = at-event edition ws es j ∙ e in
      ap (λ (n : ℕ). word_at (drop (events_start n) C) (4 * j)) held
      ∙ word-drop (events_start (length ws)) C (4 * j)
      ∙ ap (word_at C) m
      ∙ word edition ws es (6 + length ws + j) (omega (arith, words_size edition ws es)) (rw f k)
      ∙ f

  cycle-back : (i : ℕ) → i < length es → (event_at (event_bytes C) i).cycle ≡ (event_of es i).cycle
  cycle-back i l =
      let m : 8 * i ≡ 4 * (2 * i) = omega arith in
      ap (word_at (event_bytes C)) m ∙ event-word (2 * i) (event_of es i).cycle (cycle-word es i) (omega arith) (omega (arith, x.orderly.early i l))

  pins-back : (i : ℕ) → i < length es → (event_at (event_bytes C) i).pins ≡ (event_of es i).pins
  pins-back i l =
      let m : 8 * i + 4 ≡ 4 * (2 * i + 1) = omega arith in
      let k : (event_of es i).pins < 2 ^ 32 = omega (arith, x.orderly.low i l, low-limit (length ws)) in
      ap (word_at (event_bytes C)) m ∙ event-word (2 * i + 1) (event_of es i).pins (pins-word es i) (omega arith) k

  pub events-back : events_of C ≡ es
  unfolding events_of
  events-back =
      rw counts
      (counted (event_at (event_bytes C)) (record { cycle = 0; pins = 0 }) es
      (λ i l u. record { cycle = cycle-back i l u; pins = pins-back i l u }))

  -- ---- accepted

  abbrev limit : ℕ
  limit = limit_for (length ws)

  event-fits : (i : ℕ) → i < length es → event_fits limit (event_bytes C) i ≡ true
  unfolding event_fits
  event-fits zero l =
      rw (
        pins-back 0 l,
        cycle-back 0 l,
        lt-ltb (event_of es 0).pins limit (x.orderly.low 0 l),
        le-leb (event_of es 0).cycle last_cycle (x.orderly.early 0 l),
      )
  event-fits (suc i) l =
      let k : suc i - 1 ≡ i = omega arith in
      rw (
        k,
        eqb-suc-zero i,
        pins-back (suc i) l,
        cycle-back (suc i) l,
        cycle-back i (omega arith),
        lt-ltb (event_of es (suc i)).pins limit (x.orderly.low (suc i) l),
        le-leb (event_of es (suc i)).cycle last_cycle (x.orderly.early (suc i) l),
        lt-ltb (event_of es i).cycle (event_of es (suc i)).cycle (x.orderly.rise i l),
      )

  total : header_word C 0 ≡ capture_size (length ws) (length es)
  total = head edition ws es 0 (omega arith) (omega (arith, few, x.orderly.few))

  right-length : length_fits C ≡ true
  unfolding length_fits_to
  right-length =
      let all = capture_size (length ws) (length es) in
      rw (
        held,
        total,
        size edition ws es,
        le-leb (capture_size (length ws) 0) all (omega arith),
        le-leb all (capture_size (length ws) most_events) (omega (arith, x.orderly.few)),
        eq-eqb all all refl,
      )

  right-header : header_fits C ≡ true
  unfolding header_fits_to
  right-header =
      let all = capture_size (length ws) (length es) in
      rw (
        held,
        said,
        head edition ws es 2 (omega arith) (omega arith),
        counts,
        head edition ws es 4 (omega arith) (omega (arith, few)),
        named,
        total,
        eq-eqb (length ws) (length ws) refl,
        le-leb (length es) most_events x.orderly.few,
        eq-eqb (events_start (length ws)) (events_start (length ws)) refl,
        le-leb edition newest_edition x.known,
        eq-eqb all all refl,
      )

  right-events : bad_event limit (event_bytes C) (event_count C) ≡ none
  unfolding bad_event
  right-events = rw counts (nothing-below (λ i. not (event_fits limit (event_bytes C) i)) (length es) (λ i l. ap not (event-fits i l)))

  pub captured : {A : Type 0} (rest : Answer A) → accepted C rest ≡ rest
  unfolding accepted_to
  captured rest = rw (right-length, right-header, settings-back, x.right, limited, right-events)

  pub captured-settings : settings_in C ≡ in_edition edition (settings_of ws)
  captured-settings i = in_edition (named i) (settings_of (settings-back i))

  pub captured-verdict : verdict_in C ≡ verdict_of (in_edition edition (settings_of ws)) es
  unfolding verdict_in
  captured-verdict = rw (captured-settings, events-back)

  pub captured-judged : judge_answer C ≡
      answered
      (record {
        events = length es;
        judged = judged_of (length es) (verdict_of (in_edition edition (settings_of ws)) es);
        verdict = verdict_of (in_edition edition (settings_of ws)) es;
      })
  unfolding judge_answer_to
  captured-judged =
      captured _
      ∙ (λ i. answered (record { events = counts i; judged = judged_of (counts i) (captured-verdict i); verdict = captured-verdict i }))

-- ---- an accepted capture

record Said (c : List ℕ) : Type 0 where
  total : header_word c 0 ≡ capture_size (count_in c) (event_count c)
  settings : header_word c 1 ≡ count_in c
  start : header_word c 2 ≡ settings_start
  few : event_count c ≤ most_events
  events : header_word c 4 ≡ events_start (count_in c)
  edition : edition_in c ≤ newest_edition

header-said : (c : List ℕ) → header_fits c ≡ true → Said c
unfolding header_fits_to
header-said c h =
    let (abcde, f) = (and-eq-true_iff _ _).0 h in
    let (abcd, e) = (and-eq-true_iff _ _).0 abcde in
    let (abc, d) = (and-eq-true_iff _ _).0 abcd in
    let (ab, c') = (and-eq-true_iff _ _).0 abc in
    let (a, b) = (and-eq-true_iff _ _).0 ab in
    record {
      total = eqb-true _ _ f;
      settings = eqb-true _ _ a;
      start = eqb-true _ _ b;
      few = leb-true _ _ c';
      events = eqb-true _ _ d;
      edition = leb-true _ _ e;
    }

module _ (c : List ℕ) (open-to : accepted c (answered (tt {0})) ≡ answered tt) where
  sound : Sound most_events c
  sound = accepted-sound c open-to

  said-so : Said c
  said-so = header-said c sound.header

  pub events-count : length (events_of c) ≡ event_count c
  unfolding events_of
  events-count = length-map (count 0 (event_count c)) (event_at (event_bytes c)) ∙ length-count 0 (event_count c)

  event-is : (i : ℕ) → i < event_count c → event_of (events_of c) i ≡ event_at (event_bytes c) i
  unfolding events_of
  event-is i l = at_count (event_at (event_bytes c)) _ 0 (event_count c) i l ∙ ap (event_at (event_bytes c)) (zero-add i)

  same-limit : pin_limit c ≡ limit_for (length (setting_words c))
  same-limit = ap limit_for (said-so.settings ∙ sym (words_count c))

  -- its events may stand in a capture of its settings and edition
  pub accepted-whole : Whole (edition_in c) (setting_words c) (events_of c)
  accepted-whole =
      record {
        known = said-so.edition;
        all = ap count_for (words_count c ∙ sym said-so.settings) ∙ sym (words_count c);
        right = sound.fine;
        orderly =
            record {
              few = omega (arith, events-count, said-so.few);
              rise = λ i l. rising i (omega (arith, events-count));
              low = λ i l.
                  let m : i < event_count c = omega (arith, events-count) in
                  rw (event-is i m, ← same-limit) (sound.pins i m);
              early = λ i l.
                  let m : i < event_count c = omega (arith, events-count) in
                  rw (event-is i m) (cycle-fits (event_bytes c) i (sound.events i m));
            };
      }
    where
      rising : (i : ℕ) → suc i < event_count c → (event_of (events_of c) i).cycle < (event_of (events_of c) (suc i)).cycle
      rising i l =
          let e : suc i - 1 ≡ i = omega arith in
          rw (event-is i (omega arith), event-is (suc i) l) (rw e at (cycle-rises (event_bytes c) (suc i) (sound.events (suc i) l) (omega arith)))

  -- ---- and is what they say, where it is bytes

  module _ (bytes : Bytes c) where
    abbrev W : List ℕ
    W = words (edition_in c) (setting_words c) (events_of c)

    head-is : (i : ℕ) → i < 6 → get_or W i 0 ≡ header_word c i
    head-is zero l =
        ap (λ (n : ℕ). capture_size n (length (events_of c))) (words_count c) ∙ ap (capture_size (count_in c)) events-count ∙ sym said-so.total
    head-is (suc zero) l = words_count c ∙ sym said-so.settings
    head-is (suc (suc zero)) l = sym said-so.start
    head-is (suc (suc (suc zero))) l = events-count
    head-is (suc (suc (suc (suc zero)))) l = ap events_start (words_count c) ∙ sym said-so.events
    head-is (suc (suc (suc (suc (suc zero))))) l = refl
    head-is (suc (suc (suc (suc (suc (suc i)))))) l = absurd (omega arith)

    setting-is : (i : ℕ) → i < count_in c → get_or W (6 + i) 0 ≡ word_at c (settings_start + 4 * i)
    unfolding setting_words
    setting-is i l =
        at-setting (edition_in c) (setting_words c) (events_of c) i (omega (arith, words_count c))
        ∙ at_count (λ j. word_at c (settings_start + 4 * j)) 0 0 (count_in c) i l
        ∙ ap (λ (j : ℕ). word_at c (settings_start + 4 * j)) (zero-add i)

    event-word-is : (i j : ℕ) → i < event_count c → j < 2 → get_or (event_words (events_of c)) (2 * i + j) 0 ≡ word_at (event_bytes c) (4 * (2 * i + j))
    event-word-is i zero l k =
        let e : 2 * i + 0 ≡ 2 * i = omega arith in
        let f : 4 * (2 * i + 0) ≡ 8 * i = omega arith in
        ap (λ (n : ℕ). get_or (event_words (events_of c)) n 0) e ∙ cycle-word (events_of c) i ∙ ap (λ (x : Event). x.cycle) (event-is i l)
        ∙ ap (word_at (event_bytes c)) (sym f)
    event-word-is i (suc zero) l k =
        let f : 4 * (2 * i + 1) ≡ 8 * i + 4 = omega arith in
        pins-word (events_of c) i ∙ ap (λ (x : Event). x.pins) (event-is i l) ∙ ap (word_at (event_bytes c)) (sym f)
    event-word-is i (suc (suc j)) l k = absurd (omega arith)

    behind-is : (j : ℕ) → j < 2 * event_count c → get_or W (6 + count_in c + j) 0 ≡ word_at c (4 * (6 + count_in c + j))
    behind-is j l =
        let e : 2 * (j / 2) + j % 2 ≡ j = omega arith in
        let f : events_start (count_in c) + 4 * j ≡ 4 * (6 + count_in c + j) = omega arith in
        let g = event-word-is (j / 2) (j % 2) (omega arith) (omega arith) in
        ap (λ (n : ℕ). get_or W (6 + n + j) 0) (sym (words_count c))
        ∙ at-event (edition_in c) (setting_words c) (events_of c) j
        ∙ rw e at g
        ∙ word-drop (events_start (count_in c)) c (4 * j)
        ∙ ap (word_at c) f

    word-is : (i : ℕ) → i < 6 + count_in c + 2 * event_count c → get_or W i 0 ≡ word_at c (4 * i)
    word-is i l = go (dec_lt i 6) (dec_lt i (6 + count_in c))
      where
        go : Dec (i < 6) → Dec (i < 6 + count_in c) → get_or W i 0 ≡ word_at c (4 * i)
        go (yes k) d = head-is i k
        go (no k) (yes m) =
            let e : 6 + (i - 6) ≡ i = omega arith in
            let f : settings_start + 4 * (i - 6) ≡ 4 * i = omega arith in
            sym (ap (λ (n : ℕ). get_or W n 0) e) ∙ setting-is (i - 6) (omega arith) ∙ ap (word_at c) f
        go (no k) (no m) =
            let e : 6 + count_in c + (i - (6 + count_in c)) ≡ i = omega arith in
            rw e at (behind-is (i - (6 + count_in c)) (omega arith))

    written-bytes : Bytes (capture_in (edition_in c) (setting_words c) (events_of c))
    unfolding capture_in
    written-bytes = words-bytes W

    pub whole_again : capture_in (edition_in c) (setting_words c) (events_of c) ≡ c
    whole_again =
        same-words (capture_in (edition_in c) (setting_words c) (events_of c)) c (6 + count_in c + 2 * event_count c) written-bytes bytes
        (size (edition_in c) (setting_words c) (events_of c) ∙ omega (arith, words_count c, events-count))
        (omega (arith, sound.sized.size))
        (λ i l.
        let same = word-is i l in
        word (edition_in c) (setting_words c) (events_of c) i
        (omega (arith, words_size (edition_in c) (setting_words c) (events_of c), words_count c, events-count))
        (rw same (word_fits c (4 * i) bytes))
        ∙ same)
