-- What it means that a capture is accepted.
use Prim.Native.Nat.{ℕ, zero, suc, ◌+◌, ◌-◌, ◌*◌, ◌≤◌, ◌<◌}
use mathlib.Core.Bool.{Bool, true, false, cond, not, ◌&&◌, ◌||◌}
use mathlib.Core.List.{List}
use mathlib.Core.Logic.{◌⊎◌, inl, inr}
use mathlib.Core.Option.{none}
use mathlib.Core.Path.{◌≡◌, refl, sym, ap, ◌∙◌}
use native.Mathlib.Decide.{dec_lt}
use native.Mathlib.Omega.{arith}
use borrow.Author.Tests.{eqb-true, leb-true, ltb-true, not-false, ne_eqb}
use lib.ListN.{length, get_or, length-map}
use lib.Dec.{leb, ltb, eqb}
use Rattle.reading.specs.Search.{given, count}
use Rattle.reading.specs.Words.{word_at}
use Rattle.reading.specs.Settings.{settings_of, setting_fits, bad_setting}
use Rattle.reading.specs.Capture.{header_word, count_in, events_start, capture_size, most_events, newest_edition, event_count, edition_in, setting_words, event_bytes, event_at, length_fits_to, header_fits_to, last_cycle, pin_limit, cycle_fits, event_fits, bad_event}
use Rattle.reading.specs.Answers.{Answer, refused, answered, unless, settings_in, accepted, accepted_to}
use Rattle.reading.proofs.Laws.{both, not-given}
use Rattle.words.proofs.Search.{none_below}
use Rattle.settings.specs.Meaning.{held}
use Rattle.settings.proofs.Padded.{held-settings}
use Rattle.settings.proofs.Fitting.{in-range, each-in-range}
use Rattle.capture.specs.Calls.{opened_to, AcceptedTo, opened, Accepted}
use Rattle.capture.proofs.Outcome.{not-refused, passed, follow, follow-unless, follows-refused, follows-answered, follow-refused, follow-answered}

-- ---- whatever follows: refused alike, or answered by what follows

module _ {A : Type 0} (most : ℕ) (capture : List ℕ) (rest : Answer A) where
  pub followed : accepted_to most capture rest ≡ follow (opened_to most capture) rest
  unfolding accepted_to
  followed =
      let o1 = given 0 (not (length_fits_to most capture)) in
      let o2 = given 0 (not (header_fits_to most capture)) in
      let o3 = bad_setting (setting_words capture) in
      let o4 = bad_event (pin_limit capture) (event_bytes capture) (event_count capture) in
      let a4 : Answer (Unit {0}) = unless 4 o4 (answered tt) in
      let a3 : Answer (Unit {0}) = unless 3 o3 a4 in
      let a2 : Answer (Unit {0}) = unless 2 o2 a3 in
      ap (λ (x : Answer A). unless 1 o1 (unless 2 o2 (unless 3 o3 x))) (follow-unless 4 o4 (answered tt) rest)
      ∙ ap (λ (x : Answer A). unless 1 o1 (unless 2 o2 x)) (follow-unless 3 o3 a4 rest)
      ∙ ap (λ (x : Answer A). unless 1 o1 x) (follow-unless 2 o2 a3 rest)
      ∙ follow-unless 1 o1 a2 rest

  pub rest-to : AcceptedTo most capture → accepted_to most capture rest ≡ rest
  rest-to h = followed ∙ follows-answered rest h

  pub refused-to : {number place : ℕ} → opened_to most capture ≡ refused number place → accepted_to most capture rest ≡ refused number place
  refused-to h = followed ∙ follows-refused rest h

  -- and back
  pub refused-in : {number place : ℕ} → accepted_to most capture rest ≡ refused number place →
      (opened_to most capture ≡ refused number place) ⊎ (AcceptedTo most capture × (rest ≡ refused number place))
  refused-in e = follow-refused (opened_to most capture) rest (sym followed ∙ e)

  -- an answer is refused where opening is
  pub refused-only : {x : A} {number place : ℕ} → rest ≡ answered x → accepted_to most capture rest ≡ refused number place →
      opened_to most capture ≡ refused number place
  refused-only {x} {number} {place} is e = go (refused-in e)
    where
      go : (opened_to most capture ≡ refused number place) ⊎ (AcceptedTo most capture × (rest ≡ refused number place)) →
          opened_to most capture ≡ refused number place
      go (inl h) = h
      go (inr h) = not-refused (sym is ∙ h.1)

  pub answered-in : {x : A} → accepted_to most capture rest ≡ answered x → AcceptedTo most capture × (rest ≡ answered x)
  answered-in e = follow-answered (opened_to most capture) rest (sym followed ∙ e)

-- of captures
module _ {A : Type 0} (capture : List ℕ) (rest : Answer A) where
  pub accepted-rest : Accepted capture → accepted capture rest ≡ rest
  accepted-rest = rest-to most_events capture rest

  pub refused-rest : {number place : ℕ} → opened capture ≡ refused number place → accepted capture rest ≡ refused number place
  refused-rest = refused-to most_events capture rest

-- what follows is asked only where a capture is accepted
pub accepted-alike : {A : Type 0} (most : ℕ) (capture : List ℕ) (x y : Answer A) → (AcceptedTo most capture → x ≡ y) →
    accepted_to most capture x ≡ accepted_to most capture y
accepted-alike most capture x y same = go (opened_to most capture) refl
  where
    go : (o : Answer (Unit {0})) → opened_to most capture ≡ o → accepted_to most capture x ≡ accepted_to most capture y
    go (refused number place) h = refused-to most capture x h ∙ sym (refused-to most capture y h)
    go (answered tt) h = ap (accepted_to most capture) (same h)

-- ---- accepted: all fits

pub record Sized (most : ℕ) (capture : List ℕ) : Type 0 where
  pub stated : header_word capture 0 ≡ length capture
  pub size : length capture ≡ capture_size (count_in capture) (event_count capture)
  pub few : event_count capture ≤ most

pub record Sound (most : ℕ) (capture : List ℕ) : Type 0 where
  pub sized : Sized most capture
  pub header : header_fits_to most capture ≡ true
  pub fine : bad_setting (setting_words capture) ≡ none
  pub settings : (i : ℕ) → i < count_in capture → setting_fits i (get_or (setting_words capture) i 0) ≡ true
  pub events : (i : ℕ) → i < event_count capture → cycle_fits (event_bytes capture) i ≡ true
  pub pins : (i : ℕ) → i < event_count capture → (event_at (event_bytes capture) i).pins < pin_limit capture

third-and-last : (a b c d e f : Bool) → (a && b && c && d && e && f) ≡ true → (c ≡ true) × (f ≡ true)
third-and-last a b c d e f h =
    let five = both (a && b && c && d && e) f h in
    let four = both (a && b && c && d) e five.0 in
    let three = both (a && b && c) d four.0 in
    ((both (a && b) c three.0).1, five.1)

-- n numbers in a row
pub length-count : (from n : ℕ) → length (count from n) ≡ n
length-count from zero = refl
length-count from (suc n) = ap suc (length-count (suc from) n)

module _ (capture : List ℕ) where
  -- fourteen settings, or sixteen
  pub count-range : (14 ≤ count_in capture) × (count_in capture ≤ 16)
  count-range = go (eqb (header_word capture 1) 16)
    where
      go : (b : Bool) → (14 ≤ cond b 16 14) × (cond b 16 14 ≤ 16)
      go true = (omega arith, omega arith)
      go false = (omega arith, omega arith)

  abbrev least : ℕ
  least = capture_size (count_in capture) 0

  module _ (most : ℕ) where
    lengths : length_fits_to most capture ≡ true →
        (leb least (length capture) && leb (length capture) (capture_size (count_in capture) most) ≡ true)
        × (eqb (header_word capture 0) (length capture) ≡ true)
    unfolding length_fits_to
    lengths h = both (leb least (length capture) && leb (length capture) (capture_size (count_in capture) most)) _ h

    pub stated : length_fits_to most capture ≡ true → header_word capture 0 ≡ length capture
    stated h = eqb-true _ _ (lengths h).1

    pub long-enough : length_fits_to most capture ≡ true → events_start (count_in capture) ≤ length capture
    long-enough h =
        let l : least ≤ length capture =
        leb-true least (length capture) (both (leb least (length capture)) (leb (length capture) (capture_size (count_in capture) most)) (lengths h).0).0 in
        omega arith

    counts : header_fits_to most capture ≡ true →
        (leb (event_count capture) most ≡ true) × (eqb (header_word capture 0) (capture_size (count_in capture) (event_count capture)) ≡ true)
    unfolding header_fits_to
    counts h =
        third-and-last (eqb (header_word capture 1) (count_in capture)) (eqb (header_word capture 2) 24) _
        (eqb (header_word capture 4) (events_start (count_in capture))) (leb (edition_in capture) newest_edition) _ h

    pub sized : length_fits_to most capture ≡ true → header_fits_to most capture ≡ true → Sized most capture
    sized l h =
        record {
          stated = stated l;
          size = sym (stated l) ∙ eqb-true _ _ (counts h).1;
          few = leb-true _ _ (counts h).0;
        }

  pub words_count : length (setting_words capture) ≡ count_in capture
  unfolding setting_words
  words_count = length-map (count 0 (count_in capture)) (λ i. word_at capture (24 + 4 * i)) ∙ length-count 0 (count_in capture)

  -- the settings and the edition as they are held
  pub held_in : settings_of (held (edition_in capture) (setting_words capture)) ≡ settings_in capture
  held_in = held-settings (setting_words capture) (edition_in capture) (omega (arith, words_count, count-range.1))

  pub accepted-sound : {most : ℕ} → AcceptedTo most capture → Sound most capture
  unfolding accepted_to bad_event event_fits
  accepted-sound {most} h =
      let limit = pin_limit capture in
      let (one, after_one) = passed 1 (given 0 (not (length_fits_to most capture))) _ h in
      let (two, after_two) = passed 2 (given 0 (not (header_fits_to most capture))) _ after_one in
      let (three, after-three) = passed 3 (bad_setting (setting_words capture)) _ after_two in
      let (four, after-four) = passed 4 (bad_event limit (event_bytes capture) (event_count capture)) _ after-three in
      let ranges = each-in-range (setting_words capture) three in
      let fits : (i : ℕ) → i < event_count capture → event_fits limit (event_bytes capture) i ≡ true =
      λ i l. not-false _ (none_below (λ j. not (event_fits limit (event_bytes capture) j)) (event_count capture) four i l) in
      record {
        sized = sized most (not-false _ (not-given 0 _ one)) (not-false _ (not-given 0 _ two));
        header = not-false _ (not-given 0 _ two);
        fine = three;
        settings = λ i l. in-range (setting_words capture) (length (setting_words capture)) ranges i (omega (arith, words_count));
        events = λ i l. (both (ltb (event_at (event_bytes capture) i).pins limit) _ (fits i l)).1;
        pins = λ i l. ltb-true _ _ (both (ltb (event_at (event_bytes capture) i).pins limit) _ (fits i l)).0;
      }

-- ---- events that fit

module _ (bytes : List ℕ) (i : ℕ) (h : cycle_fits bytes i ≡ true) where
  fit : (leb (event_at bytes i).cycle last_cycle ≡ true) × ((eqb i 0 || ltb (event_at bytes (i - 1)).cycle (event_at bytes i).cycle) ≡ true)
  fit = both (leb (event_at bytes i).cycle last_cycle) _ h

  pub cycle-fits : (event_at bytes i).cycle ≤ last_cycle
  cycle-fits = leb-true _ _ fit.0

  pub cycle-rises : 0 < i → (event_at bytes (i - 1)).cycle < (event_at bytes i).cycle
  cycle-rises l =
      let first : eqb i 0 ≡ false = ne_eqb i 0 (omega arith) in
      ltb-true _ _ (rw first at fit.1)

-- cycles rise strictly
pub cycles-rise : (bytes : List ℕ) (n : ℕ) → ((i : ℕ) → i < n → cycle_fits bytes i ≡ true) →
    (i j : ℕ) → i < j → j < n → (event_at bytes i).cycle < (event_at bytes j).cycle
cycles-rise bytes n f i zero l m = absurd (omega arith)
cycles-rise bytes n f i (suc j) l m = go (dec_lt i j) (λ k. cycles-rise bytes n f i j k (omega arith))
  where
    next : (event_at bytes j).cycle < (event_at bytes (suc j)).cycle
    next = let e : suc j - 1 ≡ j = omega arith in rw e at (cycle-rises bytes (suc j) (f (suc j) m) (omega arith))

    go : Dec (i < j) → (i < j → (event_at bytes i).cycle < (event_at bytes j).cycle) → (event_at bytes i).cycle < (event_at bytes (suc j)).cycle
    go (yes k) ih = omega (arith, ih k, next)
    go (no k) ih = let e : i ≡ j = omega arith in rw e next
