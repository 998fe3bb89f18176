-- Demand 1: a capture is refused, by whatever call, exactly in the cases of specs/Captures.
use Prim.Native.Nat.{ℕ, zero, suc, ◌+◌, ◌-◌, ◌*◌, ◌≤◌, ◌<◌}
use mathlib.Core.Bool.{Bool, true, false, cond, not, ◌&&◌, ◌||◌}
use mathlib.Core.List.{List}
use mathlib.Core.Logic.{◌↔◌}
use mathlib.Core.Option.{Option, none, some}
use mathlib.Core.Path.{◌≡◌, refl, sym, ap, ◌∙◌}
use native.Mathlib.Decide.{dec_lt}
use native.Mathlib.Omega.{arith}
use borrow.Author.Tests.{eqb-true, eqb-false, leb-true, leb-false, ltb-true, ltb-false, eq-eqb, ne_eqb, lt-ltb, not-true, not-false}
use lib.Dec.{leb, ltb, eqb}
use lib.ListN.{length, get_or}
use Rattle.reading.specs.Search as search
use Rattle.reading.specs.Search.{given, find, lowest, implies, or_else}
use Rattle.reading.specs.Mode.{mode_word}
use Rattle.reading.specs.Settings.{settings_of, setting_fits, bad_setting}
use Rattle.reading.specs.Capture.{header_word, count_in, event_count, edition_in, setting_words, event_bytes, event_at, capture_size, events_start, most_events, newest_edition, length_fits_to, header_fits_to, pin_limit, last_cycle, event_fits, bad_event}
use Rattle.reading.specs.Answers.{Answer, refused, answered, unless, accepted_to}
use Rattle.words.proofs.Search.{none_below, nothing-below}
use Rattle.settings.proofs.Fitting.{row_at}
use Rattle.reading.proofs.Laws.{both}
use Rattle.capture.proofs.Accepted.{words_count}
use Rattle.capture.specs.Calls.{opened_to, AcceptedTo, opened, Accepted}
use Rattle.capture.proofs.Outcome.{not-answered}
use Rattle.demands.specs.Captures.{Lowest, least_bytes, BadLength, BadHeader, BadSetting, BadEvent, Limited, RefusedTo, CaptureRefused}
use Rattle.demands.specs.Captures as case

never : (b : Bool) → (b ≡ true → ⊥) → b ≡ false
never true f = absurd (f refl)
never false f = refl

always : (b : Bool) → (b ≡ false → ⊥) → b ≡ true
always true f = refl
always false f = absurd (f refl)

impossible : {A : Type 0} → ◌≡◌ {A = Bool} true false → A
impossible e = let z : ◌≡◌ {A = ℕ} 0 1 = cc in absurd (omega arith)

-- ---- the lowest

-- where a search from k on through n numbers finds i
record At (f : ℕ → Bool) (k n i : ℕ) : Type 0 where
  from : k ≤ i
  within : i < k + n
  holds : f i ≡ true
  before : (j : ℕ) → k ≤ j → j < i → f j ≡ false

found : (f : ℕ → Bool) (k n i : ℕ) → find f (search.count k n) ≡ some i → At f k n i
found f k zero i h = let z : ◌≡◌ {A = ℕ} 0 1 = cc in absurd (omega arith)
found f k (suc n) i h = go (f k) refl h (found f (suc k) n i)
  where
    later : f k ≡ false → At f (suc k) n i → (j : ℕ) → k ≤ j → j < i → Dec (k < j) → f j ≡ false
    later e y j l m (yes u) = y.before j u m
    later e y j l m (no u) = let z : j ≡ k = omega arith in ap f z ∙ e

    go : (b : Bool) → f k ≡ b → cond b (some k) (find f (search.count (suc k) n)) ≡ some i → (find f (search.count (suc k) n) ≡ some i → At f (suc k) n i) →
        At f k (suc n) i
    go true e v ih =
        let z : k ≡ i = cc in
        record { from = omega (arith, z); within = omega (arith, z); holds = sym (ap f z) ∙ e; before = λ j l m. absurd (omega (arith, z)) }
    go false e v ih =
        let y = ih v in
        record { from = omega (arith, y.from); within = omega (arith, y.within); holds = y.holds; before = λ j l m. later e y j l m (dec_lt k j) }

finds : (f : ℕ → Bool) (k n i : ℕ) → At f k n i → find f (search.count k n) ≡ some i
finds f k zero i y = absurd (omega (arith, y.from, y.within))
finds f k (suc n) i y =
    go (dec_lt k i)
    (λ l. finds f (suc k) n i (record { from = l; within = omega (arith, y.within); holds = y.holds; before = λ j u v. y.before j (omega arith) v }))
  where
    go : Dec (k < i) → (k < i → find f (search.count (suc k) n) ≡ some i) → cond (f k) (some k) (find f (search.count (suc k) n)) ≡ some i
    go (yes l) ih = rw (y.before k (omega arith) l) (ih l)
    go (no l) ih = let z : k ≡ i = omega (arith, y.from) in rw (z, y.holds)

-- what a search looks for is what is so
module _ (f : ℕ → Bool) (So : ℕ → Type 0) (is-so : (j : ℕ) → f j ≡ true → So j) (not_so : (j : ℕ) → f j ≡ false → So j → ⊥) (n : ℕ) where
  lowest-is : (i : ℕ) → lowest f n ≡ some i → Lowest So n i
  lowest-is i h =
      let y = found f 0 n i h in
      record { within = omega (arith, y.within); is-so = is-so i y.holds; none-lower = λ j l. not_so j (y.before j (omega arith) l) }

  is-lowest : (i : ℕ) → Lowest So n i → lowest f n ≡ some i
  is-lowest i y =
      finds f 0 n i
      (record {
        from = omega arith;
        within = omega (arith, y.within);
        holds = always (f i) (λ e. not_so i e y.is-so);
        before = λ j l m. never (f j) (λ e. y.none-lower j m (is-so j e));
      })

  none_is : lowest f n ≡ none → (j : ℕ) → j < n → So j → ⊥
  none_is h j l = not_so j (none_below f n h j l)

  is_none : ((j : ℕ) → j < n → So j → ⊥) → lowest f n ≡ none
  is_none g = nothing-below f n (λ j l. never (f j) (λ e. g j l (is-so j e)))

-- ---- 1: the length

six : (a b c d e f : Bool) → (a && b && c && d && e && f) ≡ true → (a ≡ true) × (b ≡ true) × (c ≡ true) × (d ≡ true) × (e ≡ true) × (f ≡ true)
six a b c d e f h =
    let five = both (a && b && c && d && e) f h in
    let four = both (a && b && c && d) e five.0 in
    let three = both (a && b && c) d four.0 in
    let two = both (a && b) c three.0 in
    let one = both a b two.0 in
    (one.0, one.1, two.1, three.1, four.1, five.1)

module _ (most : ℕ) (capture : List ℕ) where
  abbrev least : ℕ
  least = capture_size (count_in capture) 0

  abbrev longest : ℕ
  longest = capture_size (count_in capture) most

  least-is : capture_size (count_in capture) 0 ≡ least_bytes capture
  least-is = go (eqb (header_word capture 1) 16)
    where
      go : (b : Bool) → capture_size (cond b 16 14) 0 ≡ cond b 88 80
      go true = refl
      go false = refl

  start_is : events_start (count_in capture) ≡ least_bytes capture
  start_is = go (eqb (header_word capture 1) 16)
    where
      go : (b : Bool) → events_start (cond b 16 14) ≡ cond b 88 80
      go true = refl
      go false = refl

  longest-is : longest ≡ least_bytes capture + 8 * most
  longest-is = ap (λ (n : ℕ). n + 8 * most) start_is

  length-bad : length_fits_to most capture ≡ false → BadLength most capture
  unfolding length_fits_to
  length-bad =
      go (leb least (length capture)) refl (leb (length capture) longest) refl (eqb (header_word capture 0) (length capture)) refl
    where
      go : (a : Bool) → leb least (length capture) ≡ a → (b : Bool) → leb (length capture) longest ≡ b →
          (c : Bool) → eqb (header_word capture 0) (length capture) ≡ c → (a && b && c) ≡ false → BadLength most capture
      go false e b f c g h = case.short (omega (arith, leb-false least (length capture) e, least-is))
      go true e false f c g h = case.long (omega (arith, leb-false (length capture) longest f, longest-is))
      go true e true f false g h = case.not-as-stated (eqb-false _ _ g)
      go true e true f true g h = impossible h

  length-fits : length_fits_to most capture ≡ true → BadLength most capture → ⊥
  unfolding length_fits_to
  length-fits h =
      let z = both (leb least (length capture) && leb (length capture) longest) (eqb (header_word capture 0) (length capture)) h in
      let y = both (leb least (length capture)) (leb (length capture) longest) z.0 in
      go (leb-true least (length capture) y.0) (leb-true (length capture) longest y.1) (eqb-true _ _ z.1)
    where
      go : least ≤ length capture → length capture ≤ longest → header_word capture 0 ≡ length capture → BadLength most capture → ⊥
      go a b c (case.short l) = absurd (omega (arith, a, l, least-is))
      go a b c (case.long l) = absurd (omega (arith, b, l, longest-is))
      go a b c (case.not-as-stated f) = f c

  -- ---- 2: the header

  size_is : capture_size (count_in capture) (event_count capture) ≡ least_bytes capture + 8 * header_word capture 3
  size_is = ap (λ (n : ℕ). n + 8 * header_word capture 3) start_is

  -- the count word is one of the two
  counted : (eqb (header_word capture 1) (count_in capture) ≡ false → (header_word capture 1 ≡ 14 → ⊥) × (header_word capture 1 ≡ 16 → ⊥))
      × (eqb (header_word capture 1) (count_in capture) ≡ true → (header_word capture 1 ≡ 14 → ⊥) → (header_word capture 1 ≡ 16 → ⊥) → ⊥)
  counted = go (eqb (header_word capture 1) 16) refl
    where
      go : (b : Bool) → eqb (header_word capture 1) 16 ≡ b →
          (eqb (header_word capture 1) (cond b 16 14) ≡ false → (header_word capture 1 ≡ 14 → ⊥) × (header_word capture 1 ≡ 16 → ⊥))
          × (eqb (header_word capture 1) (cond b 16 14) ≡ true → (header_word capture 1 ≡ 14 → ⊥) → (header_word capture 1 ≡ 16 → ⊥) → ⊥)
      go true e = (λ f. impossible (sym e ∙ f), λ f g h. h (eqb-true _ _ f))
      go false e = (λ f. (eqb-false _ _ f, eqb-false _ _ e), λ f g h. g (eqb-true _ _ f))

  header-bad : header_fits_to most capture ≡ false → BadHeader most capture
  unfolding header_fits_to
  header-bad =
      go (eqb (header_word capture 1) (count_in capture)) refl (eqb (header_word capture 2) 24) refl (leb (event_count capture) most) refl
      (eqb (header_word capture 4) (events_start (count_in capture))) refl (leb (edition_in capture) newest_edition) refl
      (eqb (header_word capture 0) (capture_size (count_in capture) (event_count capture))) refl
    where
      go : (a : Bool) → eqb (header_word capture 1) (count_in capture) ≡ a → (b : Bool) → eqb (header_word capture 2) 24 ≡ b →
          (c : Bool) → leb (event_count capture) most ≡ c → (d : Bool) → eqb (header_word capture 4) (events_start (count_in capture)) ≡ d →
          (e : Bool) → leb (edition_in capture) newest_edition ≡ e →
          (f : Bool) → eqb (header_word capture 0) (capture_size (count_in capture) (event_count capture)) ≡ f → (a && b && c && d && e && f) ≡ false → BadHeader most capture
      go false w b x c y d z e u f v h = let (g, k) = counted.0 w in case.count g k
      go true w false x c y d z e u f v h = case.settings-start (eqb-false _ _ x)
      go true w true x false y d z e u f v h = case.many (leb-false _ _ y)
      go true w true x true y false z e u f v h = case.events-start (λ k. eqb-false _ _ z (k ∙ sym start_is))
      go true w true x true y true z false u f v h = case.edition (leb-false _ _ u)
      go true w true x true y true z true u false v h = case.total (λ k. eqb-false _ _ v (k ∙ sym size_is))
      go true w true x true y true z true u true v h = impossible h

  header-fits : header_fits_to most capture ≡ true → BadHeader most capture → ⊥
  unfolding header_fits_to
  header-fits h =
      go
      (six (eqb (header_word capture 1) (count_in capture)) (eqb (header_word capture 2) 24) (leb (event_count capture) most)
      (eqb (header_word capture 4) (events_start (count_in capture))) (leb (edition_in capture) newest_edition)
      (eqb (header_word capture 0) (capture_size (count_in capture) (event_count capture))) h)
    where
      go : (eqb (header_word capture 1) (count_in capture) ≡ true) × (eqb (header_word capture 2) 24 ≡ true) × (leb (event_count capture) most ≡ true)
          × (eqb (header_word capture 4) (events_start (count_in capture)) ≡ true) × (leb (edition_in capture) newest_edition ≡ true)
          × (eqb (header_word capture 0) (capture_size (count_in capture) (event_count capture)) ≡ true) → BadHeader most capture → ⊥
      go z (case.count g k) = counted.1 z.0 g k
      go z (case.settings-start g) = g (eqb-true _ _ z.1)
      go z (case.many g) = absurd (omega (arith, leb-true (event_count capture) most z.2, g))
      go z (case.events-start g) = g (eqb-true _ _ z.3 ∙ start_is)
      go z (case.edition g) = absurd (omega (arith, leb-true (edition_in capture) newest_edition z.4, g))
      go z (case.total g) = g (eqb-true _ _ z.5 ∙ size_is)

-- ---- 3: the settings

module _ (ws : List ℕ) where
  setting-bad : (i : ℕ) → not (setting_fits i (get_or ws i 0)) ≡ true → BadSetting ws i
  unfolding setting_fits
  setting-bad i h =
      go (leb (row_at i).least w) refl (leb w (row_at i).most) refl (eqb i 3) refl (mode_word w) refl (not-true _ h)
    where
      w : ℕ
      w = get_or ws i 0

      go : (a : Bool) → leb (row_at i).least (get_or ws i 0) ≡ a → (b : Bool) → leb (get_or ws i 0) (row_at i).most ≡ b → (c : Bool) → eqb i 3 ≡ c →
          (d : Bool) → mode_word (get_or ws i 0) ≡ d → (a && b && implies c d) ≡ false → BadSetting ws i
      go false e b f c g d k h = case.below (leb-false _ _ e)
      go true e false f c g d k h = case.above (leb-false _ _ f)
      go true e true f true g false k h = case.mode (eqb-true _ _ g) k
      go true e true f true g true k h = impossible h
      go true e true f false g d k h = impossible h

  setting-fits : (i : ℕ) → not (setting_fits i (get_or ws i 0)) ≡ false → BadSetting ws i → ⊥
  unfolding setting_fits
  setting-fits i h =
      let w = get_or ws i 0 in
      let z = both (leb (row_at i).least w && leb w (row_at i).most) (implies (eqb i 3) (mode_word w)) (not-false _ h) in
      let y = both (leb (row_at i).least w) (leb w (row_at i).most) z.0 in
      go (leb-true (row_at i).least w y.0) (leb-true w (row_at i).most y.1) z.1
    where
      go : (row_at i).least ≤ get_or ws i 0 → get_or ws i 0 ≤ (row_at i).most → implies (eqb i 3) (mode_word (get_or ws i 0)) ≡ true → BadSetting ws i → ⊥
      go a b c (case.below l) = absurd (omega (arith, a, l))
      go a b c (case.above l) = absurd (omega (arith, b, l))
      go a b c (case.mode e f) = impossible (sym (rw (eq-eqb i 3 e) at c) ∙ f)

-- ---- 4: the events

module _ (most : ℕ) (capture : List ℕ) where
  abbrev cycle_at : ℕ → ℕ
  cycle_at i = (event_at (event_bytes capture) i).cycle

  abbrev pins_at : ℕ → ℕ
  pins_at i = (event_at (event_bytes capture) i).pins

  event-bad : (i : ℕ) → not (event_fits (pin_limit capture) (event_bytes capture) i) ≡ true → BadEvent capture i
  unfolding event_fits
  event-bad i h =
      go (ltb (pins_at i) (pin_limit capture)) refl (leb (cycle_at i) last_cycle) refl (eqb i 0) refl (ltb (cycle_at (i - 1)) (cycle_at i)) refl (not-true _ h)
    where
      go : (a : Bool) → ltb (pins_at i) (pin_limit capture) ≡ a → (b : Bool) → leb (cycle_at i) last_cycle ≡ b → (c : Bool) → eqb i 0 ≡ c →
          (d : Bool) → ltb (cycle_at (i - 1)) (cycle_at i) ≡ d → (a && (b && (c || d))) ≡ false → BadEvent capture i
      go false e b f c g d k h = case.pins (ltb-false _ _ e)
      go true e false f c g d k h = case.late (leb-false _ _ f)
      go true e true f false g false k h = case.not-above (omega (arith, eqb-false i 0 g)) (ltb-false _ _ k)
      go true e true f false g true k h = impossible h
      go true e true f true g d k h = impossible h

  event-fits : (i : ℕ) → not (event_fits (pin_limit capture) (event_bytes capture) i) ≡ false → BadEvent capture i → ⊥
  unfolding event_fits
  event-fits i h =
      let z = both (ltb (pins_at i) (pin_limit capture)) (leb (cycle_at i) last_cycle && (eqb i 0 || ltb (cycle_at (i - 1)) (cycle_at i))) (not-false _ h) in
      let y = both (leb (cycle_at i) last_cycle) (eqb i 0 || ltb (cycle_at (i - 1)) (cycle_at i)) z.1 in
      go (ltb-true (pins_at i) (pin_limit capture) z.0) (leb-true (cycle_at i) last_cycle y.0) y.1
    where
      go : pins_at i < pin_limit capture → cycle_at i ≤ last_cycle → (eqb i 0 || ltb (cycle_at (i - 1)) (cycle_at i)) ≡ true → BadEvent capture i → ⊥
      go a b c (case.pins l) = absurd (omega (arith, a, l))
      go a b c (case.late l) = absurd (omega (arith, b, l))
      go a b c (case.not-above l m) = absurd (omega (arith, m, ltb-true (cycle_at (i - 1)) (cycle_at i) (rw (ne_eqb i 0 (omega arith)) at c)))

  -- ---- all of them, in their order

  abbrev ws : List ℕ
  ws = setting_words capture

  -- no setting, and no event, is bad
  abbrev bad_word : ℕ → Bool
  bad_word j = not (setting_fits j (get_or ws j 0))

  abbrev bad_place : ℕ → Bool
  bad_place j = not (event_fits (pin_limit capture) (event_bytes capture) j)

  abbrev by : Bool → Bool → Option ℕ → Bool → Option ℕ → Answer (Unit {0})
  by a b o c d = unless 1 (given 0 (not a)) (unless 2 (given 0 (not b)) (unless 3 (or_else o (given 7 c)) (unless 4 d (answered tt))))

  opened-by : {a b : Bool} {o : Option ℕ} {c : Bool} {d : Option ℕ} → length_fits_to most capture ≡ a → header_fits_to most capture ≡ b → lowest bad_word (count_in capture) ≡ o →
      ltb ((settings_of ws).t_ras + (settings_of ws).t_rp) (settings_of ws).t_rc ≡ c → lowest bad_place (event_count capture) ≡ d → opened_to most capture ≡ by a b o c d
  unfolding accepted_to bad_setting bad_event
  opened-by e f g h k i =
      by (e i) (f i) ((ap (lowest bad_word) (words_count capture) ∙ g) i) (h i) (k i)

  limited : length_fits_to most capture ≡ true → header_fits_to most capture ≡ true → lowest bad_word (count_in capture) ≡ none → Limited most capture
  limited f g h =
      record {
        framed = record { length-fits = length-fits most capture f; header-fits = header-fits most capture g };
        settings-fit = none_is bad_word (BadSetting ws) (setting-bad ws) (setting-fits ws) (count_in capture) h;
      }

  case-of : (number place : ℕ) → opened_to most capture ≡ refused number place → RefusedTo most capture number place
  case-of number place e =
      go (length_fits_to most capture) refl (header_fits_to most capture) refl (lowest bad_word (count_in capture)) refl
      (ltb ((settings_of ws).t_ras + (settings_of ws).t_rp) (settings_of ws).t_rc) refl (lowest bad_place (event_count capture)) refl
    where
      told : {k p : ℕ} → opened_to most capture ≡ refused k p → (number ≡ k) × (place ≡ p)
      told {k} {p} f = let so : ◌≡◌ {A = Answer (Unit {0})} (refused number place) (refused k p) = sym e ∙ f in (cc, cc)

      go : (a : Bool) → length_fits_to most capture ≡ a → (b : Bool) → header_fits_to most capture ≡ b → (o : Option ℕ) → lowest bad_word (count_in capture) ≡ o →
          (c : Bool) → ltb ((settings_of ws).t_ras + (settings_of ws).t_rp) (settings_of ws).t_rc ≡ c → (d : Option ℕ) → lowest bad_place (event_count capture) ≡ d →
          RefusedTo most capture number place
      go false f b g o h c k d l =
          let (n, p) = told (opened-by f g h k l) in case.bad-length (length-bad most capture f) n p
      go true f false g o h c k d l =
          let (n, p) = told (opened-by f g h k l) in case.bad-header (length-fits most capture f) (header-bad most capture g) n p
      go true f true g (some i) h c k d l =
          let (n, p) = told (opened-by f g h k l) in
          case.bad-setting (record { length-fits = length-fits most capture f; header-fits = header-fits most capture g }) n
          (rw p (lowest-is bad_word (BadSetting ws) (setting-bad ws) (setting-fits ws) (count_in capture) i h))
      go true f true g none h true k d l =
          let (n, p) = told (opened-by f g h k l) in
          case.contradiction (limited f g h) (ltb-true _ _ k) n p
      go true f true g none h false k (some i) l =
          let (n, p) = told (opened-by f g h k l) in
          case.bad-event (limited f g h) (λ m. impossible (sym (lt-ltb _ _ m) ∙ k)) n
          (rw p (lowest-is bad_place (BadEvent capture) event-bad event-fits (event_count capture) i l))
      go true f true g none h false k none l = let z : ◌≡◌ {A = Answer (Unit {0})} (refused number place) (answered tt) = sym e ∙ opened-by f g h k l in
          let n : ◌≡◌ {A = ℕ} 0 1 = cc in absurd (omega arith)

  long-right : (BadLength most capture → ⊥) → length_fits_to most capture ≡ true
  long-right f = always (length_fits_to most capture) (λ e. f (length-bad most capture e))

  head-right : (BadHeader most capture → ⊥) → header_fits_to most capture ≡ true
  head-right f = always (header_fits_to most capture) (λ e. f (header-bad most capture e))

  words_right : ((j : ℕ) → j < count_in capture → BadSetting ws j → ⊥) → lowest bad_word (count_in capture) ≡ none
  words_right = is_none bad_word (BadSetting ws) (setting-bad ws) (setting-fits ws) (count_in capture)

  of-case : (number place : ℕ) → RefusedTo most capture number place → opened_to most capture ≡ refused number place
  of-case number place (case.bad-length b n p) =
      opened-by (never (length_fits_to most capture) (λ e. length-fits most capture e b)) refl refl refl refl ∙ (λ i. refused (sym n i) (sym p i))
  of-case number place (case.bad-header l b n p) =
      opened-by (long-right l) (never (header_fits_to most capture) (λ e. header-fits most capture e b)) refl refl refl ∙ (λ i. refused (sym n i) (sym p i))
  of-case number place (case.bad-setting y n b) =
      opened-by (long-right y.length-fits) (head-right y.header-fits) (is-lowest bad_word (BadSetting ws) (setting-bad ws) (setting-fits ws) (count_in capture) place b) refl refl
      ∙ ap (λ (k : ℕ). refused k place) (sym n)
  of-case number place (case.contradiction y b n p) =
      opened-by (long-right y.framed.length-fits) (head-right y.framed.header-fits) (words_right y.settings-fit) (lt-ltb _ _ b) refl
      ∙ (λ i. refused (sym n i) (sym p i))
  of-case number place (case.bad-event y m n b) =
      opened-by (long-right y.framed.length-fits) (head-right y.framed.header-fits) (words_right y.settings-fit)
      (never (ltb ((settings_of ws).t_ras + (settings_of ws).t_rp) (settings_of ws).t_rc) (λ e. m (ltb-true _ _ e)))
      (is-lowest bad_place (BadEvent capture) event-bad event-fits (event_count capture) place b)
      ∙ ap (λ (k : ℕ). refused k place) (sym n)

pub refused-exactly-to : (most : ℕ) (capture : List ℕ) (number place : ℕ) → opened_to most capture ≡ refused number place ↔ RefusedTo most capture number place
refused-exactly-to most capture number place = (case-of most capture number place, of-case most capture number place)

-- A capture is refused exactly with the number and the place of the case that it is.
pub capture-refused-exactly : (capture : List ℕ) (number place : ℕ) → opened capture ≡ refused number place ↔ CaptureRefused capture number place
capture-refused-exactly = refused-exactly-to most_events

pub accepted-exactly-to : (most : ℕ) (capture : List ℕ) → AcceptedTo most capture ↔ ((number place : ℕ) → RefusedTo most capture number place → ⊥)
accepted-exactly-to most capture = (
  λ e number place c. not-answered (sym (of-case most capture number place c) ∙ e),
  λ f. go (opened_to most capture) refl f,
)
  where
    go : (x : Answer (Unit {0})) → opened_to most capture ≡ x → ((number place : ℕ) → RefusedTo most capture number place → ⊥) → opened_to most capture ≡ answered tt
    go (refused number place) e f = absurd (f number place (case-of most capture number place e))
    go (answered tt) e f = e

-- In no other case: it is accepted exactly when it is none of them.
pub accepted-exactly : (capture : List ℕ) → Accepted capture ↔ ((number place : ℕ) → CaptureRefused capture number place → ⊥)
accepted-exactly = accepted-exactly-to most_events
