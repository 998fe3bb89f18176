-- A capture blanked: as long, with the same words but the pins that may be hidden; and the same for captures that differ only so.
use Prim.Native.Nat.{ℕ, ◌+◌, ◌*◌, ◌^◌, ◌≤◌, ◌<◌}
use mathlib.Core.Bool.{Bool, true, false, cond}
use mathlib.Core.List.{List, [], ◌∷◌, ◌++◌, map, append-nil}
use mathlib.Core.Path.{◌≡◌, refl, sym, ap, ◌∙◌}
use native.Mathlib.Nat.{zero-add}
use native.Mathlib.Omega.{arith}
use lib.Dec.{eqb}
use lib.ListN.{length, get_or, take, drop, length-append, length-map, length-take}
use lib.Seq.{take_at, drop_at}
use Rattle.reading.specs.Search.{count}
use Rattle.reading.specs.Words.{word_at, bytes_of}
use Rattle.reading.specs.Settings.{Settings}
use Rattle.reading.specs.Capture.{Event, most_events, events_start, count_in, event_count, event_bytes, event_at, events_of, header_word}
use Rattle.reading.specs.Schedule.{event_words}
use Rattle.reading.specs.Answers.{settings_in}
use Rattle.reading.specs.Blank.{blank_pins, blank_event, blanked, OnlyAddressesDiffer}
use Rattle.reading.proofs.Meaning.{event_of}
use Rattle.words.proofs.Words.{bytes_of-length, word-of-bytes}
use Rattle.words.proofs.Counting.{at_count, same-counted}
use Rattle.words.proofs.Events.{words-length, cycle-word, pins-word}
use Rattle.capture.specs.Calls.{Accepted}
use Rattle.capture.proofs.Accepted.{Sound, length-count, accepted-sound, cycle-fits}
use Rattle.alike.proofs.Pins.{above-blank, alike-blank, blank-alike, blanked-alike}
use Rattle.alike.proofs.Captures.{same_count, same-settings, same-events}

map-map : {A B C : Type 0} (f : B → C) (g : A → B) (xs : List A) → map f (map g xs) ≡ map (λ x. f (g x)) xs
map-map f g [] = refl
map-map f g (x ∷ xs) = ap (λ l. f (g x) ∷ l) (map-map f g xs)

-- ---- captures that differ only in addresses

module _ (a b : List ℕ) (k : OnlyAddressesDiffer a b) where
  event-same : (i : ℕ) → i < event_count a → blank_event (settings_in a) (event_at (event_bytes a) i) ≡ blank_event (settings_in a) (event_at (event_bytes b) i)
  event-same i l = λ j. record { cycle = k.cycles i l j; pins = alike-blank (settings_in a) _ _ (k.pins i l) j }

  events-same : map (blank_event (settings_in a)) (events_of a) ≡ map (blank_event (settings_in b)) (events_of b)
  unfolding events_of
  events-same =
      map-map (blank_event (settings_in a)) (event_at (event_bytes a)) (count 0 (event_count a))
      ∙ same-counted _ _ (event_count a) event-same
      ∙ sym (map-map (blank_event (settings_in a)) (event_at (event_bytes b)) (count 0 (event_count a)))
      ∙ (λ j. map (blank_event (same-settings a b k j)) (map (event_at (event_bytes b)) (count 0 (same-events a b k j))))

  -- They are blanked to the same bytes.
  pub same-blanked : blanked a ≡ blanked b
  unfolding blanked
  same-blanked =
      (λ j. k.front j ++ bytes_of (event_words (events-same j)))
      ∙ ap (λ (n : ℕ). take (events_start n) b ++ bytes_of (event_words (map (blank_event (settings_in b)) (events_of b)))) (same_count a b k.front)

-- ---- a capture that is accepted

module _ (c : List ℕ) (open-to : Accepted c) where
  abbrev s : Settings
  s = settings_in c

  sound : Sound most_events c
  sound = accepted-sound c open-to

  -- header and settings, and the words of the events
  abbrev head : List ℕ
  head = take (events_start (count_in c)) c

  abbrev es : List Event
  es = map (blank_event s) (events_of c)

  abbrev ws : List ℕ
  ws = event_words es

  head-length : length head ≡ events_start (count_in c)
  head-length = simp length-take (omega (arith, sound.sized.size))

  es-length : length es ≡ event_count c
  unfolding events_of
  es-length = length-map (events_of c) (blank_event s) ∙ length-map (count 0 (event_count c)) (event_at (event_bytes c)) ∙ length-count 0 (event_count c)

  event-is : (i : ℕ) → i < event_count c → event_of es i ≡ blank_event s (event_at (event_bytes c) i)
  unfolding events_of
  event-is i l =
      ap (λ (xs : List Event). event_of xs i) (map-map (blank_event s) (event_at (event_bytes c)) (count 0 (event_count c)))
      ∙ at_count (λ j. blank_event s (event_at (event_bytes c) j)) _ 0 (event_count c) i l
      ∙ ap (λ (j : ℕ). blank_event s (event_at (event_bytes c) j)) (zero-add i)

  pub blanked-length : length c ≡ length (blanked c)
  unfolding blanked
  blanked-length =
      omega (arith, length-append head (bytes_of ws), head-length, bytes_of-length ws, words-length es, es-length, sound.sized.size)

  blanked-front : take (events_start (count_in c)) c ≡ take (events_start (count_in c)) (blanked c)
  unfolding blanked
  blanked-front = sym (take_at head (bytes_of ws) (events_start (count_in c)) head-length)

  blanked-events : event_bytes (blanked c) ≡ bytes_of ws
  unfolding blanked
  blanked-events =
      ap (λ (n : ℕ). drop (events_start n) (blanked c)) (sym (same_count c (blanked c) blanked-front))
      ∙ drop_at head (bytes_of ws) (events_start (count_in c)) head-length

  word-is : (i : ℕ) → i < 2 * event_count c → get_or ws i 0 < 2 ^ 32 → word_at (event_bytes (blanked c)) (4 * i) ≡ get_or ws i 0
  word-is i l small =
      ap (λ (x : List ℕ). word_at x (4 * i)) (blanked-events ∙ sym (append-nil (bytes_of ws)))
      ∙ word-of-bytes ws [] i (omega (arith, words-length es, es-length)) small

  module _ (i : ℕ) (l : i < event_count c) where
    abbrev t : ℕ
    t = (event_at (event_bytes c) i).cycle

    abbrev w : ℕ
    w = (event_at (event_bytes c) i).pins

    cycle-stored : get_or ws (2 * i) 0 ≡ t
    cycle-stored = cycle-word es i ∙ ap (λ (e : Event). e.cycle) (event-is i l)

    pins-stored : get_or ws (2 * i + 1) 0 ≡ blank_pins s w
    pins-stored = pins-word es i ∙ ap (λ (e : Event). e.pins) (event-is i l)

    pins-small : blank_pins s w < 2 ^ 32
    pins-small = omega (arith, above-blank w s, sound.pins i l, limit (eqb (header_word c 1) 16))
      where
        limit : (x : Bool) → cond x (2 ^ 21) (2 ^ 20) ≤ 2 ^ 21
        limit true = omega arith
        limit false = omega arith

    blanked-cycle : (event_at (event_bytes (blanked c)) i).cycle ≡ t
    blanked-cycle =
        let e : 8 * i ≡ 4 * (2 * i) = omega arith in
        ap (word_at (event_bytes (blanked c))) e
        ∙ word-is (2 * i) (omega arith) (omega (arith, cycle-stored, cycle-fits (event_bytes c) i (sound.events i l))) ∙ cycle-stored

    pub blanked-pins : (event_at (event_bytes (blanked c)) i).pins ≡ blank_pins s w
    blanked-pins =
        let e : 8 * i + 4 ≡ 4 * (2 * i + 1) = omega arith in
        ap (word_at (event_bytes (blanked c))) e
        ∙ word-is (2 * i + 1) (omega arith) (omega (arith, pins-stored, pins-small)) ∙ pins-stored

  -- It differs from itself blanked only in addresses.
  pub blanked-differs : OnlyAddressesDiffer c (blanked c)
  blanked-differs =
      record {
        size = blanked-length;
        front = blanked-front;
        cycles = λ i l. sym (blanked-cycle i l);
        pins = λ i l. rw (blanked-pins i l) (blanked-alike s (event_at (event_bytes c) i).pins);
      }

-- ---- two captures that are accepted and blanked to the same bytes

module _ (a b : List ℕ) (open-a : Accepted a) (open-b : Accepted b)
    (e : blanked a ≡ blanked b) where
  -- what is the same of a capture and of itself blanked is the same of both
  both-same : {A : Type 0} (f : List ℕ → A) → f a ≡ f (blanked a) → f b ≡ f (blanked b) → f a ≡ f b
  both-same f x y = x ∙ ap f e ∙ sym y

  settings-same : settings_in a ≡ settings_in b
  settings-same =
      both-same settings_in (same-settings a (blanked a) (blanked-differs a open-a)) (same-settings b (blanked b) (blanked-differs b open-b))

  count_same : event_count a ≡ event_count b
  count_same = both-same event_count (same-events a (blanked a) (blanked-differs a open-a)) (same-events b (blanked b) (blanked-differs b open-b))

  start-same : events_start (count_in a) ≡ events_start (count_in b)
  start-same =
      ap events_start
      (both-same count_in (same_count a (blanked a) (blanked-front a open-a)) (same_count b (blanked b) (blanked-front b open-b)))

  pins-same : (i : ℕ) → i < event_count a →
      blank_pins (settings_in a) (event_at (event_bytes a) i).pins ≡ blank_pins (settings_in a) (event_at (event_bytes b) i).pins
  pins-same i l =
      sym (blanked-pins a open-a i l) ∙ ap (λ (x : List ℕ). (event_at (event_bytes x) i).pins) e
      ∙ blanked-pins b open-b i (omega (arith, count_same)) ∙ ap (λ (s : Settings). blank_pins s (event_at (event_bytes b) i).pins) (sym settings-same)

  -- They differ only in addresses.
  pub differ-blanked : OnlyAddressesDiffer a b
  differ-blanked =
      record {
        size = both-same length (blanked-length a open-a) (blanked-length b open-b);
        front =
            blanked-front a open-a ∙ (λ j. take (start-same j) (e j)) ∙ sym (blanked-front b open-b)
            ∙ ap (λ (n : ℕ). take n b) (sym start-same);
        cycles =
            λ i l.
            sym (blanked-cycle a open-a i l) ∙ ap (λ (x : List ℕ). (event_at (event_bytes x) i).cycle) e
            ∙ blanked-cycle b open-b i (omega (arith, count_same));
        pins = λ i l. blank-alike (settings_in a) _ _ (pins-same i l);
      }
