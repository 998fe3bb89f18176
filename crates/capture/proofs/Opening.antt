-- Opening a capture, a refusal at a time.
use Prim.Native.Nat.{ℕ, ◌-◌, ◌*◌, ◌≤◌, ◌<◌}
use mathlib.Core.Bool.{true, false}
use mathlib.Core.List.{List}
use mathlib.Core.Path.{◌≡◌, sym, ap, ◌∙◌}
use native.Mathlib.Omega.{arith}
use lib.ListN.{length, take, drop, length-drop}
use lib.Seq.{take_all}
use lib.Dec.{eqb}
use borrow.Author.Tests.{le-leb, lt-leb}
use Rattle.reading.specs.Settings.{bad_setting}
use Rattle.reading.specs.Capture.{header_word, count_in, events_start, capture_size, pin_limit, event_count, setting_words, event_bytes, length_fits_to, header_fits_to, bad_event}
use Rattle.reading.specs.Answers.{refused, answered, unless, accepted_to}
use Rattle.words.specs.Found.{place_of}
use Rattle.std.specs.Prelude.{Some, None}
use Rattle.std.specs.Prelude as std
use Rattle.capture.specs.Calls.{opened_to}
use Rattle.capture.proofs.Accepted.{Sized, count-range, words_count}
use Rattle.settings.specs.Meaning.{bad_among, padded}
use Rattle.settings.proofs.Padded.{padded-among}

module _ (capture : List ℕ) where
  -- the bytes from where the events start, as a slice has them
  pub bytes-are : {start : ℕ} → start ≡ events_start (count_in capture) → take (length capture - start) (drop start capture) ≡ event_bytes capture
  bytes-are {start} e = take_all (length capture - start) (drop start capture) (omega (arith, length-drop start capture)) ∙ ap (λ (k : ℕ). drop k capture) e

  pub events-within : {most : ℕ} → Sized most capture → {n : ℕ} → n ≡ event_count capture → 8 * n ≤ length (event_bytes capture)
  events-within s {n} e = omega (arith, s.size, length-drop (events_start (count_in capture)) capture)

  -- of all settings, those that the capture has
  pub settings-are : {loaded : List ℕ} {n : ℕ} → loaded ≡ padded (setting_words capture) → n ≡ count_in capture →
      bad_among loaded n ≡ bad_setting (setting_words capture)
  unfolding bad_setting
  settings-are {loaded} {n} e f =
      ap (λ (ws : List ℕ). bad_among ws n) e ∙ padded-among (setting_words capture) n
      ∙ ap (bad_among (setting_words capture)) (f ∙ sym (words_count capture))

  -- the length, where it is asked about step by step
  pub too_short : (most : ℕ) → length capture < events_start (count_in capture) → length_fits_to most capture ≡ false
  unfolding length_fits_to
  too_short most l = rw (lt-leb (capture_size (count_in capture) 0) (length capture) (omega arith))

  pub shortest : (most : ℕ) → length capture < 80 → length_fits_to most capture ≡ false
  shortest most l = too_short most (omega (arith, (count-range capture).0))

  module _ (most : ℕ) (l : events_start (count_in capture) ≤ length capture) where
    pub too_long : capture_size (count_in capture) most < length capture → length_fits_to most capture ≡ false
    unfolding length_fits_to
    too_long m =
        rw (le-leb (capture_size (count_in capture) 0) (length capture) (omega arith), lt-leb (length capture) (capture_size (count_in capture) most) m)

    pub stated : length capture ≤ capture_size (count_in capture) most → length_fits_to most capture ≡ eqb (header_word capture 0) (length capture)
    unfolding length_fits_to
    stated m =
        rw (le-leb (capture_size (count_in capture) 0) (length capture) (omega arith), le-leb (length capture) (capture_size (count_in capture) most) m)

  pub wrong-length : (most : ℕ) → length_fits_to most capture ≡ false → refused 1 0 ≡ opened_to most capture
  unfolding accepted_to
  wrong-length most h = rw h

  module _ (most : ℕ) (right-length : length_fits_to most capture ≡ true) where
    pub wrong-header : header_fits_to most capture ≡ false → refused 2 0 ≡ opened_to most capture
    unfolding accepted_to
    wrong-header h = rw (right-length, h)

    module _ (right-header : header_fits_to most capture ≡ true) (setting : std.Option ℕ) (is-setting : place_of setting ≡ bad_setting (setting_words capture)) where
      pub wrong-setting : {i : ℕ} → setting ≡ Some i → refused 3 i ≡ opened_to most capture
      unfolding accepted_to
      wrong-setting e = rw (right-length, right-header, sym is-setting, e)

      pub right-settings : setting ≡ None → (event : std.Option ℕ) {n : ℕ} → n ≡ event_count capture →
          place_of event ≡ bad_event (pin_limit capture) (event_bytes capture) n →
          unless 4 (place_of event) (answered tt) ≡ opened_to most capture
      unfolding accepted_to
      right-settings e event c is-event =
          rw (right-length, right-header, sym is-setting, e, is-event, c)
