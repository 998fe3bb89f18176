-- Opening a capture, whatever follows: what a call says of one that is refused, and what it knows of one that is accepted.
use Prim.Native.Nat.{ℕ, ◌*◌, ◌≤◌, ◌<◌}
use mathlib.Core.Bool.{true}
use mathlib.Core.List.{List, map}
use mathlib.Core.Path.{◌≡◌, sym, ap, ◌∙◌}
use native.Mathlib.Omega.{arith}
use lib.ListN.{length, get_or, length-drop}
use Rattle.reading.specs.Search.{count}
use Rattle.reading.specs.Mode.{mode_word}
use Rattle.reading.specs.Settings.{Settings, settings_of, setting_fits}
use Rattle.reading.specs.Capture.{count_in, events_start, event_count, edition_in, setting_words, event_bytes, event_at, events_of, cycle_fits}
use Rattle.reading.specs.Answers.{Answer, refused, answered, accepted_to, settings_in}
use Rattle.std.specs.Prelude.{Result, Err}
use Rattle.refusal.specs.declared.Refusal.{Refusal}
use Rattle.refusal.specs.Refusal.{number_of, place_of, passed}
use Rattle.settings.specs.Meaning.{held}
use Rattle.settings.proofs.Fitting.{at_least, at_most, mode-valid}
use Rattle.capture.specs.Calls.{opened_to, AcceptedTo}
use Rattle.capture.specs.Holding.{Holds}
use Rattle.capture.specs.declared.held.Opened as handed
use Rattle.capture.proofs.Accepted.{Sound, count-range, held_in, accepted-sound, refused-to}

-- by what `open` says
module _ {T : Type 0} (most : ℕ) (c : List ℕ) {o : Result T Refusal} (said : passed o ≡ opened_to most c) where
  pub refused-so : {A : Type 0} (rest : Answer A) {r : Refusal} → o ≡ Err r → accepted_to most c rest ≡ refused (number_of r) (place_of r)
  refused-so rest e = refused-to most c rest (sym said ∙ ap passed e)

-- its settings can be read, and its events
pub long : (most : ℕ) (c : List ℕ) → AcceptedTo most c → events_start (count_in c) ≤ length c
long most c open-to = omega (arith, (accepted-sound c open-to).sized.size)

-- the settings as they are held, n events, and the bytes that they stand in
pub record Opened (most : ℕ) (c settings : List ℕ) (n : ℕ) (bytes : List ℕ) : Type 0 where
  pub open-to : AcceptedTo most c
  pub settings-are : settings_of settings ≡ settings_in c
  pub count-is : n ≡ event_count c
  pub bytes-are : bytes ≡ event_bytes c
  pub events-are : map (event_at bytes) (count 0 n) ≡ events_of c
  pub few : n ≤ most
  pub there : 8 * n ≤ length bytes
  pub rise : (i : ℕ) → i < n → cycle_fits bytes i ≡ true
  pub rows : (settings_of settings).row_bits ≤ 14
  pub columns : (settings_of settings).column_bits ≤ 11
  pub moded : mode_word (settings_of settings).mode ≡ true
  pub ticks : 0 < (settings_of settings).t_refi

pub opens : {most : ℕ} {c : List ℕ} → AcceptedTo most c → {settings : List ℕ} {n : ℕ} {bytes : List ℕ} →
    settings ≡ held (edition_in c) (setting_words c) → n ≡ event_count c → bytes ≡ event_bytes c → Opened most c settings n bytes
unfolding events_of
opens {most} {c} open-to {settings} {n} {bytes} e f g =
    record {
      open-to = open-to;
      settings-are = are;
      count-is = f;
      bytes-are = g;
      events-are = λ i. map (event_at (g i)) (count 0 (f i));
      few = omega (arith, f, sound.sized.few);
      there = rw (f, g, length-drop (events_start (count_in c)) c) (omega (arith, sound.sized.size));
      rise = λ i l. rw g (sound.events i (omega (arith, f)));
      rows = omega (arith, ap (λ (s : Settings). s.row_bits) are, at_most 1 (word 1) (fits 1 (omega arith)));
      columns = omega (arith, ap (λ (s : Settings). s.column_bits) are, at_most 2 (word 2) (fits 2 (omega arith)));
      moded = ap (λ (s : Settings). mode_word s.mode) are ∙ mode-valid (word 3) (fits 3 (omega arith));
      ticks = omega (arith, ap (λ (s : Settings). s.t_refi) are, at_least 13 (word 13) (fits 13 (omega arith)));
    }
  where
    sound : Sound most c
    sound = accepted-sound c open-to

    are : settings_of settings ≡ settings_in c
    are = ap settings_of e ∙ held_in c

    word : ℕ → ℕ
    word i = get_or (setting_words c) i 0

    fits : (i : ℕ) → i < 14 → setting_fits i (word i) ≡ true
    fits i l = sound.settings i (omega (arith, (count-range c).0))

-- what `open_to` hands out
pub opens-held : {most : ℕ} {c : List ℕ} → answered tt ≡ opened_to most c → (o : handed.Opened) → Holds c o →
    Opened most c o.settings o.events.count o.events.bytes.now
opens-held said o h = opens (sym said) h.settings-are h.count-is h.bytes-are
