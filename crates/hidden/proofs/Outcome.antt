-- From a capture's bytes to the answer and the buffer.
use Prim.Native.Nat.{ℕ, ◌+◌, ◌≤◌, ◌<◌}
use mathlib.Core.List.{List, ◌++◌}
use mathlib.Core.Path.{◌≡◌, sym, ap, ◌∙◌}
use native.Mathlib.Omega.{arith}
use lib.ListN.{length, take, drop, length-take}
use lib.Seq.{sets, length-sets}
use Rattle.reading.specs.Settings.{settings_of}
use Rattle.reading.specs.Capture.{events_start, count_in, most_events}
use Rattle.reading.specs.Answers.{refused, answered, accepted, fitting}
use Rattle.reading.specs.Blank.{blanked, blank_outcome}
use Rattle.words.proofs.Runs.{sets-append}
use Rattle.refusal.specs.declared.Refusal.{Refusal}
use Rattle.refusal.specs.Refusal.{number_of, place_of}
use Rattle.capture.specs.Calls.{opened, Accepted, Meets}
use Rattle.capture.proofs.Outcome.{too_long, refused-meets, wrote-meets}
use Rattle.capture.proofs.Outcome as outcome
use Rattle.capture.proofs.Accepted.{count-range, accepted-sound, accepted-rest, refused-to}
use Rattle.capture.proofs.Opened.{Opened, long}
use Rattle.alike.proofs.Blanked.{blanked-length}
use Rattle.hidden.specs.Meaning.{blanked_from, blanked_events, Writable}

-- one that is not accepted
pub refused-so : (c out : List ℕ) (r : Refusal) → refused (number_of r) (place_of r) ≡ opened c → Meets (refused (number_of r) (place_of r)) out (blank_outcome c out)
unfolding blank_outcome
refused-so c out r e = refused-meets (refused-to most_events c _ (sym e))

module _ (c : List ℕ) (open-to : Accepted c) where
  -- at most 64,088 bytes
  pub few : length c < 65536
  few = let sized = (accepted-sound c open-to).sized in omega (arith, sized.size, sized.few, (count-range c).1)

  needed : length (blanked c) ≡ length c
  needed = sym (blanked-length c open-to)

  pub too_short : (out : List ℕ) → length out < length c → Meets (refused 7 (length c)) out (blank_outcome c out)
  unfolding blank_outcome
  too_short out l =
      refused-meets
      (accepted-rest c _ open-to ∙ too_long out (blanked c) (omega (arith, needed)) ∙ ap (λ (n : ℕ). refused 7 n) needed)

module _ {c settings bytes : List ℕ} {n start : ℕ} (x : Opened most_events c settings n bytes) (out : List ℕ) (room : length c ≤ length out)
    (g : start ≡ events_start (count_in c)) where
  abbrev head : List ℕ
  head = take start c

  head-length : length head ≡ start
  head-length = simp length-take (omega (arith, long most_events c x.open-to, g))

  pub copies : (start ≤ length c) × (start ≤ length out)
  copies = let l = long most_events c x.open-to in (omega arith, omega arith)

  module _ {o₁ : List ℕ} (first : o₁ ≡ sets out 0 head) where
    pub writable : Writable settings n o₁ start
    writable =
        record {
          rows = omega (arith, x.rows);
          room = rw (first, length-sets out 0 head) (omega (arith, x.count-is, g, (accepted-sound c x.open-to).sized.size));
        }

    is-blanked : head ++ blanked_events (settings_of settings) bytes n ≡ blanked c
    unfolding blanked blanked_from
    is-blanked = rw (x.settings-are, x.events-are, g)

    pub wrote : {o₂ : List ℕ} → o₂ ≡ sets o₁ start (blanked_events (settings_of settings) bytes n) → Meets (answered (length c)) o₂ (blank_outcome c out)
    unfolding blank_outcome
    wrote second =
        let there : start ≡ 0 + length head = omega (arith, head-length) in
        wrote-meets out (blanked c) (accepted-rest c _ x.open-to) (omega (arith, needed c x.open-to)) (sym (needed c x.open-to))
        (second ∙ (λ i. sets (first i) (there i) (blanked_events (settings_of settings) bytes n))
        ∙ sets-append out 0 head (blanked_events (settings_of settings) bytes n) ∙ ap (sets out 0) is-blanked)

-- what was written stands in the buffer
pub written-within : (c out : List ℕ) {n : ℕ} {left : List ℕ} → answered n ≡ (blank_outcome c out).answer → left ≡ (blank_outcome c out).buffer →
    n ≤ length left
unfolding blank_outcome
written-within c out e f = omega (arith, (outcome.wrote (accepted c (fitting out (blanked c))) out (sym e)).within, ap length f)
