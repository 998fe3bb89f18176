-- The front and the events of a capture, stored one behind the other.
use Prim.Native.Nat.{ℕ, ◌*◌, ◌≤◌, ◌<◌}
use mathlib.Core.List.{List, ◌++◌}
use mathlib.Core.Path.{◌≡◌, refl, ap, ◌∙◌}
use native.Mathlib.Omega.{arith}
use lib.ListN.{length, take, length-append}
use lib.Seq.{sets}
use borrow.Author.Tests.{lt-ltb, le-ltb}
use Rattle.reading.specs.Words.{bytes_of}
use Rattle.reading.specs.Settings.{settings_count}
use Rattle.reading.specs.Capture.{events_start}
use Rattle.reading.specs.Schedule.{header_of}
use Rattle.words.proofs.Words.{sets-words}
use Rattle.std.specs.Prelude.{Ok, Err}
use Rattle.refusal.specs.declared.Refusal.TheVariants.{Room}
use Rattle.schedule.specs.Meaning.{size, written, writing}

module _ (settings list : List ℕ) (n : ℕ) (out : List ℕ) {bytes : ℕ} (is-size : bytes ≡ size n) where
  pub too_short : length out < bytes → (Err (Room bytes) ≡ written out n) × (out ≡ writing settings list n out)
  unfolding written writing
  too_short l = rw (is-size, lt-ltb (length out) (size n) (omega arith)) (refl, refl)

  module _ (l : bytes ≤ length out) (h : length settings ≡ settings_count) {o₁ o₂ : List ℕ}
      (a : o₁ ≡ sets out 0 (bytes_of (header_of 0 (length settings) n ++ settings)))
      (b : o₂ ≡ sets o₁ (events_start settings_count) (bytes_of (take (2 * n) list))) where
    stored : o₂ ≡ sets out 0 (bytes_of (header_of 0 (length settings) n ++ settings ++ take (2 * n) list))
    stored =
        let front = header_of 0 (length settings) n in
        b ∙ ap (λ (o : List ℕ). sets o (events_start settings_count) (bytes_of (take (2 * n) list))) a
        ∙ sets-words out 0 (events_start settings_count) (front ++ settings) (take (2 * n) list) (omega (arith, length-append front settings))

    pub wrote : (Ok bytes ≡ written out n) × (o₂ ≡ writing settings list n out)
    unfolding written writing
    wrote = rw (is-size, le-ltb (length out) (size n) (omega arith)) (refl, stored)
