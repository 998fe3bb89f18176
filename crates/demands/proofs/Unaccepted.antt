-- Captures that every call refuses, whatever else they hold: those that are too long, and those that name an edition that there is not.
use Prim.Native.Nat.{ℕ, ◌+◌, ◌*◌, ◌≤◌, ◌<◌}
use mathlib.Core.Bool.{Bool, true, false, cond}
use mathlib.Core.List.{List}
use mathlib.Core.Path.{◌≡◌, refl, ap}
use native.Mathlib.Decide.{dec_lt}
use native.Mathlib.Omega.{arith}
use borrow.Author.Tests.{ne_eqb}
use lib.Dec.{eqb}
use lib.ListN.{length}
use Rattle.reading.specs.Capture.{header_word}
use Rattle.demands.specs.Allowed.{RefusedByAll}
use Rattle.demands.specs.Captures.{least_bytes, BadLength, CaptureRefused}
use Rattle.demands.specs.Captures as case
use Rattle.demands.specs.Refused.{Accepted, unaccepted, unopened}
use Rattle.demands.specs.Exports as exports
use Rattle.demands.specs.Played as play
use Rattle.demands.proofs.Opening.{accepted-exactly}
use Rattle.demands.proofs.Refusing.{judge-refused, list-refused-exactly, list-refused}
use Rattle.demands.proofs.Blanking.{blank-refused-exactly, blank-refused}
use Rattle.demands.proofs.Converting.{write-refused-exactly, write-refused}
use Rattle.demands.proofs.Playing.{play-refused-exactly, play-refused}

-- Whatever is refused is refused so by every call.
pub refused-by-all : (capture : List ℕ) (number place : ℕ) → CaptureRefused capture number place → RefusedByAll capture number place
refused-by-all capture number place c =
    record {
      judge = λ r a. (judge-refused capture r a number place).1 c;
      list =
          λ out r left a.
          let e = (list-refused-exactly capture out r left a number place).1 (unaccepted c) in
          (e, list-refused capture out left number place r e a);
      export =
          λ out r left a.
          let e = (write-refused-exactly capture out r left a number place).1 (exports.WriteRefused.unopened c) in
          (e, write-refused capture out left number place r e a);
      blank =
          λ out r left a.
          let e = (blank-refused-exactly capture out r left a number place).1 (unopened c) in
          (e, blank-refused capture out left number place r e a);
      play =
          λ first window writes reads r left words a.
          let e = (play-refused-exactly capture first window writes reads r left words a number place).1 (play.unopened c) in
          (e, play-refused capture first window writes reads left words number place r e a);
    }

-- ---- the length

-- the most bytes of a capture
abbrev most_bytes : List ℕ → ℕ
most_bytes capture = least_bytes capture + 8 * 8000

-- no capture may be longer than with the settings of sleep; nor, without these, than without them
most-of-all : (capture : List ℕ) → most_bytes capture ≤ 64088
most-of-all capture = go (eqb (header_word capture 1) 16)
  where
    go : (b : Bool) → cond b 88 80 + 8 * 8000 ≤ 64088
    go true = omega arith
    go false = omega arith

most-awake : (capture : List ℕ) → (header_word capture 1 ≡ 16 → ⊥) → most_bytes capture ≡ 64080
most-awake capture f = ap (λ (b : Bool). cond b 88 80 + 8 * 8000) (ne_eqb (header_word capture 1) 16 f)

-- A byte string above 64,088 bytes is refused with 1, whatever it holds.
pub long-refused : (capture : List ℕ) → 64088 < length capture → RefusedByAll capture 1 0
long-refused capture l = refused-by-all capture 1 0 (case.bad-length (case.long (omega (arith, l, most-of-all capture))) refl refl)

-- So is one above 64,080 bytes whose count word is not 16.
pub long-refused-awake : (capture : List ℕ) → (header_word capture 1 ≡ 16 → ⊥) → 64080 < length capture → RefusedByAll capture 1 0
long-refused-awake capture f l = refused-by-all capture 1 0 (case.bad-length (case.long (omega (arith, l, most-awake capture f))) refl refl)

accepted-most : (capture : List ℕ) → Accepted capture → length capture ≤ most_bytes capture
accepted-most capture e = go (dec_lt (most_bytes capture) (length capture))
  where
    go : Dec (most_bytes capture < length capture) → length capture ≤ most_bytes capture
    go (yes l) = absurd ((accepted-exactly capture).0 e 1 0 (case.bad-length (case.long l) refl refl))
    go (no l) = omega arith

-- No byte string above 64,088 bytes is accepted, nor one above 64,080 bytes whose count word is not 16.
pub accepted-length : (capture : List ℕ) → Accepted capture → length capture ≤ 64088
accepted-length capture e = omega (arith, accepted-most capture e, most-of-all capture)

pub accepted-length-awake : (capture : List ℕ) → Accepted capture → (header_word capture 1 ≡ 16 → ⊥) → length capture ≤ 64080
accepted-length-awake capture e f = omega (arith, accepted-most capture e, most-awake capture f)

-- ---- the edition

-- A capture that names an edition above 1 is refused with 2, if nothing is wrong with its length.
pub edition-refused : (capture : List ℕ) → (BadLength 8000 capture → ⊥) → 1 < header_word capture 5 → RefusedByAll capture 2 0
edition-refused capture fits l = refused-by-all capture 2 0 (case.bad-header fits (case.edition l) refl refl)
