-- The events, written one after the other.
use Prim.Native.Nat.{ℕ, ◌+◌, ◌-◌, ◌*◌, ◌≤◌, ◌<◌}
use mathlib.Core.List.{List, [], ◌++◌}
use mathlib.Core.Path.{◌≡◌, refl, sym, ap, ◌∙◌}
use native.Mathlib.Nat.{sub-zero, add-zero}
use native.Mathlib.Numerals.{add-one}
use native.Mathlib.Omega.{arith}
use lib.ListN.{length, set, get_or, drop, length-set}
use lib.Seq.{sets, length-sets, drop-cons}
use Rattle.reading.specs.Words.{word_bytes, bytes_of}
use Rattle.reading.specs.Settings.{Settings}
use Rattle.reading.specs.Capture.{event_at}
use Rattle.reading.specs.Schedule.{event_words}
use Rattle.reading.specs.Blank.{blank_pins}
use Rattle.words.proofs.Runs.{sets-append, none-behind}
use Rattle.words.proofs.Search.{one_less, none_left}
use Rattle.hidden.specs.Meaning.{blanked_from, blanked_events}

-- ---- what stands before them

pub record Copying (front out₀ out : List ℕ) (i : ℕ) : Type 0 where
  pub within : i ≤ length front
  pub long : length out ≡ length out₀
  pub same : sets out i (drop i front) ≡ sets out₀ 0 front

pub copies-none : (front out : List ℕ) → Copying front out out 0
copies-none front out = record { within = omega arith; long = refl; same = refl }

module _ {front out₀ out : List ℕ} {i : ℕ} (x : Copying front out₀ out i) where
  pub copies-on : i < length front → Copying front out₀ (set out i (get_or front i 0)) (i + 1)
  copies-on m =
      record {
        within = omega arith;
        long = length-set out i (get_or front i 0) ∙ x.long;
        same = rw (add-one i) (sym (ap (sets out i) (drop-cons front i 0 m)) ∙ x.same);
      }

  pub copied : length front ≤ i → out ≡ sets out₀ 0 front
  copied m = sym (ap (sets out i) (none-behind front i m)) ∙ x.same

-- ---- events, blanked

pub record Writing (s : Settings) (bytes : List ℕ) (n : ℕ) (out₀ : List ℕ) (at : ℕ) (out : List ℕ) (i : ℕ) : Type 0 where
  pub within : i ≤ n
  pub long : length out ≡ length out₀
  pub same : sets out (at + 8 * i) (blanked_from s bytes i (n - i)) ≡ sets out₀ at (blanked_events s bytes n)

pub writes-none : (s : Settings) (bytes : List ℕ) (n : ℕ) (out : List ℕ) (at : ℕ) → Writing s bytes n out at out 0
writes-none s bytes n out at = record { within = omega arith; long = refl; same = rw (sub-zero n, add-zero at) }

module _ {s : Settings} {bytes out₀ out : List ℕ} {n at i : ℕ} (x : Writing s bytes n out₀ at out i) where
  abbrev cycle : List ℕ
  cycle = word_bytes (event_at bytes i).cycle

  abbrev pins : List ℕ
  pins = word_bytes (blank_pins s (event_at bytes i).pins)

  abbrev rest : List ℕ
  rest = blanked_from s bytes (i + 1) (n - (i + 1))

  split : i < n → blanked_from s bytes i (n - i) ≡ cycle ++ (pins ++ rest)
  unfolding blanked_from bytes_of event_words
  split l = rw (one_less n i l, add-one i)

  -- the two words of event i, and the events behind it
  stored : sets (sets (sets out (at + 8 * i) cycle) (at + 8 * i + 4) pins) (at + 8 * (i + 1)) rest ≡ sets out (at + 8 * i) (cycle ++ (pins ++ rest))
  unfolding word_bytes
  stored =
      let next : at + 8 * (i + 1) ≡ at + 8 * i + 4 + 4 = omega arith in
      ap (λ (k : ℕ). sets (sets (sets out (at + 8 * i) cycle) (at + 8 * i + 4) pins) k rest) next
      ∙ sets-append (sets out (at + 8 * i) cycle) (at + 8 * i + 4) pins rest
      ∙ sets-append out (at + 8 * i) cycle (pins ++ rest)

  pub writes-on : i < n → {o p : List ℕ} {t w : ℕ} → t ≡ (event_at bytes i).cycle → w ≡ blank_pins s (event_at bytes i).pins →
      o ≡ sets out (at + 8 * i) (word_bytes t) → p ≡ sets o (at + 8 * i + 4) (word_bytes w) → Writing s bytes n out₀ at p (i + 1)
  writes-on l {o} {p} {t} {w} e f g h =
      let there : p ≡ sets (sets out (at + 8 * i) cycle) (at + 8 * i + 4) pins =
      h ∙ (λ j. sets ((g ∙ ap (λ (k : ℕ). sets out (at + 8 * i) (word_bytes k)) e) j) (at + 8 * i + 4) (word_bytes (f j))) in
      record {
        within = omega arith;
        long = ap length there ∙ length-sets (sets out (at + 8 * i) cycle) (at + 8 * i + 4) pins ∙ length-sets out (at + 8 * i) cycle ∙ x.long;
        same = rw there (stored ∙ sym (ap (sets out (at + 8 * i)) (split l)) ∙ x.same);
      }

  nothing : n ≤ i → blanked_from s bytes i (n - i) ≡ []
  unfolding blanked_from bytes_of event_words
  nothing l = rw (none_left n i l)

  pub written : n ≤ i → out ≡ sets out₀ at (blanked_events s bytes n)
  written l = sym (ap (sets out (at + 8 * i)) (nothing l)) ∙ x.same
