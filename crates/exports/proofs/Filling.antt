-- Records stored as events, one behind the other.
use Rattle.std.proofs.Common.{◌≡◌, ℕ, suc, ◌+◌, ◌-◌, ◌*◌, ◌^◌, ◌<◌, ◌≤◌, List, [], ◌++◌, length, sym, refl, ap, ◌∙◌, add-one, arith, length-append, le-ltb, lt-ltb}
use native.Mathlib.Nat.{sub-zero}
use lib.Seq.{sets, length-sets}
use Rattle.reading.specs.Words.{word_bytes, bytes_of}
use Rattle.reading.specs.Settings.{settings_count}
use Rattle.reading.specs.Capture.{events_start, capture_size}
use Rattle.reading.specs.Schedule.{event_words, header_of}
use Rattle.reading.specs.Export.{stamp_at, record_pins, apart, cycle_of}
use Rattle.words.proofs.Runs.{sets-append}
use Rattle.words.proofs.Search.{one_less, none_left}
use Rattle.words.proofs.Words.{bytes_of-length}
use Rattle.std.specs.Prelude.{Ok, Err}
use Rattle.refusal.specs.declared.Refusal.TheVariants.{Room}
use Rattle.exports.specs.Meaning.{records_from, records_in, filled, filling}
use Rattle.exports.proofs.Stamps.{from, behind, cycle-is}

-- two words in a row
pub two-words : (out : List ℕ) {o p : List ℕ} (at v w : ℕ) → o ≡ sets out at (word_bytes v) → p ≡ sets o (at + 4) (word_bytes w) → p ≡ sets out at (word_bytes v ++ word_bytes w)
unfolding word_bytes
two-words out at v w e f = f ∙ ap (λ (l : List ℕ). sets l (at + 4) (word_bytes w)) e ∙ sets-append out at (word_bytes v) (word_bytes w)

-- the events of the records before record i are stored; the cycle and the stamp are those that it is counted from
pub record Reading (records : List ℕ) (n : ℕ) (out₀ out : List ℕ) (cycle before i : ℕ) : Type 0 where
  pub within : i ≤ n
  pub long : length out ≡ length out₀
  pub counted : cycle ≡ from records i
  pub stamp : before ≡ behind records i
  pub early : cycle ≤ 65535 * i
  pub same : sets out (80 + 8 * i) (records_from records i (n - i)) ≡ sets out₀ 80 (records_in records n)

pub reads_none : (records : List ℕ) (n : ℕ) (out : List ℕ) → Reading records n out out 0 0 0
reads_none records n out =
    record { within = omega arith; long = refl; counted = refl; stamp = refl; early = omega arith; same = rw (sub-zero n) }

module _ {records out₀ out : List ℕ} {n cycle before i : ℕ} (x : Reading records n out₀ out cycle before i) where
  abbrev event : List ℕ
  event = word_bytes (cycle_of records i) ++ word_bytes (record_pins records i)

  abbrev rest : List ℕ
  rest = records_from records (i + 1) (n - (i + 1))

  split : i < n → records_from records i (n - i) ≡ event ++ rest
  unfolding records_from bytes_of event_words word_bytes
  split l = rw (one_less n i l, add-one i)

  pub reads_on : i < n → {stamp next pins : ℕ} {o : List ℕ} → stamp < 2 ^ 16 → stamp ≡ stamp_at records i → next ≡ cycle + apart before stamp →
      pins ≡ record_pins records i → o ≡ sets out (80 + 8 * i) (word_bytes next ++ word_bytes pins) → Reading records n out₀ o next stamp (i + 1)
  unfolding word_bytes
  reads_on l {stamp} {next} {pins} {o} k s t w e =
      let counts : next ≡ cycle_of records i =
      t ∙ (λ j. x.counted j + apart (x.stamp j) (s j)) ∙ cycle-is records i (omega arith) in
      let there : o ≡ sets out (80 + 8 * i) event = e ∙ (λ j. sets out (80 + 8 * i) (word_bytes (counts j) ++ word_bytes (w j))) in
      let place : 80 + 8 * (i + 1) ≡ 80 + 8 * i + length event = omega arith in
      let one : i + 1 ≡ suc i = add-one i in
      record {
        within = omega arith;
        long = ap length there ∙ length-sets out (80 + 8 * i) event ∙ x.long;
        counted = counts ∙ sym (ap (from records) one);
        stamp = s ∙ sym (ap (behind records) one);
        early = omega (arith, x.early);
        same =
            (λ j. sets (there j) (place j) rest) ∙ sets-append out (80 + 8 * i) event rest
            ∙ sym (ap (sets out (80 + 8 * i)) (split l)) ∙ x.same;
      }

  nothing : n ≤ i → records_from records i (n - i) ≡ []
  unfolding records_from bytes_of event_words
  nothing l = rw (none_left n i l)

  pub all_read : n ≤ i → out ≡ sets out₀ 80 (records_in records n)
  all_read l = sym (ap (sets out (80 + 8 * i)) (nothing l)) ∙ x.same

-- ---- behind the front of a capture

module _ (records settings : List ℕ) (edition n : ℕ) (out : List ℕ) {bytes : ℕ} (is-size : bytes ≡ capture_size settings_count n) where
  pub too_short : length out < bytes → (Err (Room bytes) ≡ filled out n) × (out ≡ filling records settings edition n out)
  unfolding filled filling
  too_short l = rw (is-size, lt-ltb (length out) (capture_size settings_count n) (omega arith)) (refl, refl)

  module _ (l : bytes ≤ length out) (h : length settings ≡ settings_count) {o₁ o₂ : List ℕ}
      (a : o₁ ≡ sets out 0 (bytes_of (header_of edition (length settings) n ++ settings)))
      (b : o₂ ≡ sets o₁ (events_start settings_count) (records_in records n)) where
    both_stored : o₂ ≡ sets out 0 (bytes_of (header_of edition (length settings) n ++ settings) ++ records_in records n)
    both_stored =
        let header = header_of edition (length settings) n in
        let place : events_start settings_count ≡ 0 + length (bytes_of (header ++ settings)) =
        omega (arith, bytes_of-length (header ++ settings), length-append header settings) in
        b ∙ (λ i. sets (a i) (place i) (records_in records n)) ∙ sets-append out 0 (bytes_of (header ++ settings)) (records_in records n)

    pub wrote : (Ok bytes ≡ filled out n) × (o₂ ≡ filling records settings edition n out)
    unfolding filled filling
    wrote = rw (is-size, le-ltb (length out) (capture_size settings_count n) (omega arith)) (refl, both_stored)
