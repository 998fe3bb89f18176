-- An export read: its records may stand in a capture, and written again they are the export.
use Rattle.std.proofs.Common.{◌≡◌, ℕ, zero, suc, ◌+◌, ◌-◌, ◌*◌, ◌%◌, ◌^◌, ◌<◌, ◌≤◌, false, ltb, List, [], ◌∷◌, ◌++◌, map, length, get_or, take, drop, sym, refl, ap, ◌∙◌, zero-add, arith, take_all, drop-cons, drop-drop, take-add, ltb-true}
use mathlib.Core.Option.{none}
use borrow.Author.Tests.{eqb-false, not-false}
use lib.Dec.{eqb-suc-zero}
use Rattle.reading.specs.Search.{count}
use Rattle.reading.specs.Words.{word_bytes, half_bytes}
use Rattle.reading.specs.Settings.{settings_count, bad_setting}
use Rattle.reading.specs.Capture.{newest_edition}
use Rattle.reading.specs.Export.{record_count, stamp_at, record_pins, around, apart, cycle_of, record_of, records_of, stands, bad_pins, reach, record_bytes, export_of}
use Rattle.reading.proofs.Meaning.{event_of}
use Rattle.words.proofs.Bytes.{Bytes}
use Rattle.words.proofs.Counting.{at_count}
use Rattle.words.proofs.Halves.{half-fits, half-again, word-again}
use Rattle.words.proofs.Search.{none_below}
use Rattle.capture.proofs.Whole as capture
use Rattle.capture.proofs.Whole.{Orderly}
use Rattle.exports.specs.Meaning.{too_high}
use Rattle.exports.proofs.Incoming.{Whole, records-count}
use Rattle.exports.proofs.Back.{Near, points_near}

record-at : (x : List ℕ) (i : ℕ) → i < record_count x → event_of (records_of x) i ≡ record_of x i
unfolding records_of
record-at x i l = at_count (record_of x) _ 0 (record_count x) i l ∙ ap (record_of x) (zero-add i)

-- ---- the cycles of bytes

module _ (x : List ℕ) (b : Bytes x) where
  stamp-small : (i : ℕ) → stamp_at x i < 2 ^ 16
  stamp-small i = half-fits x (6 * i) b

  cycle-small : (i : ℕ) → cycle_of x i ≤ 65535 * suc i
  unfolding cycle_of
  cycle-small zero = omega (arith, stamp-small 0)
  cycle-small (suc i) = omega (arith, cycle-small i)

  step_small : (i : ℕ) → cycle_of x (suc i) ≤ cycle_of x i + reach
  unfolding cycle_of
  step_small i = omega arith

  -- modulo 65,536 they are the stamps
  stamp-is : (i : ℕ) → cycle_of x i % around ≡ stamp_at x i
  unfolding cycle_of
  stamp-is zero = omega (arith, stamp-small 0)
  stamp-is (suc i) = omega (arith, stamp-is i, stamp-small i, stamp-small (suc i))

  -- no two are further apart than stamps can tell
  pub near : Near 0 (records_of x)
  near =
      points_near 0 (records_of x)
      (λ l.
      let m : 0 < record_count x = omega (arith, records-count x) in
      rw (record-at x 0 m) (omega (arith, cycle-small 0)))
      (λ i l.
      let m : suc i < record_count x = omega (arith, records-count x) in
      rw (record-at x i (omega arith), record-at x (suc i) m) (step_small i))

  -- ---- an export that is not refused

  module _ (w : Whole x) (low : bad_pins x ≡ none) where
    apart_some : (i : ℕ) → suc i < record_count x → apart (stamp_at x i) (stamp_at x (suc i)) ≡ 0 → ⊥
    apart_some i l =
        let k : suc i - 1 ≡ i = omega arith in
        let still : stands x (suc i) ≡ false = none_below (stands x) (record_count x) w.moves (suc i) l in
        eqb-false (apart (stamp_at x i) (stamp_at x (suc i))) 0 (rw (eqb-suc-zero i, k) at still)

    cycles-rise : (i : ℕ) → suc i < record_count x → cycle_of x i < cycle_of x (suc i)
    unfolding cycle_of
    cycles-rise i l =
        let n = apart_some i l in
        let d : 0 < apart (stamp_at x i) (stamp_at x (suc i)) = omega arith in
        omega arith

    pins-low : (i : ℕ) → i < record_count x → record_pins x i < 2 ^ 20
    unfolding bad_pins
    pins-low i l = ltb-true _ _ (not-false (ltb (record_pins x i) (2 ^ 20)) (none_below (too_high x) (record_count x) low i l))

    -- its records may stand in a capture
    pub orderly : Orderly (2 ^ 20) (records_of x)
    orderly =
        record {
          few = omega (arith, w.few, records-count x);
          rise = λ i l.
              let m : suc i < record_count x = omega (arith, records-count x) in
              rw (record-at x i (omega arith), record-at x (suc i) m) (cycles-rise i m);
          low = λ i l. let m : i < record_count x = omega (arith, records-count x) in rw (record-at x i m) (pins-low i m);
          early = λ i l.
              let m : i < record_count x = omega (arith, records-count x) in
              rw (record-at x i m) (omega (arith, cycle-small i, w.few));
        }

    -- and settings that fit, of an edition that there is, make it whole
    pub whole : {edition : ℕ} {ws : List ℕ} → edition ≤ newest_edition → length ws ≡ settings_count → bad_setting ws ≡ none →
        capture.Whole edition ws (records_of x)
    whole k fourteen right =
        record {
          known = k;
          all = ap capture.count_for fourteen ∙ sym fourteen;
          right = right;
          orderly = rw fourteen orderly;
        }

-- ---- written again

six : (l : List ℕ) (at : ℕ) → at + 6 ≤ length l →
    take 6 (drop at l) ≡
    get_or l at 0 ∷ get_or l (at + 1) 0 ∷ get_or l (at + 2) 0 ∷ get_or l (at + 2 + 1) 0 ∷ get_or l (at + 2 + 2) 0 ∷ get_or l (at + 2 + 3) 0 ∷ []
six l at h =
    let e1 : suc at ≡ at + 1 = omega arith in
    let e2 : suc (suc at) ≡ at + 2 = omega arith in
    let e3 : suc (suc (suc at)) ≡ at + 2 + 1 = omega arith in
    let e4 : suc (suc (suc (suc at))) ≡ at + 2 + 2 = omega arith in
    let e5 : suc (suc (suc (suc (suc at)))) ≡ at + 2 + 3 = omega arith in
    rw (
      drop-cons l at 0 (omega arith),
      drop-cons l (suc at) 0 (omega arith),
      drop-cons l (suc (suc at)) 0 (omega arith),
      drop-cons l (suc (suc (suc at))) 0 (omega arith),
      drop-cons l (suc (suc (suc (suc at)))) 0 (omega arith),
      drop-cons l (suc (suc (suc (suc (suc at))))) 0 (omega arith),
    )
    (λ i. get_or l at 0 ∷ get_or l (e1 i) 0 ∷ get_or l (e2 i) 0 ∷ get_or l (e3 i) 0 ∷ get_or l (e4 i) 0 ∷ get_or l (e5 i) 0 ∷ [])

module _ (x : List ℕ) (b : Bytes x) where
  record-again : (i : ℕ) → 6 * i + 6 ≤ length x → record_bytes (record_of x i) ≡ take 6 (drop (6 * i) x)
  record-again i l =
      ap (λ (h : ℕ). half_bytes h ++ word_bytes (record_pins x i)) (stamp-is x b i)
      ∙ (λ j. half-again x (6 * i) b j ++ word-again x (6 * i + 2) b j)
      ∙ sym (six x (6 * i) l)

  again-from : (k n : ℕ) → 6 * (k + n) ≤ length x → export_of (map (record_of x) (count k n)) ≡ take (6 * n) (drop (6 * k) x)
  unfolding export_of
  again-from k zero l = refl
  again-from k (suc n) l =
      let e : 6 * suc n ≡ 6 + 6 * n = omega arith in
      let f : 6 * k + 6 ≡ 6 * suc k = omega arith in
      (λ i. record-again k (omega arith) i ++ again-from (suc k) n (omega arith) i)
      ∙ ap (λ (m : ℕ). take 6 (drop (6 * k) x) ++ take (6 * n) (drop m x)) (sym f)
      ∙ ap (λ (l : List ℕ). take 6 (drop (6 * k) x) ++ take (6 * n) l) (sym (drop-drop 6 (6 * k) x))
      ∙ sym (take-add 6 (6 * n) (drop (6 * k) x))
      ∙ ap (λ (m : ℕ). take m (drop (6 * k) x)) (sym e)

  pub again : length x ≡ 6 * record_count x → export_of (records_of x) ≡ x
  unfolding records_of
  again l = again-from 0 (record_count x) (omega arith) ∙ take_all (6 * record_count x) x (omega arith)
