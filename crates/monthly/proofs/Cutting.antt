-- A stream is cut where the reading cuts it, although no more of it is read than a capture can have.
use Prim.Native.Nat.{ℕ, suc, ◌≤◌, ◌<◌}
use mathlib.Core.Bool.{Bool, true, false, cond, and-false}
use mathlib.Core.List.{List, [], ◌∷◌}
use mathlib.Core.Path.{◌≡◌, refl, sym, ap, ◌∙◌}
use native.Mathlib.Decide.{dec_lt}
use native.Mathlib.Nat.{min-le_left, min-le_right}
use native.Mathlib.Omega.{arith}
use borrow.Author.Tests.{lt-ltb, le-ltb, lt-leb, ne_eqb}
use lib.Dec.{eqb}
use lib.ListN.{length, take, drop, length-take}
use lib.Seq.{get_or-take}
use Rattle.reading.specs.Words.{word_at}
use Rattle.reading.specs.Capture.{header_word, count_in, capture_size, most_events, length_fits_to}
use Rattle.reading.specs.Answers.{refused, accepted_to, judge_answer_to}
use Rattle.reading.specs.Month.{Line, Month, unused, line_of, ends_stream, behind, month_from}
use Rattle.capture.proofs.Accepted.{count-range}
use Rattle.monthly.specs.Meaning.{read_of, left_of}

-- ---- bytes of a length that no capture has

module _ (c : List ℕ) where
  abbrev refusal : Line
  refusal = unused (refused 1 0)

  unfit : length_fits_to most_events c ≡ false → line_of c ≡ refusal
  unfolding line_of judge_answer_to accepted_to
  unfit e = rw e

  pub short : length c < 80 → line_of c ≡ refusal
  unfolding length_fits_to
  short l =
      unfit (rw (lt-leb (capture_size (count_in c) 0) (length c) (omega (arith, (count-range c).0))))

  pub long : 64088 < length c → line_of c ≡ refusal
  unfolding length_fits_to
  long l =
      unfit (rw (lt-leb (length c) (capture_size (count_in c) most_events) (omega (arith, (count-range c).1)), and-false _))

  pub other : (header_word c 0 ≡ length c → ⊥) → line_of c ≡ refusal
  unfolding length_fits_to
  other f =
      unfit (rw (ne_eqb (header_word c 0) (length c) f, and-false _))

-- ---- what is read

module _ (stream : List ℕ) where
  abbrev total : ℕ
  total = header_word stream 0

  abbrev whole : List ℕ
  whole = take total stream

  taken : (n : ℕ) → (length (take n stream) ≤ n) × (length (take n stream) ≤ length stream)
  taken n = (omega (arith, length-take n stream, min-le_left n (length stream)), omega (arith, length-take n stream, min-le_right n (length stream)))

  -- the total word stands in what it counts out
  same_word : 4 ≤ total → header_word whole 0 ≡ total
  unfolding word_at
  same_word l =
      rw (
        get_or-take total stream 0 0 (omega arith),
        get_or-take total stream 1 0 (omega arith),
        get_or-take total stream 2 0 (omega arith),
        get_or-take total stream 3 0 (omega arith),
      )

  -- a total that no capture has is a refusal 1, whatever follows
  too_few : total < 80 → line_of whole ≡ refusal whole
  too_few l = short whole (omega (arith, (taken total).0))

  too_many : 64088 < total → line_of whole ≡ refusal whole
  too_many l = go (dec_lt 64088 (length whole))
    where
      go : Dec (64088 < length whole) → line_of whole ≡ refusal whole
      go (yes m) = long whole m
      go (no m) = other whole (λ e. omega (arith, e, same_word (omega (arith, l))))

  first-four : line_of (take 4 stream) ≡ refusal whole
  first-four = short (take 4 stream) (omega (arith, (taken 4).0))

  -- the line is that of what is read
  pub read-so : line_of (read_of stream) ≡ line_of whole
  read-so = go (dec_lt (length stream) 4) (dec_lt total 80) (dec_lt 64088 total)
    where
      go : Dec (length stream < 4) → Dec (total < 80) → Dec (64088 < total) → line_of (read_of stream) ≡ line_of whole
      go (yes l) p q = rw (lt-ltb (length stream) 4 l) (short stream (omega (arith, l)) ∙ sym (short whole (omega (arith, l, (taken total).1))))
      go (no l) (yes p) q = rw (le-ltb (length stream) 4 (omega arith), lt-ltb total 80 p) (first-four ∙ sym (too_few p))
      go (no l) (no p) (yes q) = rw (le-ltb (length stream) 4 (omega arith), le-ltb total 80 (omega arith), lt-ltb 64088 total q) (first-four ∙ sym (too_many q))
      go (no l) (no p) (no q) = rw (le-ltb (length stream) 4 (omega arith), le-ltb total 80 (omega arith), le-ltb 64088 total (omega arith))

  no_end : {A : Type 0} → line_of whole ≡ refusal whole → ends_stream (line_of whole).answer ≡ false → A
  no_end e f = let z : true ≡ false = sym (ap (λ (x : Line). ends_stream x.answer) e) ∙ f in let n : ◌≡◌ {A = ℕ} 0 1 = cc in absurd (omega arith)

  -- and where the stream does not end, so is what is left of it
  left_so : ends_stream (line_of whole).answer ≡ false → left_of stream ≡ drop total stream
  left_so f = go (dec_lt total 80) (dec_lt 64088 total)
    where
      go : Dec (total < 80) → Dec (64088 < total) → left_of stream ≡ drop total stream
      go (yes p) q = no_end (too_few p) f
      go (no p) (yes q) = no_end (too_many q) f
      go (no p) (no q) = rw (le-ltb total 80 (omega arith), le-ltb 64088 total (omega arith))

  -- so a month is what is read of a stream capture by capture
  pub step-by-step : (left : ℕ) → let x = line_of (read_of stream) in month_from (suc left) stream ≡
      cond (eqb (length stream) 0) (record { lines = []; ended = false; over = false })
      (cond (ends_stream x.answer) (record { lines = x ∷ []; ended = true; over = false }) (behind x (month_from left (left_of stream))))
  unfolding month_from
  step-by-step left =
      ap (cond (eqb (length stream) 0) (record { lines = []; ended = false; over = false }))
      (go (ends_stream (line_of whole).answer) refl ∙ ap (λ (x : Line). then_by x) (sym read-so))
    where
      then_by : Line → Month
      then_by x = cond (ends_stream x.answer) (record { lines = x ∷ []; ended = true; over = false }) (behind x (month_from left (left_of stream)))

      go : (b : Bool) → ends_stream (line_of whole).answer ≡ b →
          cond b (record { lines = line_of whole ∷ []; ended = true; over = false }) (behind (line_of whole) (month_from left (drop total stream))) ≡
          cond b (record { lines = line_of whole ∷ []; ended = true; over = false }) (behind (line_of whole) (month_from left (left_of stream)))
      go true e = refl
      go false e = ap (λ (s : List ℕ). behind (line_of whole) (month_from left s)) (sym (left_so e))
