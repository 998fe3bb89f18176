-- Records counted and stored, with the NOPs between them.
use Rattle.std.proofs.Common.{◌≡◌, ℕ, suc, ◌+◌, ◌-◌, ◌*◌, ◌%◌, ◌<◌, ◌≤◌, true, false, ltb, List, [], ◌∷◌, ◌++◌, map, length, sym, refl, ap, ◌∙◌, append_assoc, add-zero, add-one, arith, length-append, le-ltb, lt-ltb}
use native.Mathlib.Nat.{sub-zero}
use lib.ListN.{length-map}
use lib.Seq.{sets, length-sets}
use Rattle.reading.specs.Search.{count}
use Rattle.reading.specs.Words.{word_bytes, half_bytes}
use Rattle.reading.specs.Capture.{Event, event_at, last_cycle}
use Rattle.reading.specs.Export.{most_records, around, reach, between, nop, nops, bridged_from, bridged, record_bytes, export_of, first_cycle}
use Rattle.words.proofs.Runs.{sets-append}
use Rattle.words.proofs.Search.{one_less, none_left}
use Rattle.capture.proofs.Accepted.{length-count}
use Rattle.exports.specs.Meaning.{Given, events_from, events_in, Writable, Bridging, too_far}

-- ---- lengths

pub nops-length : (last t : ℕ) → length (nops last t) ≡ between last t
unfolding nops
nops-length last t = length-map (count 0 (between last t)) (nop last) ∙ length-count 0 (between last t)

pub bridged-length : (last : ℕ) (e : Event) (es : List Event) →
    length (bridged_from last (e ∷ es)) ≡ between last e.cycle + 1 + length (bridged_from e.cycle es)
unfolding bridged_from
bridged-length last e es =
    omega (arith, length-append (nops last e.cycle) (e ∷ bridged_from e.cycle es), nops-length last e.cycle)

pub export-append : (es fs : List Event) → export_of (es ++ fs) ≡ export_of es ++ export_of fs
unfolding export_of
export-append [] fs = refl
export-append (e ∷ es) fs =
    ap (λ (l : List ℕ). record_bytes e ++ l) (export-append es fs) ∙ sym (append_assoc (record_bytes e) (export_of es) (export_of fs))

pub export-length : (es : List Event) → length (export_of es) ≡ 6 * length es
unfolding export_of half_bytes word_bytes
export-length [] = refl
export-length (e ∷ es) = omega (arith, export-length es)

-- ---- events, one after another

module _ (bytes : List ℕ) (n i : ℕ) where
  next-event : i < n → events_from bytes n i ≡ event_at bytes i ∷ events_from bytes n (i + 1)
  next-event l = rw (one_less n i l, add-one i)

  no-event : n ≤ i → events_from bytes n i ≡ []
  no-event l = rw (none_left n i l)

all-events : (bytes : List ℕ) (n : ℕ) → events_from bytes n 0 ≡ events_in bytes n
all-events bytes n = ap (λ (k : ℕ). map (event_at bytes) (count 0 k)) (sub-zero n)

-- ---- counted

-- the records of the events before event i were counted
pub record Counting (bytes : List ℕ) (n needed last i : ℕ) : Type 0 where
  pub within : i ≤ n
  pub small : needed ≤ 30519 * i
  pub same : needed + length (bridged_from last (events_from bytes n i)) ≡ length (bridged (events_in bytes n))

pub counts-none : (bytes : List ℕ) (n : ℕ) → Counting bytes n 0 0 0
counts-none bytes n =
    record {
      within = omega arith;
      small = omega arith;
      same = omega (arith, ap (λ (es : List Event). length (bridged_from 0 es)) (all-events bytes n));
    }

module _ {bytes : List ℕ} {n needed last i : ℕ} (x : Counting bytes n needed last i) where
  pub counts-on : i < n → Given bytes n → {t k next : ℕ} → t ≡ (event_at bytes i).cycle → k ≡ between last t → next ≡ needed + k + 1 → Counting bytes n next t (i + 1)
  counts-on l g {t} {k} {next} e f h =
      let split = ap (λ (es : List Event). length (bridged_from last es)) (next-event bytes n i l)
      ∙ bridged-length last (event_at bytes i) (events_from bytes n (i + 1)) in
      let gap : between last (event_at bytes i).cycle ≡ between last t = ap (between last) (sym e) in
      let tail : length (bridged_from (event_at bytes i).cycle (events_from bytes n (i + 1))) ≡ length (bridged_from t (events_from bytes n (i + 1))) =
      ap (λ (u : ℕ). length (bridged_from u (events_from bytes n (i + 1)))) (sym e) in
      let most : between last t ≤ 30518 = omega (arith, g.early i l) in
      record { within = omega arith; small = omega (arith, x.small); same = omega (arith, x.same) }

  pub all-counted : n ≤ i → needed ≡ length (bridged (events_in bytes n))
  unfolding bridged_from
  all-counted l = omega (arith, x.same, ap (λ (es : List Event). length (bridged_from last es)) (no-event bytes n i l))

-- ---- too far

module _ (bytes : List ℕ) (n : ℕ) where
  pub none-far : n ≡ 0 → false ≡ too_far (events_in bytes n)
  unfolding bridged_from
  none-far e = sym (rw e)

  module _ (l : 0 < n) {t : ℕ} (e : t ≡ (event_at bytes 0).cycle) where
    first-is : first_cycle (events_in bytes n) ≡ t
    first-is = ap first_cycle (sym (all-events bytes n) ∙ next-event bytes n 0 l) ∙ sym e

    pub first-far : reach < t → true ≡ too_far (events_in bytes n)
    first-far m = sym (rw (first-is, lt-ltb reach t m))

    pub counted-far : t ≤ reach → {records : ℕ} → records ≡ length (bridged (events_in bytes n)) → ltb most_records records ≡ too_far (events_in bytes n)
    counted-far m f = ap (ltb most_records) f ∙ sym (rw (first-is, le-ltb reach t m))

-- ---- a record

pub stamp-and-pins : (out : List ℕ) {o p : List ℕ} (at v w : ℕ) → o ≡ sets out at (half_bytes v) → p ≡ sets o (at + 2) (word_bytes w) →
    p ≡ sets out at (half_bytes v ++ word_bytes w)
unfolding half_bytes
stamp-and-pins out at v w e f = f ∙ ap (λ (l : List ℕ). sets l (at + 2) (word_bytes w)) e ∙ sets-append out at (half_bytes v) (word_bytes w)

-- ---- NOPs stored

abbrev nops_from : ℕ → ℕ → ℕ → List Event
nops_from last k j = map (nop last) (count j (k - j))

pub record Nopping (last k : ℕ) (out₀ : List ℕ) (at : ℕ) (out : List ℕ) (cycle j : ℕ) : Type 0 where
  pub within : j ≤ k
  pub long : length out ≡ length out₀
  pub counted : cycle ≡ last + reach * j
  pub same : sets out (at + 6 * j) (export_of (nops_from last k j)) ≡ sets out₀ at (export_of (map (nop last) (count 0 k)))

pub nops-none : (last k : ℕ) (out : List ℕ) (at : ℕ) → Nopping last k out at out last 0
nops-none last k out at = record { within = omega arith; long = refl; counted = omega arith; same = rw (sub-zero k, add-zero at) }

module _ {last k at cycle j : ℕ} {out₀ out : List ℕ} (x : Nopping last k out₀ at out cycle j) where
  split : j < k → export_of (nops_from last k j) ≡ record_bytes (nop last j) ++ export_of (nops_from last k (j + 1))
  unfolding export_of
  split l = rw (one_less k j l, add-one j)

  pub nops-on : j < k → {next : ℕ} {o : List ℕ} → next ≡ cycle + reach → o ≡ sets out (at + 6 * j) (half_bytes (next % around) ++ word_bytes 0xE0000) →
      Nopping last k out₀ at o next (j + 1)
  unfolding half_bytes word_bytes
  nops-on l {next} {o} e f =
      let reached : next ≡ last + reach * suc j = omega (arith, x.counted) in
      let there : o ≡ sets out (at + 6 * j) (record_bytes (nop last j)) =
      f ∙ ap (λ (t : ℕ). sets out (at + 6 * j) (half_bytes (t % around) ++ word_bytes 0xE0000)) reached in
      let place : at + 6 * (j + 1) ≡ at + 6 * j + length (record_bytes (nop last j)) = omega arith in
      record {
        within = omega arith;
        long = ap length there ∙ length-sets out (at + 6 * j) (record_bytes (nop last j)) ∙ x.long;
        counted = omega (arith, x.counted);
        same =
            (λ i. sets (there i) (place i) (export_of (nops_from last k (j + 1))))
            ∙ sets-append out (at + 6 * j) (record_bytes (nop last j)) (export_of (nops_from last k (j + 1)))
            ∙ sym (ap (sets out (at + 6 * j)) (split l)) ∙ x.same;
      }

  pub nops-stored : k ≤ j → out ≡ sets out₀ at (export_of (map (nop last) (count 0 k)))
  unfolding export_of
  nops-stored l = sym (rw (none_left k j l)) ∙ x.same

-- ---- all records stored

pub record Exporting (bytes : List ℕ) (n : ℕ) (out₀ out : List ℕ) (at last i : ℕ) : Type 0 where
  pub within : i ≤ n
  pub long : length out ≡ length out₀
  pub early : last ≤ last_cycle
  pub room : at + 6 * length (bridged_from last (events_from bytes n i)) ≤ length out₀
  pub same : sets out at (export_of (bridged_from last (events_from bytes n i))) ≡ sets out₀ 0 (export_of (bridged (events_in bytes n)))

pub stores-none : (bytes : List ℕ) (n : ℕ) (out : List ℕ) → Writable bytes n out → Exporting bytes n out out 0 0 0
stores-none bytes n out w =
    record {
      within = omega arith;
      long = refl;
      early = omega arith;
      room = omega (arith, w.room, ap (λ (es : List Event). length (bridged_from 0 es)) (all-events bytes n));
      same = ap (λ (es : List Event). sets out 0 (export_of (bridged_from 0 es))) (all-events bytes n);
    }

module _ {bytes : List ℕ} {n at last i : ℕ} {out₀ out : List ℕ} (x : Exporting bytes n out₀ out at last i) (l : i < n) (g : Given bytes n)
    {t k : ℕ} (e : t ≡ (event_at bytes i).cycle) (f : k ≡ between last t) where
  abbrev rest : List Event
  rest = events_from bytes n (i + 1)

  next-is : events_from bytes n i ≡ event_at bytes i ∷ rest
  next-is = next-event bytes n i l

  taken : length (bridged_from last (events_from bytes n i)) ≡ k + 1 + length (bridged_from t rest)
  taken =
      ap (λ (es : List Event). length (bridged_from last es)) next-is ∙ bridged-length last (event_at bytes i) rest
      ∙ (λ j. between last (sym e j) + 1 + length (bridged_from (sym e j) rest))
      ∙ ap (λ (m : ℕ). m + 1 + length (bridged_from t rest)) (sym f)

  -- the NOPs are in time, and there is room for them and for the event
  pub bridging : Bridging last k out at
  bridging =
      record {
        early = omega (arith, x.early, g.early i l);
        room = omega (arith, x.room, x.long, taken);
      }

  pub place-fits : at + 6 * k + 6 ≤ length out
  place-fits = omega (arith, x.room, x.long, taken)

  pub stores-on : {pins here next : ℕ} {o p : List ℕ} → pins ≡ (event_at bytes i).pins → here ≡ at + 6 * k → next ≡ here + 6 →
      o ≡ sets out at (export_of (map (nop last) (count 0 k))) → p ≡ sets o here (half_bytes (t % around) ++ word_bytes pins) →
      Exporting bytes n out₀ p next t (i + 1)
  unfolding bridged_from nops export_of half_bytes word_bytes
  stores-on {pins} {here} {next} {o} {p} w h q a b =
      let between-them : List Event = map (nop last) (count 0 k) in
      let filled : length (export_of between-them) ≡ 6 * k =
      export-length between-them ∙ ap (λ (m : ℕ). 6 * m) (length-map (count 0 k) (nop last) ∙ length-count 0 k) in
      let event : List ℕ = record_bytes (event_at bytes i) in
      let behind : List ℕ = export_of (bridged_from t rest) in
      let record_is : half_bytes (t % around) ++ word_bytes pins ≡ event = (λ j. half_bytes (e j % around) ++ word_bytes (w j)) in
      let first : here ≡ at + length (export_of between-them) = omega arith in
      let second : next ≡ at + length (export_of between-them ++ event) = omega (arith, length-append (export_of between-them) event) in
      let stored : p ≡ sets out at (export_of between-them ++ event) =
      b ∙ (λ j. sets (a j) (first j) (record_is j)) ∙ sets-append out at (export_of between-them) event in
      let all : (export_of between-them ++ event) ++ behind ≡ export_of (bridged_from last (events_from bytes n i)) =
      append_assoc (export_of between-them) event behind
      ∙ sym (export-append between-them (event_at bytes i ∷ bridged_from t rest))
      ∙ (λ j. export_of (map (nop last) (count 0 (f j)) ++ event_at bytes i ∷ bridged_from (e j) rest))
      ∙ ap (λ (m : ℕ). export_of (map (nop last) (count 0 (between last m)) ++ event_at bytes i ∷ bridged_from (event_at bytes i).cycle rest)) e
      ∙ sym (ap (λ (es : List Event). export_of (bridged_from last es)) next-is) in
      record {
        within = omega arith;
        long = ap length stored ∙ length-sets out at (export_of between-them ++ event) ∙ x.long;
        early = omega (arith, g.early i l);
        room = omega (arith, x.room, taken);
        same =
            (λ j. sets (stored j) (second j) behind) ∙ sets-append out at (export_of between-them ++ event) behind ∙ ap (sets out at) all ∙ x.same;
      }

pub all-stored : {bytes : List ℕ} {n at last i : ℕ} {out₀ out : List ℕ} → Exporting bytes n out₀ out at last i → n ≤ i →
    out ≡ sets out₀ 0 (export_of (bridged (events_in bytes n)))
unfolding bridged_from export_of
all-stored {bytes} {n} {at} {last} {i} {out₀} {out} x l =
    sym (ap (λ (es : List Event). sets out at (export_of (bridged_from last es))) (no-event bytes n i l)) ∙ x.same
