-- What was counted, written and found of a clean capture is what the reading says.
use Prim.Native.Nat.{ℕ, zero, suc, ◌+◌, ◌*◌, ◌^◌, ◌≤◌, ◌<◌}
use mathlib.Core.List.{List, [], ◌∷◌, ◌++◌, map, append_assoc, append-nil}
use mathlib.Core.Option.{Option}
use mathlib.Core.Path.{◌≡◌, refl, sym, ap, ◌∙◌, subst}
use native.Mathlib.Nat.{zero-add}
use native.Mathlib.Numerals.{add-one}
use native.Mathlib.Omega.{arith}
use lib.ListN.{length, get_or, set, take, drop, length-set, length-append, length-drop}
use lib.Seq.{sets, take-suc-set, drop-cons, take_all}
use Rattle.reading.specs.Search.{count}
use Rattle.reading.specs.Capture.{Event, most_events, capture_size, count_in, events_start, event_count, event_bytes, event_at, events_of}
use Rattle.reading.specs.Verdict.{clean}
use Rattle.reading.specs.Answers.{Answer, answered, accepted, settings_in, verdict_in}
use Rattle.reading.specs.Openings.{openings_of, opening_words, index_of, Record, records_from, records_of, row_after}
use Rattle.reading.specs.OpenRow.{index_in, records_in, row_in}
use Rattle.words.proofs.Runs.{front, none-behind}
use Rattle.capture.proofs.Accepted.{Sized, accepted-sound}
use Rattle.std.specs.Prelude as std
use Rattle.std.specs.Prelude.{Some, None}
use Rattle.std.specs.Option.{option_map}
use Rattle.words.specs.Found.{place_of}
use Rattle.banks.specs.declared.Bank.{Bank}
use Rattle.banks.specs.Banks.{bank_at, bank_of, record_of, found, told_of}
use Rattle.rows.specs.declared.Tally.{Tally}
use Rattle.rows.specs.Walks.{Standing, Few, none_yet, tallied_from, events_up_to, opened_by_all, stand_after, row_stood}
use Rattle.rows.proofs.AsStood.{row-stood}
use Rattle.rows.proofs.Opened.{index-so}
use Rattle.rows.proofs.Tallying.{few-more, tallied-few, tallied-so}
use Rattle.rows.proofs.Writing.{words-length}

-- ---- the records of the banks, one after the other

pub record Telling (counts : List ℕ) (banks : List Bank) (before i : ℕ) : Type 0 where
  pub within : i ≤ 4
  pub long : length banks ≡ 4
  pub small : before ≤ 8000 * i
  pub same : take i banks ++ map bank_of (records_from before (drop i counts)) ≡ map bank_of (records_from 0 counts)

pub tells-none : (counts : List ℕ) {banks : List Bank} → length banks ≡ 4 → Telling counts banks 0 0
tells-none counts four = record { within = omega arith; long = four; small = omega arith; same = refl }

module _ {t : Tally} {banks : List Bank} {before i : ℕ} (f : Few t 8000) (x : Telling t.counts banks before i) where
  abbrev count_at : ℕ
  count_at = get_or t.counts i 0

  abbrev told-bank : Bank
  told-bank = record { before = before; count = count_at }

  pub tells-room : i < 4 → before + count_at < 2 ^ 32
  tells-room l = omega (arith, x.small, f.each i)

  pub tells-on : i < 4 → Telling t.counts (set banks i told-bank) (before + count_at) (i + 1)
  tells-on l =
      record {
        within = omega arith;
        long = length-set banks i told-bank ∙ x.long;
        small = omega (arith, x.small, f.each i);
        same =
            rw (
              add-one i,
              take-suc-set banks i told-bank (omega (arith, x.long)),
              append_assoc (take i banks) (told-bank ∷ []) (map bank_of (records_from (before + count_at) (drop (suc i) t.counts))),
            )
            (sym (ap (λ (l : List ℕ). take i banks ++ map bank_of (records_from before l)) (drop-cons t.counts i 0 (omega (arith, f.four)))) ∙ x.same);
      }

  pub told-all : 4 ≤ i → banks ≡ map bank_of (records_from 0 t.counts)
  told-all l =
      sym (rw (none-behind t.counts i (omega (arith, f.four)), take_all i banks (omega (arith, x.long)), append-nil banks)) ∙ x.same

pub four-records : (l : List ℕ) → length l ≡ 4 →
    (record { before = 0; count = get_or l 0 0 } ∷ record { before = get_or l 0 0; count = get_or l 1 0 } ∷ record { before = get_or l 0 0 + get_or l 1 0; count = get_or l 2 0 }
    ∷ record { before = get_or l 0 0 + get_or l 1 0 + get_or l 2 0; count = get_or l 3 0 } ∷ []) ≡ map bank_of (records_from 0 l)
four-records [] e = absurd (omega (arith, e))
four-records (a ∷ []) e = absurd (omega (arith, e))
four-records (a ∷ b ∷ []) e = absurd (omega (arith, e))
four-records (a ∷ b ∷ c ∷ []) e = absurd (omega (arith, e))
four-records (a ∷ b ∷ c ∷ d ∷ []) e =
    let from : a ≡ 0 + a = sym (zero-add a) in
    λ i. record { before = 0; count = a } ∷ record { before = from i; count = b } ∷ record { before = from i + b; count = c }
    ∷ record { before = from i + b + c; count = d } ∷ []
four-records (a ∷ b ∷ c ∷ d ∷ x ∷ l) e = absurd (omega (arith, e))

-- all openings together are few
pub last-small : {t : Tally} {banks : List Bank} → Few t 8000 → banks ≡ map bank_of (records_from 0 t.counts) →
    (bank_at banks 3).before + (bank_at banks 3).count ≤ 32000
last-small {t} {banks} f e =
    subst (λ (b : Bank). b.before + b.count ≤ 32000) (ap (λ (l : List Bank). bank_at l 3) (four-records t.counts f.four ∙ sym e))
    (omega (arith, f.each 0, f.each 1, f.each 2, f.each 3))

-- the first of the events that are counted out
take_count : {A : Type 0} (f : ℕ → A) (from n k : ℕ) → k ≤ n → take k (map f (count from n)) ≡ map f (count from k)
take_count f from n zero l = refl
take_count f from zero (suc k) l = absurd (omega (arith, l))
take_count {A} f from (suc n) (suc k) l = ap (λ (m : List A). f from ∷ m) (take_count f (suc from) n k (omega (arith, l)))

module _ (capture : List ℕ) (open-to : accepted capture (answered (tt {0})) ≡ answered tt) (cleaned : verdict_in capture ≡ clean) where
  sized : Sized most_events capture
  sized = (accepted-sound capture open-to).sized

  pub long : capture_size (count_in capture) (event_count capture) ≤ length capture
  long = omega (arith, sized.size)

  pub there : 8 * event_count capture ≤ length (event_bytes capture)
  there = omega (arith, long, length-drop (events_start (count_in capture)) capture)

  pub few-events : event_count capture ≤ 8000
  few-events = sized.few

  -- ---- what was counted

  module _ {n : ℕ} (e : n ≡ event_count capture) {t : Tally} (f : t ≡ tallied_from capture none_yet 0 n) where
    pub counted-few : Few t 8000
    counted-few = few-more t n 8000 (subst (λ (k : Tally). Few k n) (sym f) (tallied-few capture n)) (omega (arith, e, sized.few))

    pub counted-so : {banks : List Bank} → banks ≡ map bank_of (records_from 0 t.counts) → banks ≡ map bank_of (records_in capture)
    unfolding records_in records_of events_of
    counted-so g =
        g
        ∙ ap (λ (l : List ℕ). map bank_of (records_from 0 l))
        (ap (λ (k : Tally). k.counts) f ∙ (tallied-so (settings_in capture) capture n (omega (arith, e))
        ∙ ap (λ (k : ℕ). map (λ b. length (openings_of (settings_in capture) (events_up_to capture k) b)) (count 0 4)) e))

  -- the words that are needed
  pub words-needed : {banks : List Bank} {last : Bank} {words : ℕ} → banks ≡ map bank_of (records_in capture) → last ≡ bank_at banks 3 →
      words ≡ 3 * (last.before + last.count) → words ≡ length (index_in capture)
  unfolding index_in index_of records_in records_of
  words-needed {banks} {last} {words} e f g =
      let o = openings_of (settings_in capture) (events_of capture) in
      let is : last ≡ record { before = 0 + length (o 0) + length (o 1) + length (o 2); count = length (o 3) } = f ∙ ap (λ (l : List Bank). bank_at l 3) e in
      g
      ∙ (ap (λ (b : Bank). 3 * (b.before + b.count)) is
      ∙ omega (
        arith,
        words-length (o 0 ++ o 1 ++ o 2 ++ o 3),
        length-append (o 0 ++ o 1 ++ o 2) (o 3),
        length-append (o 0 ++ o 1) (o 2),
        length-append (o 0) (o 1),
      ))

  -- ---- what is written

  written : {n : ℕ} → n ≡ event_count capture → opening_words (opened_by_all (events_up_to capture n)) ≡ index_in capture
  unfolding index_in events_of verdict_in
  written e =
      ap (λ (k : ℕ). opening_words (opened_by_all (events_up_to capture k))) e
      ∙ index-so (settings_in capture) (events_up_to capture (event_count capture)) cleaned

  pub writes : {n words room : ℕ} → n ≡ event_count capture → words ≡ length (index_in capture) → words ≤ room →
      3 * length (opened_by_all (events_up_to capture n)) ≤ room
  writes {n} e f l = omega (arith, l, f, ap length (written e), words-length (opened_by_all (events_up_to capture n)))

  pub wrote : {n : ℕ} (index : List ℕ) {index' : List ℕ} → n ≡ event_count capture → length (index_in capture) ≤ length index →
      index' ≡ sets index 0 (opening_words (opened_by_all (events_up_to capture n))) → index' ≡ index_in capture ++ drop (length (index_in capture)) index
  wrote index e l f = f ∙ (ap (sets index 0) (written e) ∙ front (index_in capture) index l)

  -- ---- what is answered

  pub stood-so : (bank event : ℕ) {k : ℕ} {x : Standing} → event < event_count capture → k ≡ event + 1 → x ≡ stand_after bank (events_up_to capture k) →
      row_stood x ≡ row_in capture bank event
  unfolding row_in row_after events_of
  stood-so bank event l e f =
      let one : event + 1 ≡ suc event = omega arith in
      ap row_stood f
      ∙ (ap (λ (m : ℕ). row_stood (stand_after bank (events_up_to capture m))) (e ∙ one)
      ∙ (ap (λ (es : List Event). row_stood (stand_after bank es)) (sym (take_count (event_at (event_bytes capture)) 0 (event_count capture) (suc event) (omega (arith, l))))
      ∙ sym (row-stood (settings_in capture) bank (take (suc event) (events_of capture)))))

  -- the row that is open, or none
  pub row-open : (x : Standing) → place_of (option_map (λ o. o.row) x) ≡ row_stood x
  row-open None = refl
  row-open (Some o) = refl

  same_records : (rs : List Record) → map record_of (map bank_of rs) ≡ rs
  same_records [] = refl
  same_records (r ∷ rs) = ap (λ (l : List Record). r ∷ l) (same_records rs)

  pub answered-told : (bank event : ℕ) (row : std.Option ℕ) {a : Answer (Option ℕ)} {banks : List Bank} → a ≡ answered (row_in capture bank event) →
      place_of row ≡ row_in capture bank event → banks ≡ map bank_of (records_in capture) →
      answered (found (record { row = row; banks = banks })) ≡ told_of a (records_in capture)
  answered-told bank event row {a} {banks} e f g =
      (λ i. answered (f i, (ap (map record_of) g ∙ same_records (records_in capture)) i)) ∙ ap (λ (b : Answer (Option ℕ)). told_of b (records_in capture)) (sym e)
