-- Exports: reading and writing are refused exactly so, and leave the buffer then.
use Prim.Native.Nat.{ℕ, ◌*◌, ◌%◌, ◌≤◌, ◌<◌}
use mathlib.Core.Bool.{Bool, true, false, cond, not, ◌||◌, or-true}
use mathlib.Core.List.{List}
use mathlib.Core.Logic.{◌↔◌, ◌⊎◌, inl, inr}
use mathlib.Core.Option.{Option, none, some}
use mathlib.Core.Path.{◌≡◌, refl, sym, ap, ◌∙◌}
use native.Mathlib.Omega.{arith}
use borrow.Author.Tests.{eqb-true, eqb-false, ne_eqb, eq-eqb, ltb-true, ltb-false, lt-ltb, le-ltb}
use lib.Dec.{ltb, eqb}
use lib.ListN.{length}
use Rattle.reading.specs.Search.{given, or_else, lowest}
use Rattle.reading.specs.Settings.{settings_count, sleeping_count, bad_setting}
use Rattle.reading.specs.Capture.{most_events, newest_edition, header_word, count_in, capture_size, events_of}
use Rattle.reading.specs.Schedule.{capture_in}
use Rattle.reading.specs.Answers.{Answer, refused, unless, accepted, fitting}
use Rattle.reading.specs.Export.{most_records, record_count, records_of, stands, bad_export, bad_pins, read_outcome, reach, bridged, export_of, first_cycle, unwritable, write_outcome}
use Rattle.reading.proofs.Laws.{not-given}
use Rattle.capture.proofs.Outcome.{refused-by, too_long, lacking, refused-meets, leaves-refused}
use Rattle.capture.proofs.Accepted.{accepted-rest, refused-rest, refused-in}
use Rattle.capture.proofs.Whole as whole
use Rattle.exports.proofs.Incoming.{records-count}
use Rattle.exports.proofs.Bridges.{export-length}
use Rattle.demands.specs.Allowed.{Counted, Refuses, ReadsExport, WritesExport}
use Rattle.demands.specs.Refused.{opened, Accepted}
use Rattle.demands.specs.Exports.{Known, ReadRefused, Exportable, WriteRefused}
use Rattle.demands.specs.Exports as case
use Rattle.demands.proofs.Opening.{capture-refused-exactly}

given-some : (p : ℕ) (b : Bool) {q : ℕ} → given p b ≡ some q → (b ≡ true) × (q ≡ p)
given-some p true e = (refl, sym cc)
given-some p false e = let z : ◌≡◌ {A = ℕ} 0 1 = cc in absurd (omega arith)

-- ---- reading

module _ (x ws : List ℕ) (edition : ℕ) (out : List ℕ) where
  abbrev capture : List ℕ
  capture = capture_in edition ws (records_of x)

  abbrev wrong : Bool
  wrong = not (eqb (length ws) settings_count) || ltb newest_edition edition

  -- what each test is followed by
  abbrev behind4 : Answer (List ℕ)
  behind4 = fitting out capture

  abbrev behind11 : Answer (List ℕ)
  behind11 = unless 4 (bad_pins x) behind4

  abbrev behind3 : Answer (List ℕ)
  behind3 = unless 11 (bad_export x) behind11

  abbrev pub read_answer : Answer (List ℕ)
  read_answer = unless 2 (given 0 wrong) (unless 3 (bad_setting ws) behind3)

  -- settings and edition
  pub right : wrong ≡ false → (length ws ≡ 14) × (edition ≤ 1)
  right e = go (eqb (length ws) settings_count) (ltb newest_edition edition) refl refl e
    where
      go : (a b : Bool) → eqb (length ws) settings_count ≡ a → ltb newest_edition edition ≡ b → (not a || b) ≡ false → (length ws ≡ 14) × (edition ≤ 1)
      go true false f g k = (eqb-true (length ws) settings_count f, ltb-false newest_edition edition g)
      go true true f g k = let z : ◌≡◌ {A = ℕ} 0 1 = cc in absurd (omega arith)
      go false b f g k = let z : ◌≡◌ {A = ℕ} 0 1 = cc in absurd (omega arith)

  not_right : wrong ≡ true → (length ws ≡ 14 → ⊥) ⊎ (1 < edition)
  not_right e = go (eqb (length ws) settings_count) (ltb newest_edition edition) refl refl e
    where
      go : (a b : Bool) → eqb (length ws) settings_count ≡ a → ltb newest_edition edition ≡ b → (not a || b) ≡ true → (length ws ≡ 14 → ⊥) ⊎ (1 < edition)
      go false b f g k = inl (eqb-false (length ws) settings_count f)
      go true true f g k = inr (ltb-true newest_edition edition g)
      go true false f g k = let z : ◌≡◌ {A = ℕ} 0 1 = cc in absurd (omega arith)

  wrong-is : (length ws ≡ 14 → ⊥) ⊎ (1 < edition) → wrong ≡ true
  wrong-is (inl f) = rw (ne_eqb (length ws) settings_count f)
  wrong-is (inr l) = ap (λ (b : Bool). not (eqb (length ws) settings_count) || b) (lt-ltb newest_edition edition l) ∙ or-true (not (eqb (length ws) settings_count))

  pub right_is : length ws ≡ 14 → edition ≤ 1 → wrong ≡ false
  right_is f l = rw (eq-eqb (length ws) settings_count f, le-ltb newest_edition edition l)

  long : length ws ≡ 14 → length capture ≡ capture_size 14 (record_count x)
  long f = whole.size edition ws (records_of x) ∙ (λ i. capture_size (f i) (records-count x i))

  -- ---- from the answer to the case

  module _ (number place : ℕ) where
    at_7 : Known ws edition → bad_export x ≡ none → bad_pins x ≡ none → behind4 ≡ refused number place → ReadRefused x ws edition out number place
    at_7 k b p e =
        let (n, q, l) = lacking out capture e in
        let size = long k.fine.count in
        case.ReadRefused.short k b p n (q ∙ size) (omega arith)

    at-4 : Known ws edition → bad_export x ≡ none → behind11 ≡ refused number place → ReadRefused x ws edition out number place
    at-4 k b e = go (refused-by 4 (bad_pins x) behind4 e)
      where
        go : ((number ≡ 4) × (bad_pins x ≡ some place)) ⊎ ((bad_pins x ≡ none) × (behind4 ≡ refused number place)) → ReadRefused x ws edition out number place
        go (inl (n, p)) = case.ReadRefused.high k b n p
        go (inr (p, f)) = at_7 k b p f

    -- which of the three
    export-case : Known ws edition → number ≡ 11 → bad_export x ≡ some place → ReadRefused x ws edition out number place
    unfolding bad_export
    export-case k n e =
        go (eqb (length x % 6) 0) (ltb most_records (record_count x)) (lowest (stands x) (record_count x)) refl refl refl e
      where
        go : (a b : Bool) (o : Option ℕ) → eqb (length x % 6) 0 ≡ a → ltb most_records (record_count x) ≡ b → lowest (stands x) (record_count x) ≡ o →
            or_else (given 0 (not a)) (or_else (given most_records b) o) ≡ some place → ReadRefused x ws edition out number place
        go false b o f g h q = case.ReadRefused.uneven k (eqb-false (length x % 6) 0 f) n (sym cc)
        go true true o f g h q =
            case.ReadRefused.many k (eqb-true (length x % 6) 0 f) (ltb-true most_records (record_count x) g) n (sym cc)
        go true false o f g h q =
            case.ReadRefused.still k (eqb-true (length x % 6) 0 f) (ltb-false most_records (record_count x) g) n (h ∙ q)

    at-11 : Known ws edition → behind3 ≡ refused number place → ReadRefused x ws edition out number place
    at-11 k e = go (refused-by 11 (bad_export x) behind11 e)
      where
        go : ((number ≡ 11) × (bad_export x ≡ some place)) ⊎ ((bad_export x ≡ none) × (behind11 ≡ refused number place)) → ReadRefused x ws edition out number place
        go (inl (n, b)) = export-case k n b
        go (inr (b, f)) = at-4 k b f

    at-3 : length ws ≡ 14 → edition ≤ 1 → unless 3 (bad_setting ws) behind3 ≡ refused number place → ReadRefused x ws edition out number place
    at-3 c l e = go (refused-by 3 (bad_setting ws) behind3 e)
      where
        go : ((number ≡ 3) × (bad_setting ws ≡ some place)) ⊎ ((bad_setting ws ≡ none) × (behind3 ≡ refused number place)) → ReadRefused x ws edition out number place
        go (inl (n, b)) = case.ReadRefused.setting c l n b
        go (inr (b, f)) = at-11 (record { fine = record { count = c; each = b }; is-there = l }) f

    read-case : (read_outcome x ws edition out).answer ≡ refused number place → ReadRefused x ws edition out number place
    unfolding read_outcome
    read-case k = go (refused-by 2 (given 0 wrong) (unless 3 (bad_setting ws) behind3) (leaves-refused read_answer out k).0)
      where
        go : ((number ≡ 2) × (given 0 wrong ≡ some place)) ⊎ ((given 0 wrong ≡ none) × (unless 3 (bad_setting ws) behind3 ≡ refused number place)) →
            ReadRefused x ws edition out number place
        go (inl (n, g)) = let (w, p) = given-some 0 wrong g in case.ReadRefused.count (not_right w) n p
        go (inr (g, f)) = let (c, l) = right (not-given 0 wrong g) in at-3 c l f

    -- ---- and back

    tested : {a b c d : Option ℕ} → given 0 wrong ≡ a → bad_setting ws ≡ b → bad_export x ≡ c → bad_pins x ≡ d →
        unless 2 a (unless 3 b (unless 11 c (unless 4 d behind4))) ≡ refused number place → (read_outcome x ws edition out).answer ≡ refused number place
    unfolding read_outcome
    tested e f g h k = sym (refused-meets ((λ i. unless 2 (e i) (unless 3 (f i) (unless 11 (g i) (unless 4 (h i) behind4)))) ∙ k)).0

    fit : Known ws edition → given 0 wrong ≡ none
    fit k = ap (given 0) (right_is k.fine.count k.is-there)

    case-read : ReadRefused x ws edition out number place → (read_outcome x ws edition out).answer ≡ refused number place
    unfolding bad_export
    case-read (case.ReadRefused.count f n p) = tested (ap (given 0) (wrong-is f)) refl refl refl (λ i. refused (sym n i) (sym p i))
    case-read (case.ReadRefused.setting c l n b) =
        tested (ap (given 0) (right_is c l)) b refl refl (ap (λ (k : ℕ). refused k place) (sym n))
    case-read (case.ReadRefused.uneven k f n p) =
        let e : bad_export x ≡ some 0 = rw (ne_eqb (length x % 6) 0 f) in
        tested (fit k) k.fine.each e refl (λ i. refused (sym n i) (sym p i))
    case-read (case.ReadRefused.many k f l n p) =
        let e : bad_export x ≡ some 8000 = rw (f, lt-ltb most_records (record_count x) l) in
        tested (fit k) k.fine.each e refl (λ i. refused (sym n i) (sym p i))
    case-read (case.ReadRefused.still k f l n s) =
        let e : bad_export x ≡ some place = rw (f, le-ltb most_records (record_count x) l) s in
        tested (fit k) k.fine.each e refl (ap (λ (k : ℕ). refused k place) (sym n))
    case-read (case.ReadRefused.high k b n p) = tested (fit k) k.fine.each b p (ap (λ (k : ℕ). refused k place) (sym n))
    case-read (case.ReadRefused.short k b p n q l) =
        let size = long k.fine.count in
        tested (fit k) k.fine.each b p
        (too_long out capture (omega (arith, size, q, l)) ∙ (λ i. refused (sym n i) ((size ∙ sym q) i)))

-- Reading is refused exactly in the cases that are written out in specs/Exports, with their place.
pub read-refused-exactly : (x ws : List ℕ) (edition : ℕ) (out : List ℕ) (r : Counted) (left : List ℕ) → ReadsExport x ws edition out r left →
    (number place : ℕ) → Refuses r number place ↔ ReadRefused x ws edition out number place
read-refused-exactly x ws edition out r left a number place = (
  λ e. read-case x ws edition out number place (sym a.0 ∙ e),
  λ c. a.0 ∙ case-read x ws edition out number place c,
)

-- A refused call leaves the buffer.
pub read-refused : (x ws : List ℕ) (edition : ℕ) (out left : List ℕ) (number place : ℕ) (r : Counted) → Refuses r number place → ReadsExport x ws edition out r left → left ≡ out
unfolding read_outcome
read-refused x ws edition out left number place r e a = a.1 ∙ (leaves-refused (read_answer x ws edition out) out (sym a.0 ∙ e)).1

-- ---- writing

module _ (c out : List ℕ) where
  abbrev export : List ℕ
  export = export_of (bridged (events_of c))

  abbrev pub rest : Answer (List ℕ)
  rest = unless 12 (given 0 (unwritable c)) (fitting out export)

  size : length export ≡ 6 * length (bridged (events_of c))
  size = export-length (bridged (events_of c))

  -- fourteen settings, or sixteen
  counts : (count_in c ≡ 14) ⊎ (count_in c ≡ 16)
  counts = go (eqb (header_word c 1) sleeping_count)
    where
      go : (b : Bool) → (cond b sleeping_count settings_count ≡ 14) ⊎ (cond b sleeping_count settings_count ≡ 16)
      go true = inr refl
      go false = inl refl

  -- what may not be written
  module _ (number place : ℕ) (h : Accepted c) (n : number ≡ 12) (p : place ≡ 0) where
    not-writable : unwritable c ≡ true → WriteRefused c out number place
    unfolding unwritable
    not-writable e = by counts
      where
        far : count_in c ≡ 14 → (a b : Bool) → ltb reach (first_cycle (events_of c)) ≡ a → ltb most_records (length (bridged (events_of c))) ≡ b →
            (a || b) ≡ true → WriteRefused c out number place
        far k true b f g w = case.WriteRefused.late h k (ltb-true reach (first_cycle (events_of c)) f) n p
        far k false true f g w =
            case.WriteRefused.many h k (ltb-false reach (first_cycle (events_of c)) f) (ltb-true most_records (length (bridged (events_of c))) g) n p
        far k false false f g w = let z : ◌≡◌ {A = ℕ} 0 1 = cc in absurd (omega arith)

        by : (count_in c ≡ 14) ⊎ (count_in c ≡ 16) → WriteRefused c out number place
        by (inr k) = case.WriteRefused.sleeps h k n p
        by (inl k) =
            far k (ltb reach (first_cycle (events_of c))) (ltb most_records (length (bridged (events_of c)))) refl refl (rw k at e)

  -- what may
  pub writable : unwritable c ≡ false → Exportable c
  unfolding unwritable
  writable e = by counts
    where
      near : count_in c ≡ 14 → (a b : Bool) → ltb reach (first_cycle (events_of c)) ≡ a → ltb most_records (length (bridged (events_of c))) ≡ b →
          (a || b) ≡ false → Exportable c
      near k true b f g w = let z : ◌≡◌ {A = ℕ} 0 1 = cc in absurd (omega arith)
      near k false true f g w = let z : ◌≡◌ {A = ℕ} 0 1 = cc in absurd (omega arith)
      near k false false f g w =
          record {
            awake = k;
            first = ltb-false reach (first_cycle (events_of c)) f;
            few = ltb-false most_records (length (bridged (events_of c))) g;
          }

      by : (count_in c ≡ 14) ⊎ (count_in c ≡ 16) → Exportable c
      by (inr k) = let z : ◌≡◌ {A = ℕ} 0 1 = sixteen k in absurd (omega arith)
        where
          sixteen : count_in c ≡ 16 → ◌≡◌ {A = ℕ} 0 1
          sixteen k = let t : ◌≡◌ {A = Bool} true false = sym (rw k) ∙ e in cc
      by (inl k) = near k (ltb reach (first_cycle (events_of c))) (ltb most_records (length (bridged (events_of c)))) refl refl (rw k at e)

  pub exportable : Exportable c → unwritable c ≡ false
  unfolding unwritable
  exportable w =
      rw (
        w.awake,
        le-ltb reach (first_cycle (events_of c)) w.first,
        le-ltb most_records (length (bridged (events_of c))) w.few,
      )

  module _ (number place : ℕ) where
    at-12 : Accepted c → rest ≡ refused number place → WriteRefused c out number place
    at-12 h e = go (refused-by 12 (given 0 (unwritable c)) (fitting out export) e)
      where
        go : ((number ≡ 12) × (given 0 (unwritable c) ≡ some place)) ⊎ ((given 0 (unwritable c) ≡ none) × (fitting out export ≡ refused number place)) →
            WriteRefused c out number place
        go (inl (n, g)) = let (w, p) = given-some 0 (unwritable c) g in not-writable number place h n p w
        go (inr (g, f)) =
            let (n, q, l) = lacking out export f in
            case.WriteRefused.short h (writable (not-given 0 (unwritable c) g)) n (q ∙ size) (omega (arith, size))

    write-case : (write_outcome c out).answer ≡ refused number place → WriteRefused c out number place
    unfolding write_outcome
    write-case k = go (refused-in most_events c rest (leaves-refused (accepted c rest) out k).0)
      where
        go : (opened c ≡ refused number place) ⊎ (Accepted c × (rest ≡ refused number place)) → WriteRefused c out number place
        go (inl h) = case.WriteRefused.unopened ((capture-refused-exactly c number place).0 h)
        go (inr (h, e)) = at-12 h e

    so : Accepted c → (v : Bool) → unwritable c ≡ v → unless 12 (given 0 v) (fitting out export) ≡ refused number place →
        (write_outcome c out).answer ≡ refused number place
    unfolding write_outcome
    so h v e k =
        sym (refused-meets (accepted-rest c rest h ∙ ap (λ (b : Bool). unless 12 (given 0 b) (fitting out export)) e ∙ k)).0

    case-write : WriteRefused c out number place → (write_outcome c out).answer ≡ refused number place
    unfolding write_outcome unwritable
    case-write (case.WriteRefused.unopened r) = sym (refused-meets (refused-rest c rest ((capture-refused-exactly c number place).1 r))).0
    case-write (case.WriteRefused.sleeps h k n p) = so h true (rw k) (λ i. refused (sym n i) (sym p i))
    case-write (case.WriteRefused.late h k l n p) =
        so h true (rw (k, lt-ltb reach (first_cycle (events_of c)) l)) (λ i. refused (sym n i) (sym p i))
    case-write (case.WriteRefused.many h k f l n p) =
        so h true (rw (k, le-ltb reach (first_cycle (events_of c)) f, lt-ltb most_records (length (bridged (events_of c))) l)) (λ i. refused (sym n i) (sym p i))
    case-write (case.WriteRefused.short h w n q l) =
        so h false (exportable w) (too_long out export (omega (arith, size, q, l)) ∙ (λ i. refused (sym n i) ((size ∙ sym q) i)))

-- Writing is refused exactly in the cases that are written out in specs/Exports, with their place.
pub write-refused-exactly : (c out : List ℕ) (r : Counted) (left : List ℕ) → WritesExport c out r left → (number place : ℕ) →
    Refuses r number place ↔ WriteRefused c out number place
write-refused-exactly c out r left a number place = (
  λ e. write-case c out number place (sym a.0 ∙ e),
  λ k. a.0 ∙ case-write c out number place k,
)

pub write-refused : (c out left : List ℕ) (number place : ℕ) (r : Counted) → Refuses r number place → WritesExport c out r left → left ≡ out
unfolding write_outcome
write-refused c out left number place r e a = a.1 ∙ (leaves-refused (accepted c (rest c out)) out (sym a.0 ∙ e)).1
