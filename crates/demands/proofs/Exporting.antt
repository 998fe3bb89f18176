-- Exports: what was read is a capture of the records, and what was written is read back as the capture with its NOPs.
use Prim.Native.Nat.{ℕ, ◌+◌, ◌-◌, ◌*◌, ◌^◌, ◌≤◌, ◌<◌}
use mathlib.Core.Bool.{Bool, true}
use mathlib.Core.List.{List, [], ◌∷◌}
use mathlib.Core.Logic.{◌⊎◌, inl, inr}
use mathlib.Core.Option.{none}
use mathlib.Core.Path.{◌≡◌, refl, sym, ap, ◌∙◌, subst}
use native.Mathlib.Omega.{arith}
use lib.ListN.{length, take, drop}
use lib.Seq.{take_at}
use Rattle.reading.specs.Settings.{Settings, settings_of, in_edition}
use Rattle.reading.specs.RefreshClock.{Clock}
use Rattle.reading.specs.Capture.{Event, most_events, capture_size, count_in, event_count, edition_in, setting_words, events_of}
use Rattle.reading.specs.Commands.{command_of}
use Rattle.reading.specs.Part.{start}
use Rattle.reading.specs.Rules.{rule14}
use Rattle.reading.specs.Search as search
use Rattle.reading.specs.Verdict as is
use Rattle.reading.specs.Schedule.{capture_in}
use Rattle.reading.specs.Answers.{Answer, Report, answered, unless, accepted, settings_in, judge_answer, fitting, leaves}
use Rattle.reading.specs.Export.{record_count, records_of, bad_export, bad_pins, read_outcome, between, nop, bridged_from, bridged, added_from, added_before, last_before, export_of, first_cycle, unwritable, write_outcome, late_nop, late_or}
use Rattle.reading.proofs.Meaning.{event_of, part_before, verdict-clean, verdict-broken}
use Rattle.reading.proofs.Laws.{not-given}
use Rattle.reading.proofs.Nops as nops
use Rattle.reading.proofs.Nops.{High}
use Rattle.words.proofs.Bytes.{Bytes}
use Rattle.capture.proofs.Outcome as outcome
use Rattle.capture.proofs.Outcome.{Wrote, passed, fits, room, lacking, leaves-refused}
use Rattle.capture.proofs.Accepted.{answered-in, words_count}
use Rattle.capture.proofs.Rising.{Rises, Low}
use Rattle.capture.proofs.Whole as whole
use Rattle.capture.proofs.Whole.{Orderly}
use Rattle.plan.proofs.Awake.{cke-high}
use Rattle.exports.proofs.Incoming.{whole-records, records-count}
use Rattle.exports.proofs.Bridges.{bridged-length, export-length}
use Rattle.exports.proofs.Records as records
use Rattle.exports.proofs.Back.{Near, points-rise, points-low, near-bridged, bridged-near, all-rise, bridged-low, records-back, export-fine, pins-fine, near-orderly}
use Rattle.std.specs.Prelude.{Ok}
use Rattle.refusal.proofs.Unique.{one_count}
use Rattle.demands.specs.Allowed.{Judged, Counted, says, tells_clean, tells_broken, Refuses, Judges, ReadsExport, WritesExport}
use Rattle.demands.specs.Refused.{Accepted}
use Rattle.demands.specs.Exports.{Known, Exportable, with_nops, events_with_nops}
use Rattle.demands.proofs.Judging.{clean-means-clean, broken-means-broken}
use Rattle.demands.proofs.Converting.{read_answer, right, right_is, rest, writable, exportable}

-- what a call wrote stands in front
written-front : (xs out : List ℕ) {m : ℕ} → m ≡ length xs → take m (leaves (answered xs) out).buffer ≡ xs
written-front xs out e = take_at xs (drop (length xs) out) _ (sym e)

-- ---- what was read

record Read (x ws : List ℕ) (edition : ℕ) (out left : List ℕ) (n : ℕ) : Type 0 where
  known : Known ws edition
  fine : bad_export x ≡ none
  low : bad_pins x ≡ none
  is : take n left ≡ capture_in edition ws (records_of x)
  long : n ≡ capture_size 14 (record_count x)
  behind : drop n left ≡ drop n out

module _ (x ws : List ℕ) (edition : ℕ) (out left : List ℕ) (n : ℕ) (a : ReadsExport x ws edition out (Ok n) left) where
  was_read : Read x ws edition out left n
  unfolding read_outcome
  was_read =
      let w = outcome.wrote (read_answer x ws edition out) out (sym a.0) in
      let (two, e) = passed 2 _ _ w.is in
      let (three, f) = passed 3 _ _ e in
      let (eleven, g) = passed 11 _ _ f in
      let (four, h) = passed 4 _ _ g in
      let (c, l) = right x ws edition out (not-given 0 _ two) in
      let same = (fits out (capture_in edition ws (records_of x)) h).0 in
      record {
        known = record { fine = record { count = c; each = three }; is-there = l };
        fine = eleven;
        low = four;
        is = ap (take n) a.1 ∙ w.front ∙ sym same;
        long =
            w.count ∙ sym (ap length same) ∙ whole.size edition ws (records_of x)
            ∙ (λ i. capture_size (c i) (records-count x i));
        behind = ap (drop n) a.1 ∙ w.behind;
      }

-- What is read is the records as a capture of those settings and that edition, byte for byte.
pub read_whole : (x ws : List ℕ) (edition : ℕ) (out left : List ℕ) (n : ℕ) → ReadsExport x ws edition out (Ok n) left →
    (take n left ≡ capture_in edition ws (records_of x)) × (n ≡ capture_size 14 (record_count x))
read_whole x ws edition out left n a = let r = was_read x ws edition out left n a in (r.is, r.long)

-- Bytes of the buffer behind what was read stay.
pub read_behind : (x ws : List ℕ) (edition : ℕ) (out left : List ℕ) (n : ℕ) → ReadsExport x ws edition out (Ok n) left → drop n left ≡ drop n out
read_behind x ws edition out left n a = (was_read x ws edition out left n a).behind

module _ (x ws : List ℕ) (edition : ℕ) (out left : List ℕ) (n : ℕ) (a : ReadsExport x ws edition out (Ok n) left) (bytes : Bytes x) where
  read : Read x ws edition out left n
  read = was_read x ws edition out left n a

  made : whole.Whole edition ws (records_of x)
  made =
      let r = read in
      records.whole x bytes (whole-records x r.fine) r.low r.known.is-there r.known.fine.count r.known.fine.each

  captured-read : {A : Type 0} (rest : Answer A) → accepted (take n left) rest ≡ rest
  captured-read rest = ap (λ (c : List ℕ). accepted c rest) read.is ∙ whole.captured made rest

-- What is read is accepted; its events are the records, its settings and edition those that were given.
pub read-accepted : (x ws : List ℕ) (edition : ℕ) (out left : List ℕ) (n : ℕ) → ReadsExport x ws edition out (Ok n) left → Bytes x →
    Accepted (take n left)
read-accepted x ws edition out left n a b = captured-read x ws edition out left n a b (answered tt)

pub read-events : (x ws : List ℕ) (edition : ℕ) (out left : List ℕ) (n : ℕ) → ReadsExport x ws edition out (Ok n) left → Bytes x →
    events_of (take n left) ≡ records_of x
read-events x ws edition out left n a b = ap events_of (read x ws edition out left n a b).is ∙ whole.events-back (made x ws edition out left n a b)

pub read-settings : (x ws : List ℕ) (edition : ℕ) (out left : List ℕ) (n : ℕ) → ReadsExport x ws edition out (Ok n) left → Bytes x →
    settings_in (take n left) ≡ in_edition edition (settings_of ws)
read-settings x ws edition out left n a b =
    ap settings_in (read x ws edition out left n a b).is ∙ whole.captured-settings (made x ws edition out left n a b)

pub read-given : (x ws : List ℕ) (edition : ℕ) (out left : List ℕ) (n : ℕ) → ReadsExport x ws edition out (Ok n) left → Bytes x →
    (setting_words (take n left) ≡ ws) × (edition_in (take n left) ≡ edition)
read-given x ws edition out left n a b =
    let same = (read x ws edition out left n a b).is in (
      ap setting_words same ∙ whole.settings-back (made x ws edition out left n a b),
      ap edition_in same ∙ whole.named (made x ws edition out left n a b),
    )

-- ---- what was written

record Exported (c out left : List ℕ) (n : ℕ) : Type 0 where
  open-to : Accepted c
  may : Exportable c
  is : take n left ≡ export_of (bridged (events_of c))
  long : n ≡ 6 * events_with_nops c
  behind : drop n left ≡ drop n out

module _ (c out left : List ℕ) (n : ℕ) (a : WritesExport c out (Ok n) left) where
  was-written : Exported c out left n
  unfolding write_outcome
  was-written =
      let w = outcome.wrote (accepted c (rest c out)) out (sym a.0) in
      let (h, e) = answered-in most_events c (rest c out) w.is in
      let (twelve, f) = passed 12 _ _ e in
      let same = (fits out (export_of (bridged (events_of c))) f).0 in
      record {
        open-to = h;
        may = writable c out (not-given 0 (unwritable c) twelve);
        is = ap (take n) a.1 ∙ w.front ∙ sym same;
        long = w.count ∙ sym (ap length same) ∙ export-length (bridged (events_of c));
        behind = ap (drop n) a.1 ∙ w.behind;
      }

-- What is written is the events and those NOPs as records, byte for byte.
pub write-whole : (c out left : List ℕ) (n : ℕ) → WritesExport c out (Ok n) left →
    (take n left ≡ export_of (bridged (events_of c))) × (n ≡ 6 * events_with_nops c)
write-whole c out left n a = let w = was-written c out left n a in (w.is, w.long)

-- Bytes of the buffer behind what was written stay.
pub write-behind : (c out left : List ℕ) (n : ℕ) → WritesExport c out (Ok n) left → drop n left ≡ drop n out
write-behind c out left n a = (was-written c out left n a).behind

-- ---- the events with their NOPs

-- as many more as NOPs are put before them all
added-all : (last : ℕ) (es : List Event) → length (bridged_from last es) ≡ length es + added_from last es (length es)
unfolding bridged_from
added-all last [] = refl
added-all last (e ∷ es) = omega (arith, bridged-length last e es, added-all e.cycle es)

module _ (c : List ℕ) (open-to : Accepted c) (may : Exportable c) where
  abbrev es : List Event
  es = events_of c

  abbrev ws : List ℕ
  ws = setting_words c

  fourteen : length ws ≡ 14
  fourteen = words_count c ∙ may.awake

  so : whole.Whole (edition_in c) ws es
  so = whole.accepted-whole c open-to

  given : Orderly (2 ^ 20) es
  given = subst (λ (k : ℕ). Orderly (whole.limit_for k) es) fourteen so.orderly

  rises : Rises 0 es
  rises = points-rise 0 es (λ l. omega arith) given.rise

  low : Low (2 ^ 20) es
  low = points-low (2 ^ 20) es given.low

  high : High es
  high = go es low
    where
      go : (fs : List Event) → Low (2 ^ 20) fs → High fs
      go [] l = tt
      go (f ∷ fs) l = (cke-high f.pins l.0, go fs l.1)

  near-all : Near 0 (bridged es)
  near-all = bridged-near 0 es

  rises-all : Rises 0 (bridged es)
  rises-all = all-rise es may.first rises

  low-all : Low (2 ^ 20) (bridged es)
  low-all = bridged-low (2 ^ 20) 0 es (omega arith) low

  -- with the settings and the edition they make a capture
  made_all : whole.Whole (edition_in c) ws (bridged es)
  made_all =
      record {
        known = so.known;
        all = so.all;
        right = so.right;
        orderly = rw fourteen (near-orderly (bridged es) near-all rises-all low-all may.few);
      }

  abbrev C : List ℕ
  C = capture_in (edition_in c) ws (bridged es)

  size : length C ≡ capture_size 14 (length (bridged es))
  size = whole.size (edition_in c) ws (bridged es) ∙ ap (λ (k : ℕ). capture_size k (length (bridged es))) fourteen

  -- reading the export asks for room alone
  reads-to : (room : List ℕ) → read_answer (export_of (bridged es)) ws (edition_in c) room ≡ fitting room C
  reads-to room =
      let X = export_of (bridged es) in
      rw (
        right_is X ws (edition_in c) room fourteen so.known,
        so.right,
        export-fine (bridged es) near-all rises-all low-all may.few,
        pins-fine (bridged es) near-all rises-all low-all may.few,
        records-back (bridged es) near-all rises-all low-all,
      )

-- ---- written, then read back under the capture's own settings and edition

module _ (c out left : List ℕ) (n : ℕ) (a : WritesExport c out (Ok n) left) (lent back : List ℕ) (r : Counted)
    (b : ReadsExport (take n left) (setting_words c) (edition_in c) lent r back) where
  exported : Exported c out left n
  exported = was-written c out left n a

  outcome-is : read_outcome (take n left) (setting_words c) (edition_in c) lent ≡ leaves (fitting lent (with_nops c)) lent
  unfolding read_outcome
  outcome-is =
      ap (λ (x : List ℕ). leaves (read_answer x (setting_words c) (edition_in c) lent) lent) exported.is
      ∙ ap (λ (x : Answer (List ℕ)). leaves x lent) (reads-to c exported.open-to exported.may lent)

  full_is : length (with_nops c) ≡ capture_size 14 (events_with_nops c)
  full_is = size c exported.open-to exported.may

-- Reading back what was written is refused by number 7 alone.
pub read-back-refused : (c out left : List ℕ) (n : ℕ) → WritesExport c out (Ok n) left → (lent back : List ℕ) (r : Counted) →
    ReadsExport (take n left) (setting_words c) (edition_in c) lent r back → (number place : ℕ) → Refuses r number place →
    (number ≡ 7) × (place ≡ capture_size 14 (events_with_nops c)) × (length lent < place)
read-back-refused c out left n a lent back r b number place e =
    let full = full_is c out left n a lent back r b in
    let told = sym (ap (λ o. o.answer) (outcome-is c out left n a lent back r b)) ∙ sym b.0 ∙ e in
    let (k, p, l) = lacking lent (with_nops c) (leaves-refused (fitting lent (with_nops c)) lent told).0 in
    (k, p ∙ full, omega arith)

-- Else it gives the capture with those NOPs.
pub read_back : (c out left : List ℕ) (n : ℕ) → WritesExport c out (Ok n) left → (lent back : List ℕ) (r : Counted) →
    ReadsExport (take n left) (setting_words c) (edition_in c) lent r back → capture_size 14 (events_with_nops c) ≤ length lent →
    (r ≡ Ok (capture_size 14 (events_with_nops c))) × (take (capture_size 14 (events_with_nops c)) back ≡ with_nops c)
read_back c out left n a lent back r b l =
    let full = full_is c out left n a lent back r b in
    let whole_is = outcome-is c out left n a lent back r b ∙ ap (λ (x : Answer (List ℕ)). leaves x lent) (room lent (with_nops c) (omega (arith, full))) in (
      one_count r (Ok (capture_size 14 (events_with_nops c))) (b.0 ∙ ap (λ o. o.answer) whole_is ∙ ap answered full),
      ap (take (capture_size 14 (events_with_nops c))) (b.1 ∙ ap (λ o. o.buffer) whole_is) ∙ written-front (with_nops c) lent (sym full),
    )

-- Where no NOP was needed it gives the very bytes.
pub read-back-same : (c out left : List ℕ) (n : ℕ) → WritesExport c out (Ok n) left → Bytes c → bridged (events_of c) ≡ events_of c → with_nops c ≡ c
read-back-same c out left n a bytes e =
    ap (capture_in (edition_in c) (setting_words c)) e ∙ whole.whole_again c (was-written c out left n a).open-to bytes

-- ---- the verdict on a capture that was written, with its NOPs

module _ (c out left : List ℕ) (n : ℕ) (a : WritesExport c out (Ok n) left) where
  w : Exported c out left n
  w = was-written c out left n a

  abbrev s : Settings
  s = settings_in c

  made-now : whole.Whole (edition_in c) (setting_words c) (bridged (events_of c))
  made-now = made_all c w.open-to w.may

  high-now : High (events_of c)
  high-now = high c w.open-to w.may

  abbrev report : is.Verdict → Answer Report
  report v = answered (record { events = events_with_nops c; judged = is.judged_of (events_with_nops c) v; verdict = v })

  saying : (v : is.Verdict) → is.verdict_of s (bridged (events_of c)) ≡ v → judge_answer (with_nops c) ≡ report v
  saying v e = whole.captured-judged made-now ∙ ap report e

-- It is accepted, with the same settings and edition.
pub nops-accepted : (c out left : List ℕ) (n : ℕ) → WritesExport c out (Ok n) left → Accepted (with_nops c)
nops-accepted c out left n a = whole.captured (made-now c out left n a) (answered tt)

-- It has as many events more as NOPs were put between them.
pub nops-more : (c : List ℕ) → events_with_nops c ≡ length (events_of c) + added_before (events_of c) (length (events_of c))
nops-more c = added-all 0 (events_of c)

-- Clean stays clean.
pub clean-stays : (c out left : List ℕ) (n : ℕ) → WritesExport c out (Ok n) left →
    (p : Judged) → Judges c p → says p ≡ tells_clean (event_count c) (event_count c) →
    (q : Judged) → Judges (with_nops c) q → says q ≡ tells_clean (events_with_nops c) (events_with_nops c)
clean-stays c out left n a p o j q k =
    let h = w c out left n a in
    let kept = (clean-means-clean c h.open-to p o).0 j in
    k ∙ saying c out left n a is.clean
    (nops.still-clean (settings_in c) (events_of c) (high-now c out left n a) ((verdict-clean (settings_in c) (events_of c)).1 kept))

module _ (c out left : List ℕ) (n : ℕ) (a : WritesExport c out (Ok n) left) (rule event cycle : ℕ)
    (p : Judged) (o : Judges c p) (j : says p ≡ tells_broken (event_count c) event rule event cycle) where
  reported : is.verdict_of (settings_in c) (events_of c) ≡ is.broken rule event cycle
  reported =
      let b = (broken-means-broken c (w c out left n a).open-to p o rule event cycle).0 j in
      (verdict-broken (settings_in c) (events_of c) rule event cycle).1 b

  abbrev up : ℕ
  up = event + added_before (events_of c) event

  abbrev before : ℕ
  before = last_before 0 (events_of c) event

  abbrev clock : Clock
  clock = (part_before (settings_in c) (start (settings_in c)) (events_of c) event).clock

-- A broken event that keeps rule 14 is reported with the same rule and cycle; event and judged count are moved up by the NOPs
-- before it.
pub broken-moves-up : (c out left : List ℕ) (n : ℕ) → WritesExport c out (Ok n) left → (rule event cycle : ℕ) →
    (p : Judged) → Judges c p → says p ≡ tells_broken (event_count c) event rule event cycle →
    rule14 (settings_in c) (part_before (settings_in c) (start (settings_in c)) (events_of c) event) cycle (command_of (event_of (events_of c) event).pins) ≡ true →
    (q : Judged) → Judges (with_nops c) q →
    says q ≡ tells_broken (events_with_nops c) (event + added_before (events_of c) event) rule (event + added_before (events_of c) event) cycle
broken-moves-up c out left n a rule event cycle p o j kept q k =
    let moved =
    nops.moved_up (settings_in c) (events_of c) (high-now c out left n a) rule event cycle (reported c out left n a rule event cycle p o j) kept in
    k ∙ saying c out left n a _ moved

-- Exactly what is reported, whichever rules it breaks: the first NOP between it and the event before at which more than eight
-- refreshes are owed, with rule 14; or else the event.
pub broken-exactly : (c out left : List ℕ) (n : ℕ) (a : WritesExport c out (Ok n) left) (rule event cycle : ℕ) →
    (p : Judged) (o : Judges c p) (j : says p ≡ tells_broken (event_count c) event rule event cycle) →
    is.verdict_of (settings_in (with_nops c)) (events_of (with_nops c)) ≡
    late_or (late_nop (settings_in c) (clock c out left n a rule event cycle p o j) (before c out left n a rule event cycle p o j) cycle)
    (before c out left n a rule event cycle p o j)
    (up c out left n a rule event cycle p o j - between (before c out left n a rule event cycle p o j) cycle)
    (is.broken rule (up c out left n a rule event cycle p o j) cycle)
broken-exactly c out left n a rule event cycle p o j =
    let made = made-now c out left n a in
    (λ i. is.verdict_of (whole.captured-settings made i) (whole.events-back made i))
    ∙ nops.moved (settings_in c) (events_of c) (high-now c out left n a) rule event cycle (reported c out left n a rule event cycle p o j)

-- The judge says so, whatever it may answer.
pub broken-told : (c out left : List ℕ) (n : ℕ) (a : WritesExport c out (Ok n) left) (rule event cycle : ℕ)
    (p : Judged) (o : Judges c p) (j : says p ≡ tells_broken (event_count c) event rule event cycle) (q : Judged) → Judges (with_nops c) q →
    says q ≡
    report c out left n a
    (late_or (late_nop (settings_in c) (clock c out left n a rule event cycle p o j) (before c out left n a rule event cycle p o j) cycle)
    (before c out left n a rule event cycle p o j)
    (up c out left n a rule event cycle p o j - between (before c out left n a rule event cycle p o j) cycle)
    (is.broken rule (up c out left n a rule event cycle p o j) cycle))
broken-told c out left n a rule event cycle p o j q k =
    k
    ∙ saying c out left n a _
    (nops.moved (settings_in c) (events_of c) (high-now c out left n a) rule event cycle (reported c out left n a rule event cycle p o j))

-- So it is reported, moved up; or one of the NOPs between it and the event before is, with rule 14.
pub moved-or-late : (c out left : List ℕ) (n : ℕ) → WritesExport c out (Ok n) left → (rule event cycle : ℕ) →
    (p : Judged) → Judges c p → says p ≡ tells_broken (event_count c) event rule event cycle → (q : Judged) → Judges (with_nops c) q →
    (says q ≡ tells_broken (events_with_nops c) (event + added_before (events_of c) event) rule (event + added_before (events_of c) event) cycle)
    ⊎ ((k : ℕ) × (k < between (last_before 0 (events_of c) event) cycle) ×
    (let at = event + added_before (events_of c) event - between (last_before 0 (events_of c) event) cycle + k in
    says q ≡ tells_broken (events_with_nops c) at 14 at (nop (last_before 0 (events_of c) event) k).cycle))
moved-or-late c out left n a rule event cycle p o j q k =
    go
    (nops.moved-or-late (settings_in c) (events_of c) (high-now c out left n a) rule event cycle (reported c out left n a rule event cycle p o j))
  where
    told : {v : is.Verdict} → is.verdict_of (settings_in c) (bridged (events_of c)) ≡ v → says q ≡ report c out left n a v
    told {v} e = k ∙ saying c out left n a v e

    go : (is.verdict_of (settings_in c) (bridged (events_of c)) ≡ is.broken rule (event + added_before (events_of c) event) cycle)
        ⊎ ((k : ℕ) × (k < between (last_before 0 (events_of c) event) cycle) ×
        (is.verdict_of (settings_in c) (bridged (events_of c)) ≡
        is.broken 14 (event + added_before (events_of c) event - between (last_before 0 (events_of c) event) cycle + k) (nop (last_before 0 (events_of c) event) k).cycle)) →
        (says q ≡ tells_broken (events_with_nops c) (event + added_before (events_of c) event) rule (event + added_before (events_of c) event) cycle)
        ⊎ ((k : ℕ) × (k < between (last_before 0 (events_of c) event) cycle) ×
        (let at = event + added_before (events_of c) event - between (last_before 0 (events_of c) event) cycle + k in
        says q ≡ tells_broken (events_with_nops c) at 14 at (nop (last_before 0 (events_of c) event) k).cycle))
    go (inl e) = inl (told e)
    go (inr (i, l, e)) = inr (i, l, told e)

-- ---- read, then written

module _ (x ws : List ℕ) (edition : ℕ) (out left : List ℕ) (n : ℕ) (a : ReadsExport x ws edition out (Ok n) left) (bytes : Bytes x) where
  was : Read x ws edition out left n
  was = was_read x ws edition out left n a

  near-read : bridged (records_of x) ≡ records_of x
  near-read = near-bridged 0 (records_of x) (records.near x bytes)

  export_is : export_of (bridged (events_of (take n left))) ≡ x
  export_is =
      ap (λ (es : List Event). export_of (bridged es)) (read-events x ws edition out left n a bytes) ∙ ap export_of near-read
      ∙ records.again x bytes (whole-records x was.fine).size

  may_write : Exportable (take n left)
  may_write =
      let events = read-events x ws edition out left n a bytes in
      record {
        awake = ap count_in was.is ∙ whole.held (made x ws edition out left n a bytes) ∙ was.known.fine.count;
        first = rw events (first-near (records_of x) (records.near x bytes));
        few =
            rw (events, near-read)
            (omega (arith, records-count x, (whole-records x was.fine).few));
      }
    where
      first-near : (es : List Event) → Near 0 es → first_cycle es ≤ 65535
      first-near [] near = omega arith
      first-near (e ∷ es) near = omega (arith, near.0)

  writes-to : (lent : List ℕ) → write_outcome (take n left) lent ≡ leaves (fitting lent x) lent
  unfolding write_outcome
  writes-to lent =
      ap (λ (y : Answer (List ℕ)). leaves y lent)
      (captured-read x ws edition out left n a bytes (rest (take n left) lent)
      ∙ (ap (λ (b : Bool). unless 12 (search.given 0 b) (fitting lent (export_of (bridged (events_of (take n left)))))) (exportable (take n left) lent may_write)
      ∙ ap (fitting lent) export_is))

-- Writing what was read gives every export back.
pub write-back : (x ws : List ℕ) (edition : ℕ) (out left : List ℕ) (n : ℕ) → ReadsExport x ws edition out (Ok n) left → Bytes x →
    (lent back : List ℕ) (r : Counted) → WritesExport (take n left) lent r back → length x ≤ length lent →
    (r ≡ Ok (length x)) × (take (length x) back ≡ x)
write-back x ws edition out left n a bytes lent back r b l =
    let whole_is = writes-to x ws edition out left n a bytes lent ∙ ap (λ (y : Answer (List ℕ)). leaves y lent) (room lent x l) in (
      one_count r (Ok (length x)) (b.0 ∙ ap (λ o. o.answer) whole_is),
      ap (take (length x)) (b.1 ∙ ap (λ o. o.buffer) whole_is) ∙ written-front x lent refl,
    )

-- It is refused by number 7 alone, never by 12.
pub write-back-refused : (x ws : List ℕ) (edition : ℕ) (out left : List ℕ) (n : ℕ) → ReadsExport x ws edition out (Ok n) left → Bytes x →
    (lent back : List ℕ) (r : Counted) → WritesExport (take n left) lent r back → (number place : ℕ) → Refuses r number place →
    (number ≡ 7) × (place ≡ length x) × (length lent < place)
write-back-refused x ws edition out left n a bytes lent back r b number place e =
    let told = sym (ap (λ o. o.answer) (writes-to x ws edition out left n a bytes lent)) ∙ sym b.0 ∙ e in
    let (k, p, l) = lacking lent x (leaves-refused (fitting lent x) lent told).0 in
    (k, p, omega arith)
