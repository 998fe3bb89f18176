-- Whatever document 01 answers fits the bits that it is packed into.
use Prim.Native.Nat.{ℕ, zero, suc, ◌+◌, ◌*◌, ◌^◌, ◌≤◌, ◌<◌}
use mathlib.Core.Bool.{Bool, true, false, cond, not}
use mathlib.Core.List.Memᴰ
use mathlib.Core.List.{List, [], ◌∷◌, ◌++◌, map, Memᴰ}
use mathlib.Core.Logic.{◌⊎◌, inl, inr}
use mathlib.Core.Option.{Option, none, some}
use mathlib.Core.Path.{◌≡◌, refl, sym, ◌∙◌, subst}
use native.Mathlib.Omega.{arith}
use borrow.Author.Tests.{eqb-true, ltb-false, not-false}
use lib.Dec.{eqb, ltb}
use lib.ListN.{length, length-append, length-map, length-reverse, take, get_or}
use Rattle.reading.specs.Search.{find, lowest, or_else, given}
use Rattle.reading.specs.Search as search
use Rattle.reading.specs.Settings.{Settings, settings_of, setting_fits, out_of_range, contradiction, bad_setting}
use Rattle.reading.specs.Capture.{Event, most_events, event_count, setting_words, event_bytes, event_at, events_of, length_fits_to, header_fits_to, pin_limit, event_fits, bad_event}
use Rattle.reading.specs.Commands.{READ, WRITE, among, command_of}
use Rattle.reading.specs.Bursts.{Burst, beat_cell, burst_cells}
use Rattle.reading.specs.Part.{Part, start, step, run, cut_by, burst_given}
use Rattle.reading.specs.Rules.{rules, placing}
use Rattle.reading.specs.Verdict as is
use Rattle.reading.specs.Cells.{bursts_of, cells_of}
use Rattle.reading.specs.Schedule.{Schedule, planned, late, policy_fits, closes_rows, request_fits, bad_request, schedule_from, schedule_by, schedule_of, served, when_served, capture_of}
use Rattle.reading.specs.Answers.{Answer, Report, refused, answered, unless, accepted_to, settings_in, verdict_in, judge_answer_to, leaves, fitting, not_clean, cells_in, cells_outcome, when_planned, schedule_outcome}
use Rattle.reading.specs.Blank.{blanked, blank_outcome}
use Rattle.reading.specs.Openings.{Opening, opens, last_open, openings_from, openings_of, index_of, row_after}
use Rattle.reading.specs.OpenRow.{index_in, row_in, question_fits, open_row_answer}
use Rattle.reading.proofs.Meaning.{BrokenAt, verdict-broken}
use Rattle.reading.proofs.Cuts.{All, nil, cons, Whole, bursts-whole}
use Rattle.reading.proofs.Laws.{not-given}
use Rattle.capture.specs.Calls.{AcceptedTo, Accepted}
use Rattle.capture.proofs.Accepted.{sized, count-range, words_count, accepted-sound}
use Rattle.capture.proofs.Whole.{size}
use Rattle.beats.proofs.Columns.{half_le}
use Rattle.judge.proofs.Events.{length-count}
use Rattle.cells.proofs.Rows.{low-after}
use Rattle.rows.proofs.Writing.{words-length}
use Rattle.alike.proofs.Blanked.{blanked-length}
use Rattle.plan.proofs.Ready.{few-requests}
use Rattle.plan.proofs.Captured as plan
use Rattle.morgazell.specs.Packing.{Told, refusal, count, breach, verdict_told, judge_told, count_told, row_told}

-- a number of eight bits that is not 0, and one of 32
abbrev pub Number : ℕ → Type 0
Number n = (1 ≤ n) × (n < 2 ^ 8)

abbrev pub Value : ℕ → Type 0
Value n = n < 2 ^ 32

abbrev pub Fits : Told → Type 0
Fits (refusal number place) = Number number × Value place
Fits (count n) = Value n
Fits (breach rule event) = Number rule × Value event

-- ---- places that are searched for

counted : (f : ℕ → Bool) (from n i : ℕ) → find f (search.count from n) ≡ some i → i < from + n
counted f from zero i e = let z : ◌≡◌ {A = ℕ} 0 1 = cc in absurd (omega arith)
counted f from (suc n) i e = go (f from) e (counted f (suc from) n i)
  where
    go : (b : Bool) → cond b (some from) (find f (search.count (suc from) n)) ≡ some i → (find f (search.count (suc from) n) ≡ some i → i < suc from + n) →
        i < from + suc n
    go true v ih = let z : from ≡ i = cc in omega arith
    go false v ih = omega (arith, ih v)

pub below : (f : ℕ → Bool) (n i : ℕ) → lowest f n ≡ some i → i < n
below f n i e = omega (arith, counted f 0 n i e)

-- ---- a capture: refused with a number from 1 to 4 and a small place, or short

few : (most : ℕ) (capture : List ℕ) → given 0 (not (length_fits_to most capture)) ≡ none → given 0 (not (header_fits_to most capture)) ≡ none →
    event_count capture ≤ most
few most capture a b = (sized capture most (not-false _ (not-given 0 _ a)) (not-false _ (not-given 0 _ b))).few

pub at-given : (k : ℕ) → Value k → (b : Bool) (place : ℕ) → given k b ≡ some place → Value place
at-given k small true place e = let z : k ≡ place = cc in rw (sym z) small
at-given k small false place e = let z : ◌≡◌ {A = ℕ} 0 1 = cc in absurd (omega arith)

pub at_zero : (b : Bool) (place : ℕ) → given 0 b ≡ some place → Value place
at_zero = at-given 0 (omega arith)

pub bad-setting : (ws : List ℕ) (place : ℕ) → length ws ≤ 16 → bad_setting ws ≡ some place → Value place
unfolding bad_setting
bad-setting ws place l e = go (out_of_range ws (length ws)) refl e
  where
    go : (o : Option ℕ) → out_of_range ws (length ws) ≡ o → or_else o (contradiction (settings_of ws)) ≡ some place → Value place
    go none p e = at-given 7 (omega arith) (ltb (get_or ws 6 0 + get_or ws 5 0) (get_or ws 7 0)) place e
    go (some i) p e = omega (arith, below (λ i. not (setting_fits i (get_or ws i 0))) (length ws) place (p ∙ e))

bad-event : (limit : ℕ) (bytes : List ℕ) (n place : ℕ) → Value n → bad_event limit bytes n ≡ some place → Value place
unfolding bad_event
bad-event limit bytes n place l e = omega (arith, below (λ i. not (event_fits limit bytes i)) n place e)

-- what holds of small refusals, and of what follows where a capture is accepted, holds
pub on-accepted : {A : Type 0} (P : Answer A → Type 0) (most : ℕ) → Value most → (capture : List ℕ) (rest : Answer A) →
    ((number place : ℕ) → Number number → Value place → P (refused number place)) → (AcceptedTo most capture → P rest) → P (accepted_to most capture rest)
unfolding accepted_to
on-accepted {A} P most small capture rest refusing Going-on =
    go (given 0 (not (length_fits_to most capture))) (given 0 (not (header_fits_to most capture))) (bad_setting (setting_words capture))
    (bad_event (pin_limit capture) (event_bytes capture) (event_count capture)) refl refl refl refl
  where
    go : (a b c d : Option ℕ) → given 0 (not (length_fits_to most capture)) ≡ a → given 0 (not (header_fits_to most capture)) ≡ b → bad_setting (setting_words capture) ≡ c →
        bad_event (pin_limit capture) (event_bytes capture) (event_count capture) ≡ d → P (unless 1 a (unless 2 b (unless 3 c (unless 4 d rest))))
    go (some place) b c d p q r s = refusing 1 place (omega arith) (at_zero (not (length_fits_to most capture)) place p)
    go none (some place) c d p q r s = refusing 2 place (omega arith) (at_zero (not (header_fits_to most capture)) place q)
    go none none (some place) d p q r s = refusing 3 place (omega arith) (bad-setting (setting_words capture) place (omega (arith, words_count capture, (count-range capture).1)) r)
    go none none none (some place) p q r s = refusing 4 place (omega arith) (bad-event (pin_limit capture) (event_bytes capture) (event_count capture) place (omega (arith, few most capture p q)) s)
    go none none none none p q r s = Going-on (rw (p, q, r, s))

-- ---- the judge

pub accepted-few : (most : ℕ) → Value most → (capture : List ℕ) → AcceptedTo most capture → Value (event_count capture)
accepted-few most small capture open-to = omega (arith, (accepted-sound capture open-to).sized.few)

-- each rule has a number of eight bits
abbrev Each : List ℕ → Type 0
Each [] = Unit {0}
Each (x ∷ xs) = Number x × Each xs

member : (xs : List ℕ) → Each xs → (x : ℕ) → Memᴰ x xs → Number x
member [] z x m = absurd (Memᴰ.not-nil m)
member (y ∷ ys) z x m = go (Memᴰ.cases_cons m) (member ys z.1 x)
  where
    go : (x ≡ y) ⊎ Memᴰ x ys → (Memᴰ x ys → Number x) → Number x
    go (inl p) ih = subst Number (sym p) z.0
    go (inr n) ih = ih n

rules-fit : Each rules
rules-fit = omega arith

module _ (capture : List ℕ) (short : Value (event_count capture)) where
  pub events-length : length (events_of capture) ≡ event_count capture
  unfolding events_of
  events-length = length-map (search.count 0 (event_count capture)) (event_at (event_bytes capture)) ∙ length-count 0 (event_count capture)

  pub broken-at : (rule event cycle : ℕ) → verdict_in capture ≡ is.broken rule event cycle →
      BrokenAt (settings_in capture) (start (settings_in capture)) (events_of capture) event rule cycle
  unfolding verdict_in
  broken-at rule event cycle e = (verdict-broken (settings_in capture) (events_of capture) rule event cycle).0 e

  broken-fits : (rule event cycle : ℕ) → verdict_in capture ≡ is.broken rule event cycle → Number rule × Value event
  broken-fits rule event cycle e =
      let b = broken-at rule event cycle e in
      (member rules rules-fit rule b.breaks.rule, omega (arith, b.there, events-length))

  verdict-fits : (v : is.Verdict) → verdict_in capture ≡ v → Fits (verdict_told (is.judged_of (event_count capture) v) v)
  verdict-fits is.clean e = omega arith
  verdict-fits (is.broken rule event cycle) e = broken-fits rule event cycle e

  pub not-clean-fits : (v : is.Verdict) → verdict_in capture ≡ v → (place : ℕ) → not_clean v ≡ some place → Value place
  not-clean-fits is.clean e place f = let z : ◌≡◌ {A = ℕ} 0 1 = cc in absurd (omega arith)
  not-clean-fits (is.broken rule event cycle) e place f =
      let z : event ≡ place = cc in
      omega (arith, (broken-fits rule event cycle e).1)

pub judge-fits : (most : ℕ) → Value most → (capture : List ℕ) → Fits (judge_told (judge_answer_to most capture))
unfolding judge_answer_to
judge-fits most small capture =
    on-accepted (λ (a : Answer Report). Fits (judge_told a)) most small capture _ (λ number place n v. (n, v))
    (λ open-to. verdict-fits capture (accepted-few most small capture open-to) (verdict_in capture) refl)

-- ---- calls that fill a buffer

abbrev pub Filled : List ℕ → Answer (List ℕ) → Type 0
Filled buffer a = Fits (count_told (leaves a buffer).answer)

-- the length needed is given as the place or as the count
pub room : (buffer out : List ℕ) → Value (length out) → Filled buffer (fitting buffer out)
room buffer out l = go (ltb (length buffer) (length out))
  where
    go : (b : Bool) → Filled buffer (unless 7 (given (length out) b) (answered out))
    go true = (omega arith, l)
    go false = l

-- ---- burst cells: at most 128 a burst, and a burst an event

cells-length : (s : Settings) (xs : List Burst) → All Whole xs → length (cells_of s xs) ≤ 128 * length xs
unfolding cells_of burst_cells
cells-length s [] nil = omega arith
cells-length s (x ∷ xs) (cons w ws) =
    omega (
      arith,
      length-append (burst_cells s x) (cells_of s xs),
      length-map (search.count 0 (2 * x.n)) (beat_cell s x),
      length-count 0 (2 * x.n),
      w.most,
      half_le x.mode,
      cells-length s xs ws,
    )

run_length : (s : Settings) (p : Part) (es : List Event) → length (run s p es).bursts ≤ length p.bursts + length es
run_length s p [] = omega arith
run_length s p (e ∷ es) = omega (arith, run_length s (step s p e) es, go (among (READ ∷ WRITE ∷ []) (command_of e.pins)))
  where
    kept : List Burst
    kept = map (cut_by s p e.cycle (command_of e.pins)) p.bursts

    go : (b : Bool) → length (cond b (burst_given s p e.cycle (command_of e.pins) ∷ kept) kept) ≤ suc (length p.bursts)
    go true = omega (arith, length-map p.bursts (cut_by s p e.cycle (command_of e.pins)))
    go false = omega (arith, length-map p.bursts (cut_by s p e.cycle (command_of e.pins)))

bursts-length : (s : Settings) (es : List Event) → length (bursts_of s es) ≤ length es
unfolding bursts_of
bursts-length s es = omega (arith, length-reverse (run s (start s) es).bursts, run_length s (start s) es)

pub cells-few : (capture : List ℕ) → event_count capture ≤ 8000 → Value (length (cells_in capture))
unfolding cells_in
cells-few capture short =
    let s = settings_in capture in
    let xs = bursts_of s (events_of capture) in
    omega (arith, cells-length s xs (bursts-whole s (events_of capture)), bursts-length s (events_of capture), events-length capture (omega arith))

pub cells-fits : (capture buffer : List ℕ) → Fits (count_told (cells_outcome capture buffer).answer)
unfolding cells_outcome
cells-fits capture buffer =
    on-accepted (Filled buffer) most_events (omega arith) capture _ (λ number place n v. (n, v))
    (λ open-to. go (accepted-sound capture open-to).sized.few (not_clean (verdict_in capture)) refl)
  where
    go : event_count capture ≤ 8000 → (o : Option ℕ) → not_clean (verdict_in capture) ≡ o → Filled buffer (unless 8 o (fitting buffer (cells_in capture)))
    go short none e = room buffer (cells_in capture) (cells-few capture short)
    go short (some place) e = (omega arith, not-clean-fits capture (omega arith) (verdict_in capture) refl place e)

-- ---- captures blanked: at most 64,088 bytes

blanked-few : (capture : List ℕ) → Accepted capture → Value (length (blanked capture))
blanked-few capture open-to =
    let x = (accepted-sound capture open-to).sized in
    omega (arith, blanked-length capture open-to, x.size, x.few, (count-range capture).1)

pub blank-fits : (capture buffer : List ℕ) → Fits (count_told (blank_outcome capture buffer).answer)
unfolding blank_outcome
blank-fits capture buffer =
    on-accepted (Filled buffer) most_events (omega arith) capture _ (λ number place n v. (n, v))
    (λ open-to. room buffer (blanked capture) (blanked-few capture open-to))

-- ---- open rows: an opening an event at most, and rows of fourteen bits

openings-length : (s : Settings) (b : ℕ) (p : Part) (i : ℕ) (es : List Event) → length (openings_from s b p i es) ≤ length es
openings-length s b p i [] = omega arith
openings-length s b p i (e ∷ es) = go (opens (command_of e.pins) b) (openings-length s b (step s p e) (suc i) es)
  where
    go : (y : Bool) → length (openings_from s b (step s p e) (suc i) es) ≤ length es →
        length (cond y (record { row = ((step s p e).banks b).row; first = i; last = last_open s b (step s p e) i es } ∷ openings_from s b (step s p e) (suc i) es)
        (openings_from s b (step s p e) (suc i) es)) ≤ suc (length es)
    go true l = omega (arith, l)
    go false l = omega (arith, l)

index-few : (capture : List ℕ) → event_count capture ≤ 8000 → Value (length (index_in capture))
unfolding index_in index_of openings_of
index-few capture short =
    let s = settings_in capture in
    let es = events_of capture in
    let o : ℕ → List Opening = λ b. openings_from s b (start s) 0 es in
    let few : (b : ℕ) → length (o b) ≤ length es = λ b. openings-length s b (start s) 0 es in
    omega (
      arith,
      words-length (o 0 ++ o 1 ++ o 2 ++ o 3),
      length-append (o 0 ++ o 1 ++ o 2) (o 3),
      length-append (o 0 ++ o 1) (o 2),
      length-append (o 0) (o 1),
      few 0,
      few 1,
      few 2,
      few 3,
      events-length capture (omega arith),
    )

rows-low : (s : Settings) (p : Part) (es : List Event) → ((b : ℕ) → (p.banks b).row < 16384) → (b : ℕ) → ((run s p es).banks b).row < 16384
rows-low s p [] low b = low b
rows-low s p (e ∷ es) low b = rows-low s (step s p e) es (low-after s p e low) b

abbrev RowFits : Option ℕ → Type 0
RowFits o = Fits (row_told (answered o))

row-in-fits : (capture : List ℕ) (bank event : ℕ) → RowFits (row_in capture bank event)
unfolding row_in row_after
row-in-fits capture bank event =
    let s = settings_in capture in
    let k = (run s (start s) (take (suc event) (events_of capture))).banks bank in
    go k.opened k.row (rows-low s (start s) (take (suc event) (events_of capture)) (λ b. omega arith) bank)
  where
    go : (y : Bool) (row : ℕ) → row < 16384 → RowFits (cond y (some row) none)
    go true row l = (omega arith, omega (arith, l))
    go false row l = omega arith

pub row_fits : (capture : List ℕ) (bank event records words : ℕ) → Fits (row_told (open_row_answer capture bank event records words))
unfolding open_row_answer
row_fits capture bank event records words =
    on-accepted (λ (a : Answer (Option ℕ)). Fits (row_told a)) most_events (omega arith) capture _ (λ number place n v. (n, v))
    (λ open-to.
    go (accepted-sound capture open-to).sized.few (not_clean (verdict_in capture)) (not (question_fits capture bank event)) (ltb records 4) (ltb words needed) refl)
  where
    needed : ℕ
    needed = length (index_in capture)

    go : event_count capture ≤ 8000 → (o : Option ℕ) (x y z : Bool) → not_clean (verdict_in capture) ≡ o →
        Fits (row_told (unless 8 o (unless 13 (given 0 x) (unless 7 (given 4 y) (unless 7 (given needed z) (answered (row_in capture bank event)))))))
    go short (some place) x y z e = (omega arith, not-clean-fits capture (omega arith) (verdict_in capture) refl place e)
    go short none true y z e = (omega arith, omega arith)
    go short none false true z e = (omega arith, omega arith)
    go short none false false true e = (omega arith, index-few capture short)
    go short none false false false e = row-in-fits capture bank event

-- ---- schedules

bad-request : (s : Settings) (qs : List ℕ) (place : ℕ) → bad_request s qs ≡ some place → Value place
unfolding bad_request
bad-request s qs place e = go (ltb 2000 (length qs)) refl e
  where
    go : (b : Bool) → ltb 2000 (length qs) ≡ b → cond b (some 2000) (lowest (λ i. not (request_fits s (get_or qs i 0))) (length qs)) ≡ some place → Value place
    go true l v = let z : 2000 ≡ place = cc in omega arith
    go false l v = omega (arith, ltb-false 2000 (length qs) l, below (λ i. not (request_fits s (get_or qs i 0))) (length qs) place v)

late-request : (rs : List ℕ) (s : Settings) (closed : Bool) (es : List Event) (from : ℕ) (qs : List ℕ) (i : ℕ) → schedule_from rs s closed es from qs ≡ late i →
    i < from + length qs
unfolding schedule_from
late-request rs s closed es from [] i e = let z : ◌≡◌ {A = ℕ} 0 1 = cc in absurd (omega arith)
late-request rs s closed es from (q ∷ qs) i e = go (served rs s closed es q) e (λ next. late-request rs s closed next (suc from) qs i)
  where
    go : (x : Option (List Event)) → when_served x (λ next. schedule_from rs s closed next (suc from) qs) from ≡ late i →
        ((next : List Event) → schedule_from rs s closed next (suc from) qs ≡ late i → i < suc from + length qs) → i < from + suc (length qs)
    go none v ih = let z : from ≡ i = cc in omega arith
    go (some next) v ih = omega (arith, ih next v)

late-fits : (s : Settings) (policy : ℕ) (qs : List ℕ) (i : ℕ) → bad_request s qs ≡ none → schedule_of s policy qs ≡ late i → Value i
unfolding schedule_by
late-fits s policy qs i r e = omega (arith, few-requests s qs r, late-request placing s (closes_rows policy) [] 0 qs i e)

pub schedule-fits : (ws qs : List ℕ) (policy : ℕ) (buffer : List ℕ) → Fits (count_told (schedule_outcome ws qs policy buffer).answer)
unfolding schedule_outcome
schedule-fits ws qs policy buffer =
    go (given 0 (not (eqb (length ws) 14))) (bad_setting ws) (given 0 (not (policy_fits policy))) (bad_request (settings_of ws) qs) (schedule_of (settings_of ws) policy qs)
    refl refl refl refl refl
  where
    fourteen : given 0 (not (eqb (length ws) 14)) ≡ none → length ws ≡ 14
    fourteen e = eqb-true (length ws) 14 (not-false _ (not-given 0 _ e))

    go : (a b d c : Option ℕ) (x : Schedule) → given 0 (not (eqb (length ws) 14)) ≡ a → bad_setting ws ≡ b → given 0 (not (policy_fits policy)) ≡ d →
        bad_request (settings_of ws) qs ≡ c → schedule_of (settings_of ws) policy qs ≡ x →
        Filled buffer (unless 2 a (unless 3 b (unless 10 d (unless 5 c (when_planned x (λ es. fitting buffer (capture_of ws es)))))))
    go (some place) b d c x p q m r s = (omega arith, at_zero (not (eqb (length ws) 14)) place p)
    go none (some place) d c x p q m r s = (omega arith, bad-setting ws place (omega (arith, fourteen p)) q)
    go none none (some place) c x p q m r s = (omega arith, at_zero (not (policy_fits policy)) place m)
    go none none none (some place) x p q m r s = (omega arith, bad-request (settings_of ws) qs place r)
    go none none none none (late i) p q m r s = (omega arith, late-fits (settings_of ws) policy qs i r s)
    go none none none none (planned es) p q m r s =
        let l : length ws ≡ 14 = fourteen p in
        room buffer (capture_of ws es)
        (omega (arith, size 0 ws es, (plan.schedule-fits ws qs l q r policy es s).few, few-requests (settings_of ws) qs r))
