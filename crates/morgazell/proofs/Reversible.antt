-- The packing loses nothing: what was told is got back from the number, and the whole answer from it and the capture.
use Prim.Native.Nat.{ℕ, ◌^◌, ◌<◌}
use mathlib.Core.Bool.{false}
use mathlib.Core.List.{List}
use mathlib.Core.Option.{Option, none, some}
use mathlib.Core.Path.{◌≡◌, refl, sym, ap, ◌∙◌}
use native.Mathlib.Nat.{zero-add}
use native.Mathlib.Omega.{arith}
use borrow.Author.Tests.{ne_eqb}
use lib.Dec.{eqb}
use Rattle.reading.specs.Capture.{Event, most_events, most_recorded, event_count, event_bytes, event_at, events_of}
use Rattle.reading.specs.Verdict as is
use Rattle.reading.specs.Answers.{Answer, Report, refused, answered, verdict_in, judge_answer_to, judge_answer, recording_answer, cells_outcome, schedule_outcome}
use Rattle.reading.specs.Blank.{blank_outcome}
use Rattle.reading.specs.Export.{read_outcome, write_outcome}
use Rattle.reading.specs.OpenRow.{open_row_answer}
use Rattle.reading.specs.Player.{play_outcome}
use Rattle.reading.proofs.Meaning.{event_of}
use Rattle.words.proofs.Counting.{at_count}
use Rattle.morgazell.specs.Packing.{Told, refusal, count, breach, word, packed, told, number_in, rule_in, value_in, unpacked, verdict_told, judge_told, count_told, row_told, judge_answer_of, count_answer_of, row_answer_of}
use Rattle.morgazell.proofs.Fitting.{Number, Value, Fits, on-accepted, accepted-few, events-length, broken-at, judge-fits, cells-fits, schedule-fits, blank-fits, row_fits}
use Rattle.morgazell.proofs.Exports.{read_fits, write-fits}
use Rattle.morgazell.proofs.Playing.{play-fits}

word_back : (number rule value : ℕ) → number < 2 ^ 8 → rule < 2 ^ 8 → Value value → unpacked (word number rule value) ≡ told number rule value
unfolding unpacked
word_back number rule value n r v =
    let a : number_in (word number rule value) ≡ number = omega arith in
    let b : rule_in (word number rule value) ≡ rule = omega arith in
    let c : value_in (word number rule value) ≡ value = omega arith in
    rw (a, b, c)

not-zero : (n : ℕ) → Number n → eqb n 0 ≡ false
not-zero n l = ne_eqb n 0 (omega arith)

-- whatever fits is got back
pub unpacked-packed : (t : Told) → Fits t → unpacked (packed t) ≡ t
unpacked-packed (refusal number place) f = word_back number 0 place f.0.1 (omega arith) f.1 ∙ rw (not-zero number f.0)
unpacked-packed (count n) f = word_back 0 0 n (omega arith) (omega arith) f
unpacked-packed (breach rule event) f = word_back 0 rule event (omega arith) f.0.1 f.1 ∙ rw (not-zero rule f.0)

-- ---- the judge

-- Two captures with the same number have the same refusal and place, the same count of judged events, or the same rule
-- and event. How many events a broken capture holds and the cycle of the broken one are not in the number.
tells-to : (most : ℕ) → Value most → (a b : List ℕ) → packed (judge_told (judge_answer_to most a)) ≡ packed (judge_told (judge_answer_to most b)) →
    judge_told (judge_answer_to most a) ≡ judge_told (judge_answer_to most b)
tells-to most small a b e = sym (unpacked-packed _ (judge-fits most small a)) ∙ ap unpacked e ∙ unpacked-packed _ (judge-fits most small b)

pub judge-tells : (a b : List ℕ) → packed (judge_told (judge_answer a)) ≡ packed (judge_told (judge_answer b)) →
    judge_told (judge_answer a) ≡ judge_told (judge_answer b)
judge-tells = tells-to most_events (omega arith)

pub recording-tells : (a b : List ℕ) → packed (judge_told (recording_answer a)) ≡ packed (judge_told (recording_answer b)) →
    judge_told (recording_answer a) ≡ judge_told (recording_answer b)
recording-tells = tells-to most_recorded (omega arith)

module _ (capture : List ℕ) (short : Value (event_count capture)) where
  -- the cycle of the broken event stands in the capture
  cycle-is : (rule event cycle : ℕ) → verdict_in capture ≡ is.broken rule event cycle → (event_at (event_bytes capture) event).cycle ≡ cycle
  unfolding events_of
  cycle-is rule event cycle e =
      let b = broken-at capture short rule event cycle e in
      let there : event < event_count capture = omega (arith, b.there, events-length capture short) in
      let found : event_of (events_of capture) event ≡ event_at (event_bytes capture) event =
      at_count (event_at (event_bytes capture)) (record { cycle = 0; pins = 0 }) 0 (event_count capture) event there
      ∙ ap (event_at (event_bytes capture)) (zero-add event) in
      ap (λ (x : Event). x.cycle) (sym found) ∙ b.cycle

  report-back : (v : is.Verdict) → verdict_in capture ≡ v →
      judge_answer_of capture (verdict_told (is.judged_of (event_count capture) v) v) ≡
      answered (record { events = event_count capture; judged = is.judged_of (event_count capture) v; verdict = v })
  report-back is.clean e = refl
  report-back (is.broken rule event cycle) e =
      ap (λ (t : ℕ). answered (record { events = event_count capture; judged = event; verdict = is.broken rule event t })) (cycle-is rule event cycle e)

module _ (most : ℕ) (small : Value most) (capture : List ℕ) where
  told_back : judge_answer_of capture (judge_told (judge_answer_to most capture)) ≡ judge_answer_to most capture
  unfolding judge_answer_to
  told_back =
      on-accepted (λ (a : Answer Report). judge_answer_of capture (judge_told a) ≡ a) most small capture _ (λ number place n v. refl)
      (λ open-to. report-back capture (accepted-few most small capture open-to) (verdict_in capture) refl)

  back_to : judge_answer_of capture (unpacked (packed (judge_told (judge_answer_to most capture)))) ≡ judge_answer_to most capture
  back_to = ap (judge_answer_of capture) (unpacked-packed (judge_told (judge_answer_to most capture)) (judge-fits most small capture)) ∙ told_back

-- with the capture, or the recording, at hand nothing at all is lost
pub judge-back : (capture : List ℕ) → judge_answer_of capture (unpacked (packed (judge_told (judge_answer capture)))) ≡ judge_answer capture
judge-back = back_to most_events (omega arith)

pub recording-back : (recording : List ℕ) → judge_answer_of recording (unpacked (packed (judge_told (recording_answer recording)))) ≡ recording_answer recording
recording-back = back_to most_recorded (omega arith)

-- ---- the calls that fill a buffer: the number alone tells the answer

count-back : (a : Answer ℕ) → Fits (count_told a) → count_answer_of (unpacked (packed (count_told a))) ≡ a
count-back a f = ap count_answer_of (unpacked-packed (count_told a) f) ∙ go a
  where
    go : (a : Answer ℕ) → count_answer_of (count_told a) ≡ a
    go (refused number place) = refl
    go (answered n) = refl

count-tells : (a b : Answer ℕ) → Fits (count_told a) → Fits (count_told b) → packed (count_told a) ≡ packed (count_told b) → a ≡ b
count-tells a b f g e = sym (count-back a f) ∙ ap (λ (w : ℕ). count_answer_of (unpacked w)) e ∙ count-back b g

module _ (capture buffer : List ℕ) where
  abbrev cells_answer : Answer ℕ
  cells_answer = (cells_outcome capture buffer).answer

  pub cells-back : count_answer_of (unpacked (packed (count_told cells_answer))) ≡ cells_answer
  cells-back = count-back cells_answer (cells-fits capture buffer)

pub cells-tells : (a b : List ℕ) (x y : List ℕ) → packed (count_told (cells_answer a x)) ≡ packed (count_told (cells_answer b y)) → cells_answer a x ≡ cells_answer b y
cells-tells a b x y = count-tells (cells_answer a x) (cells_answer b y) (cells-fits a x) (cells-fits b y)

module _ (settings requests : List ℕ) (policy : ℕ) (buffer : List ℕ) where
  abbrev schedule_answer : Answer ℕ
  schedule_answer = (schedule_outcome settings requests policy buffer).answer

  pub schedule-back : count_answer_of (unpacked (packed (count_told schedule_answer))) ≡ schedule_answer
  schedule-back = count-back schedule_answer (schedule-fits settings requests policy buffer)

pub schedule-tells : (a b q r : List ℕ) (m n : ℕ) (x y : List ℕ) → packed (count_told (schedule_answer a q m x)) ≡ packed (count_told (schedule_answer b r n y)) →
    schedule_answer a q m x ≡ schedule_answer b r n y
schedule-tells a b q r m n x y = count-tells (schedule_answer a q m x) (schedule_answer b r n y) (schedule-fits a q m x) (schedule-fits b r n y)

pub blank-back : (capture buffer : List ℕ) → count_answer_of (unpacked (packed (count_told (blank_outcome capture buffer).answer))) ≡ (blank_outcome capture buffer).answer
blank-back capture buffer = count-back (blank_outcome capture buffer).answer (blank-fits capture buffer)

pub blank-tells : (a b x y : List ℕ) → packed (count_told (blank_outcome a x).answer) ≡ packed (count_told (blank_outcome b y).answer) →
    (blank_outcome a x).answer ≡ (blank_outcome b y).answer
blank-tells a b x y = count-tells (blank_outcome a x).answer (blank_outcome b y).answer (blank-fits a x) (blank-fits b y)

module _ (records settings : List ℕ) (edition : ℕ) (buffer : List ℕ) where
  abbrev read_answer : Answer ℕ
  read_answer = (read_outcome records settings edition buffer).answer

  pub read-export-back : count_answer_of (unpacked (packed (count_told read_answer))) ≡ read_answer
  read-export-back = count-back read_answer (read_fits records settings edition buffer)

pub read-export-tells : (a b s t : List ℕ) (m n : ℕ) (x y : List ℕ) → packed (count_told (read_answer a s m x)) ≡ packed (count_told (read_answer b t n y)) →
    read_answer a s m x ≡ read_answer b t n y
read-export-tells a b s t m n x y = count-tells (read_answer a s m x) (read_answer b t n y) (read_fits a s m x) (read_fits b t n y)

pub write-export-back : (capture buffer : List ℕ) →
    count_answer_of (unpacked (packed (count_told (write_outcome capture buffer).answer))) ≡ (write_outcome capture buffer).answer
write-export-back capture buffer = count-back (write_outcome capture buffer).answer (write-fits capture buffer)

pub write-export-tells : (a b x y : List ℕ) → packed (count_told (write_outcome a x).answer) ≡ packed (count_told (write_outcome b y).answer) →
    (write_outcome a x).answer ≡ (write_outcome b y).answer
write-export-tells a b x y = count-tells (write_outcome a x).answer (write_outcome b y).answer (write-fits a x) (write-fits b y)

-- ---- plays

module _ (capture : List ℕ) (first : ℕ) (window writes reads : List ℕ) where
  abbrev play_answer : Answer ℕ
  play_answer = (play_outcome capture first window writes reads).answer

  pub play-back : count_answer_of (unpacked (packed (count_told play_answer))) ≡ play_answer
  play-back = count-back play_answer (play-fits capture first window writes reads)

pub play-tells : (a b : List ℕ) (i j : ℕ) (u v w x y z : List ℕ) → packed (count_told (play_answer a i u w y)) ≡ packed (count_told (play_answer b j v x z)) →
    play_answer a i u w y ≡ play_answer b j v x z
play-tells a b i j u v w x y z = count-tells (play_answer a i u w y) (play_answer b j v x z) (play-fits a i u w y) (play-fits b j v x z)

-- ---- open rows

module _ (capture : List ℕ) (bank event records words : ℕ) where
  abbrev row_answer : Answer (Option ℕ)
  row_answer = open_row_answer capture bank event records words

  pub row_back : row_answer_of (unpacked (packed (row_told row_answer))) ≡ row_answer
  row_back = ap row_answer_of (unpacked-packed (row_told row_answer) (row_fits capture bank event records words)) ∙ go row_answer
    where
      go : (a : Answer (Option ℕ)) → row_answer_of (row_told a) ≡ a
      go (refused number place) = refl
      go (answered none) = refl
      go (answered (some row)) = refl

pub row-tells : (a b : List ℕ) (j k e f r t x y : ℕ) → packed (row_told (row_answer a j e r x)) ≡ packed (row_told (row_answer b k f t y)) →
    row_answer a j e r x ≡ row_answer b k f t y
row-tells a b j k e f r t x y h = sym (row_back a j e r x) ∙ ap (λ (w : ℕ). row_answer_of (unpacked w)) h ∙ row_back b k f t y
