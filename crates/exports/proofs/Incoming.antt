-- What reading an export answers, and what it leaves in the buffer, at each place where it ends.
use Rattle.std.proofs.Common.{◌≡◌, ℕ, ◌*◌, ◌%◌, ◌<◌, ◌≤◌, Bool, true, false, cond, not, ◌||◌, eqb, ltb, List, ◌++◌, length, sym, refl, ap, ◌∙◌, arith, ltb-false, le-ltb, lt-ltb, eqb-true}
use mathlib.Core.Bool.{or-true, or-false}
use mathlib.Core.Option.{Option, none, some}
use lib.ListN.{length-map}
use lib.Seq.{sets}
use Rattle.reading.specs.Search.{given, or_else, count, lowest}
use Rattle.reading.specs.Words.{bytes_of}
use Rattle.reading.specs.Settings.{settings_count, bad_setting}
use Rattle.reading.specs.Capture.{newest_edition, capture_size}
use Rattle.reading.specs.Schedule.{event_words, header_of, capture_in}
use Rattle.reading.specs.Answers.{Answer, answered, unless, Outcome, leaves, fitting}
use Rattle.reading.specs.Export.{most_records, record_count, record_of, records_of, stands, bad_export, bad_pins, read_outcome}
use Rattle.words.proofs.Runs.{front}
use Rattle.words.proofs.Words.{bytes_of-append}
use Rattle.std.specs.Prelude.{Result, Ok, Err}
use Rattle.refusal.specs.declared.Refusal.{Refusal}
use Rattle.refusal.specs.declared.Refusal.TheVariants.{Header, Event, Room, Export}
use Rattle.refusal.specs.Refusal.{told, passed}
use Rattle.settings.specs.Meaning.{checked}
use Rattle.settings.proofs.Fitting as settings-fit
use Rattle.capture.specs.Calls.{Meets}
use Rattle.capture.proofs.Outcome.{follow, follow-unless}
use Rattle.capture.proofs.Accepted.{length-count}
use Rattle.capture.proofs.Whole as whole
use Rattle.exports.specs.Meaning.{Held, Fillable, too_high, records_from, records_in, filled, filling}

-- what a call ends with is an outcome's answer and buffer
abbrev pub counting : Result ℕ Refusal → Answer ℕ
counting r = told (λ n. n) r

abbrev pub Ends : Outcome → Result ℕ Refusal → List ℕ → Type 0
Ends o r out = Meets (counting r) out o

-- ---- an export that is not refused by number 11

parts : (a b : Bool) (o : Option ℕ) → or_else (given 0 (not a)) (or_else (given 8000 b) o) ≡ none → (a ≡ true) × (b ≡ false) × (o ≡ none)
parts true false o e = (refl, refl, e)
parts true true o e = let z : ◌≡◌ {A = ℕ} 0 1 = cc in absurd (omega arith)
parts false b o e = let z : ◌≡◌ {A = ℕ} 0 1 = cc in absurd (omega arith)

pub record Whole (x : List ℕ) : Type 0 where
  pub size : length x ≡ 6 * record_count x
  pub few : record_count x ≤ most_records
  pub moves : lowest (stands x) (record_count x) ≡ none

pub whole-records : (x : List ℕ) → bad_export x ≡ none → Whole x
unfolding bad_export
whole-records x e =
    let (a, b, c) = parts (eqb (length x % 6) 0) (ltb most_records (record_count x)) (lowest (stands x) (record_count x)) e in
    record { size = omega (arith, eqb-true (length x % 6) 0 a); few = ltb-false most_records (record_count x) b; moves = c }

pub records-count : (x : List ℕ) → length (records_of x) ≡ record_count x
unfolding records_of
records-count x = length-map (count 0 (record_count x)) (record_of x) ∙ length-count 0 (record_count x)

-- ---- the call

module _ (x : List ℕ) (ws : List ℕ) (edition : ℕ) (out : List ℕ) where
  abbrev pub capture : List ℕ
  capture = capture_in edition ws (records_of x)

  -- what follows when settings and edition are right
  abbrev rest : Answer (List ℕ)
  rest = unless 11 (bad_export x) (unless 4 (bad_pins x) (fitting out capture))

  -- ---- refusals 2 and 3

  pub no-edition : 1 < edition → Ends (read_outcome x ws edition out) (Err Header) out
  unfolding read_outcome
  no-edition l = rw (lt-ltb newest_edition edition l, or-true (not (eqb (length ws) settings_count))) (refl, refl)

  module _ (known : edition ≤ 1) where
    tested : read_outcome x ws edition out ≡ leaves (follow (checked ws) rest) out
    unfolding read_outcome checked
    tested =
        let count : Option ℕ = given 0 (not (eqb (length ws) settings_count)) in
        let same : (not (eqb (length ws) settings_count) || ltb newest_edition edition) ≡ not (eqb (length ws) settings_count) =
        ap (λ (b : Bool). not (eqb (length ws) settings_count) || b) (le-ltb newest_edition edition known) ∙ or-false _ in
        ap (λ (b : Bool). leaves (unless 2 (given 0 b) (unless 3 (bad_setting ws) rest)) out) same
        ∙ ap (λ (a : Answer (List ℕ)). leaves a out)
        (ap (unless 2 count) (follow-unless 3 (bad_setting ws) (answered tt) rest) ∙ follow-unless 2 count (unless 3 (bad_setting ws) (answered tt)) rest)

    pub refuses : (r : Refusal) → passed {A = Unit {0}} (Err r) ≡ checked ws → Ends (read_outcome x ws edition out) (Err r) out
    refuses r e = rw (tested, ← e) (refl, refl)

    -- ---- refusal 11

    module _ (right : answered tt ≡ checked ws) where
      fourteen : length ws ≡ settings_count
      fourteen = (settings-fit.fitting ws (sym right)).count

      onward : read_outcome x ws edition out ≡ leaves rest out
      onward = tested ∙ rw (← right)

      pub unread : {place : ℕ} → some place ≡ bad_export x → Ends (read_outcome x ws edition out) (Err (Export place)) out
      unread k = rw (onward, ← k) (refl, refl)

      -- ---- refusal 4

      module _ (fine : none ≡ bad_export x) where
        pub held : Held x (record_count x)
        held = let w = whole-records x (sym fine) in record { few = w.few; there = omega (arith, w.size) }

        pub high-pins : {place : ℕ} → some place ≡ lowest (too_high x) (record_count x) → Ends (read_outcome x ws edition out) (Err (Event place)) out
        unfolding bad_pins
        high-pins m = rw (onward, ← fine, ← m) (refl, refl)

        -- ---- the capture

        module _ (low : none ≡ lowest (too_high x) (record_count x)) where
          pub fillable : Fillable x ws (record_count x)
          fillable = record { held = held; fourteen = fourteen }

          abbrev n : ℕ
          n = record_count x

          long : length capture ≡ capture_size settings_count n
          long = whole.size edition ws (records_of x) ∙ (λ i. capture_size (fourteen i) (records-count x i))

          whole_is : bytes_of (header_of edition (length ws) n ++ ws) ++ records_in x n ≡ capture
          unfolding capture_in records_from records_of
          whole_is =
              sym (bytes_of-append (header_of edition (length ws) n ++ ws) (event_words (records_of x)))
              ∙ ap (λ (k : ℕ). bytes_of (header_of edition (length ws) k ++ ws ++ event_words (records_of x))) (sym (records-count x))

          outcome-is : read_outcome x ws edition out ≡
              leaves (unless 7 (given (capture_size settings_count n) (ltb (length out) (capture_size settings_count n))) (answered capture)) out
          unfolding bad_pins
          outcome-is =
              onward
              ∙ (λ i. leaves (unless 11 (sym fine i) (unless 4 (sym low i) (fitting out capture))) out)
              ∙ (λ i. leaves (unless 7 (given (long i) (ltb (length out) (long i))) (answered capture)) out)

          final : (v : Bool) → ltb (length out) (capture_size settings_count n) ≡ v →
              Ends (leaves (unless 7 (given (capture_size settings_count n) v) (answered capture)) out)
              (cond v (Err (Room (capture_size settings_count n))) (Ok (capture_size settings_count n)))
              (cond v out (sets out 0 capture))
          final true k = (refl, refl)
          final false k =
              (ap answered (sym long), front capture out (omega (arith, long, ltb-false (length out) (capture_size settings_count n) k)))

          pub ends : {r : Result ℕ Refusal} {o : List ℕ} → r ≡ filled out n → o ≡ filling x ws edition n out → Ends (read_outcome x ws edition out) r o
          unfolding filled filling
          ends e f =
              let size = capture_size settings_count n in
              let fin = final (ltb (length out) size) refl in (
                ap counting e ∙ fin.0 ∙ sym (ap (λ (z : Outcome). z.answer) outcome-is),
                f ∙ ap (λ (z : List ℕ). cond (ltb (length out) size) out (sets out 0 z)) whole_is ∙ fin.1 ∙ sym (ap (λ (z : Outcome). z.buffer) outcome-is),
              )
