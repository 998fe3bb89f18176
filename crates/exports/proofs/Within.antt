-- What was written stands in the buffer.
use Rattle.std.proofs.Common.{◌≡◌, ℕ, ◌≤◌, not, ◌||◌, eqb, ltb, List, length, sym, ap, arith}
use Rattle.reading.specs.Search.{given}
use Rattle.reading.specs.Settings.{settings_count, bad_setting}
use Rattle.reading.specs.Capture.{newest_edition, events_of}
use Rattle.reading.specs.Schedule.{capture_in}
use Rattle.reading.specs.Answers.{Answer, answered, unless, accepted, fitting}
use Rattle.reading.specs.Export.{records_of, bad_export, bad_pins, read_outcome, bridged, export_of, unwritable, write_outcome}
use Rattle.capture.proofs.Outcome as outcome

pub read-within : (x ws : List ℕ) (edition : ℕ) (out : List ℕ) {n : ℕ} {left : List ℕ} → answered n ≡ (read_outcome x ws edition out).answer →
    left ≡ (read_outcome x ws edition out).buffer → n ≤ length left
unfolding read_outcome
read-within x ws edition out e f = omega (arith, (outcome.wrote answer out (sym e)).within, ap length f)
  where
    answer : Answer (List ℕ)
    answer =
        unless 2 (given 0 (not (eqb (length ws) settings_count) || ltb newest_edition edition))
        (unless 3 (bad_setting ws) (unless 11 (bad_export x) (unless 4 (bad_pins x) (fitting out (capture_in edition ws (records_of x))))))

pub write-within : (c out : List ℕ) {n : ℕ} {left : List ℕ} → answered n ≡ (write_outcome c out).answer → left ≡ (write_outcome c out).buffer →
    n ≤ length left
unfolding write_outcome
write-within c out e f = omega (arith, (outcome.wrote answer out (sym e)).within, ap length f)
  where
    answer : Answer (List ℕ)
    answer = accepted c (unless 12 (given 0 (unwritable c)) (fitting out (export_of (bridged (events_of c)))))
