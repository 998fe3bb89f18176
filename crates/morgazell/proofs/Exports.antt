-- What reading and writing an export answer fits the bits that it is packed into.
use Prim.Native.Nat.{ℕ, ◌%◌, ◌≤◌}
use mathlib.Core.Bool.{Bool, true, false, not, ◌||◌}
use mathlib.Core.List.{List}
use mathlib.Core.Option.{Option, none, some}
use mathlib.Core.Path.{◌≡◌, refl}
use native.Mathlib.Omega.{arith}
use borrow.Author.Tests.{eqb-true, ltb-false}
use lib.Dec.{eqb, ltb}
use lib.ListN.{length}
use Rattle.reading.specs.Search.{or_else, given, lowest}
use Rattle.reading.specs.Settings.{settings_count, bad_setting}
use Rattle.reading.specs.Capture.{most_events, newest_edition, events_of}
use Rattle.reading.specs.Schedule.{capture_in}
use Rattle.reading.specs.Answers.{unless, fitting}
use Rattle.reading.specs.Export.{most_records, record_count, records_of, stands, bad_export, bad_pins, read_outcome, bridged, export_of, unwritable, write_outcome}
use Rattle.reading.proofs.Laws.{not-given}
use Rattle.capture.proofs.Whole.{size}
use Rattle.exports.specs.Meaning.{too_high}
use Rattle.exports.proofs.Incoming.{whole-records, records-count}
use Rattle.exports.proofs.Bridges.{export-length}
use Rattle.exports.proofs.Outgoing.{few-records}
use Rattle.morgazell.specs.Packing.{count_told}
use Rattle.morgazell.proofs.Fitting.{Value, Fits, below, at-given, at_zero, bad-setting, on-accepted, Filled, room}

-- ---- reading

bad-export : (x : List ℕ) (place : ℕ) → bad_export x ≡ some place → Value place
unfolding bad_export
bad-export x place e = go (eqb (length x % 6) 0) (ltb most_records (record_count x)) refl e
  where
    go : (a b : Bool) → ltb most_records (record_count x) ≡ b →
        or_else (given 0 (not a)) (or_else (given most_records b) (lowest (stands x) (record_count x))) ≡ some place → Value place
    go false b l v = at_zero true place v
    go true true l v = at-given most_records (omega arith) true place v
    go true false l v = omega (arith, ltb-false most_records (record_count x) l, below (stands x) (record_count x) place v)

bad-pins : (x : List ℕ) (place : ℕ) → record_count x ≤ most_records → bad_pins x ≡ some place → Value place
unfolding bad_pins
bad-pins x place l e = omega (arith, below (too_high x) (record_count x) place e)

pub read_fits : (x ws : List ℕ) (edition : ℕ) (buffer : List ℕ) → Fits (count_told (read_outcome x ws edition buffer).answer)
unfolding read_outcome
read_fits x ws edition buffer = go (given 0 wrong) (bad_setting ws) (bad_export x) (bad_pins x) refl refl refl refl
  where
    wrong : Bool
    wrong = not (eqb (length ws) settings_count) || ltb newest_edition edition

    fourteen : (a b : Bool) → eqb (length ws) settings_count ≡ a → (not a || b) ≡ false → length ws ≡ 14
    fourteen true b e f = eqb-true (length ws) settings_count e
    fourteen false b e f = let z : ◌≡◌ {A = ℕ} 0 1 = cc in absurd (omega arith)

    counted : given 0 wrong ≡ none → length ws ≡ 14
    counted e = fourteen (eqb (length ws) settings_count) (ltb newest_edition edition) refl (not-given 0 wrong e)

    go : (a b c d : Option ℕ) → given 0 wrong ≡ a → bad_setting ws ≡ b → bad_export x ≡ c → bad_pins x ≡ d →
        Filled buffer (unless 2 a (unless 3 b (unless 11 c (unless 4 d (fitting buffer (capture_in edition ws (records_of x)))))))
    go (some place) b c d p q r s = (omega arith, at_zero wrong place p)
    go none (some place) c d p q r s = (omega arith, bad-setting ws place (omega (arith, counted p)) q)
    go none none (some place) d p q r s = (omega arith, bad-export x place r)
    go none none none (some place) p q r s = (omega arith, bad-pins x place (whole-records x r).few s)
    go none none none none p q r s =
        room buffer (capture_in edition ws (records_of x))
        (omega (arith, size edition ws (records_of x), records-count x, (whole-records x r).few, counted p))

-- ---- writing

pub write-fits : (capture buffer : List ℕ) → Fits (count_told (write_outcome capture buffer).answer)
unfolding write_outcome
write-fits capture buffer =
    on-accepted (Filled buffer) most_events (omega arith) capture _ (λ number place n v. (n, v)) (λ open-to. go (unwritable capture) refl)
  where
    export : List ℕ
    export = export_of (bridged (events_of capture))

    go : (b : Bool) → unwritable capture ≡ b → Filled buffer (unless 12 (given 0 b) (fitting buffer export))
    go true e = (omega arith, omega arith)
    go false e = room buffer export (omega (arith, export-length (bridged (events_of capture)), few-records capture e))
