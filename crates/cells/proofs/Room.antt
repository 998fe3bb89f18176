-- Room for sixteen cells a command is enough for a clean capture: its mode words are valid, so a burst keeps at most
-- eight pairs.
use Prim.Native.Nat.{ℕ, zero, suc, ◌+◌, ◌*◌, ◌≤◌}
use mathlib.Core.List.{List}
use mathlib.Core.Option.{none}
use mathlib.Core.Path.{◌≡◌, sym, ap}
use native.Mathlib.Nat.{zero-add}
use native.Mathlib.Omega.{arith}
use borrow.Author.Tests.{le-ltb}
use lib.ListN.{length, length-append}
use Rattle.reading.specs.Settings.{Settings, settings_of}
use Rattle.reading.specs.Capture.{Event, event_at}
use Rattle.reading.specs.Bursts.{column_of}
use Rattle.pins.specs.Pins.{bank_of, address_of}
use Rattle.judge.specs.Meaning.{part_at}
use Rattle.beats.specs.Kept.{events_from, kept_of}
use Rattle.beats.specs.Rows.{first_in_row}
use Rattle.beats.proofs.Events.{no-event}
use Rattle.beats.proofs.Looking.{kept_half}
use Rattle.beats.proofs.Storing.{length-cells}
use Rattle.beats.proofs.Ahead.{event_cells, cells_from}
use Rattle.cells.specs.Meaning.{Listable, Clean, cells_on, lacking_in}
use Rattle.cells.proofs.Modes.{few-pairs, valid-at}
use Rattle.cells.proofs.Walked.{all-cells, next-cells}

module _ (settings bytes : List ℕ) (n : ℕ) (z : Listable settings bytes n) where
  abbrev s : Settings
  s = settings_of settings

  few-cells : Clean s bytes n → (left i : ℕ) → i + left ≡ n → length (cells_from s (part_at s bytes i) (events_from bytes n i)) ≤ 16 * left
  few-cells k zero i e = omega (arith, ap (λ (es : List Event). length (cells_from s (part_at s bytes i) es)) (no-event bytes n i (omega arith)))
  few-cells k (suc left) i e =
      let p = part_at s bytes i in
      let a = event_at bytes i in
      let later = events_from bytes n (i + 1) in
      omega (
        arith,
        ap length (next-cells settings bytes n i (omega arith)),
        length-append (event_cells s p a later) (cells_from s (part_at s bytes (i + 1)) later),
        length-cells (first_in_row s (bank_of a.pins) (p.banks (bank_of a.pins)).row) p.mode (column_of s (address_of a.pins)) (2 * kept_of s p.mode a later),
        kept_half s p.mode a later,
        few-pairs p.mode (valid-at settings bytes n z k i (omega arith)),
        few-cells k left (i + 1) (omega arith),
      )

  pub sixteen-each : Clean s bytes n → length (cells_on s bytes n) ≤ 16 * n
  sixteen-each k = omega (arith, ap length (all-cells settings bytes n z k), few-cells k n 0 (zero-add n))

  pub enough : {room : ℕ} → Clean s bytes n → 16 * n ≤ room →
      none ≡ lacking_in room (length (cells_on s bytes n))
  enough {room} k l = sym (rw (le-ltb room (length (cells_on s bytes n)) (omega (arith, sixteen-each k))))
