-- What each function says of a pin word is what the reading says.
use Prim.Native.Nat.{ℕ, ◌+◌, ◌*◌, ◌/◌, ◌%◌}
use mathlib.Core.Bool.{Bool, true, false}
use mathlib.Core.Path.{◌≡◌, refl, sym, ◌∙◌}
use native.Mathlib.Omega.{arith}
use Rattle.reading.specs.Settings.{Settings}
use Rattle.reading.specs.Blank.{names_column, names_row, blank_pins}
use Rattle.pins.specs.Pins.{gives}
use Rattle.pins.proofs.Commands.{gives-is}
use Rattle.alike.proofs.Pins.{as-made}

-- READ and WRITE name a column, and give a burst
pub column-told : (w : ℕ) {v u : Bool} → v ≡ gives w → v ≡ u → names_column w ≡ u
column-told w e f = gives-is w ∙ sym e ∙ f

module _ (s : Settings) (w : ℕ) where
  pub column-blank : names_column w ≡ true → w / 16384 * 16384 + w / 1024 % 2 * 1024 ≡ blank_pins s w
  column-blank e = omega arith ∙ sym (as-made w s e refl)

  pub row-blank : names_column w ≡ false → names_row s w ≡ true → w / 16384 * 16384 ≡ blank_pins s w
  row-blank e f = omega arith ∙ sym (as-made w s e f)

  pub other-blank : names_column w ≡ false → names_row s w ≡ false → w ≡ blank_pins s w
  other-blank e f = sym (as-made w s e f)
