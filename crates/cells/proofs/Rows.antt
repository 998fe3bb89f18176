-- The first cells of the four banks' rows, kept in a list; and the mode word.
use Prim.Native.Nat.{ℕ, zero, suc, ◌+◌, ◌≤◌, ◌<◌}
use mathlib.Core.Bool.{Bool, true, false, cond, ◌&&◌, ◌||◌}
use mathlib.Core.List.{List}
use mathlib.Core.Path.{◌≡◌, refl, sym, ap, ◌∙◌, subst}
use native.Mathlib.Numerals.{add-one}
use native.Mathlib.Omega.{arith}
use borrow.Author.Tests.{eqb-true}
use lib.Dec.{eqb}
use lib.ListN.{get_or, set}
use Rattle.reading.specs.Settings.{Settings}
use Rattle.reading.specs.Capture.{Event, event_at}
use Rattle.reading.specs.Bursts.{column_of}
use Rattle.reading.specs.Part.{Part, step}
use Rattle.pins.specs.Pins.{code_of, bank_of, address_of, gives, mode_after}
use Rattle.judge.specs.Meaning.{part_at}
use Rattle.judge.proofs.Events.{part-next}
use Rattle.beats.specs.Rows.{Sized, InRow, first_in_row, first_cells, cells_opened}
use Rattle.beats.proofs.Columns.{column-lt, first-lt}
use Rattle.beats.proofs.Commands.{mode-is, row_is}
use Rattle.cells.specs.Meaning.{firsts_of, firsts_at, mode_at}

pub first-at : (s : Settings) (p : Part) (b : ℕ) → b < 4 → get_or (firsts_of s p) b 0 ≡ first_in_row s b (p.banks b).row
first-at s p zero l = refl
first-at s p (suc zero) l = refl
first-at s p (suc (suc zero)) l = refl
first-at s p (suc (suc (suc zero))) l = refl
first-at s p (suc (suc (suc (suc b)))) l = absurd (omega arith)

-- READ and WRITE are neither ACTIVE nor MODE REGISTER SET
module _ (w : ℕ) (g : gives w ≡ true) where
  other-code : (eqb (code_of w) 12 ≡ false) × (eqb (code_of w) 0 ≡ false)
  other-code = go (code_of w) (eqb (code_of w) 10) refl g
    where
      go : (q : ℕ) (v : Bool) → eqb q 10 ≡ v → (v || eqb q 2) ≡ true → (eqb q 12 ≡ false) × (eqb q 0 ≡ false)
      go q true e f = let z = eqb-true q 10 e in (rw z, rw z)
      go q false e f = let z = eqb-true q 2 f in (rw z, rw z)

  pub none-opened : (s : Settings) (firsts : List ℕ) → firsts ≡ cells_opened s firsts w
  none-opened s firsts = rw other-code.0

  pub mode-stays : (mode : ℕ) → mode ≡ mode_after mode w
  unfolding mode_after
  mode-stays mode = rw other-code.1

module _ (s : Settings) (p : Part) (e : Event) where
  abbrev opens : Bool
  opens = eqb (code_of e.pins) 12

  abbrev next : Part
  next = step s p e

  row_by : (v u : Bool) (b : ℕ) → opens ≡ v → eqb b (bank_of e.pins) ≡ u → (next.banks b).row ≡ cond (v && u) (address_of e.pins) (p.banks b).row
  row_by v u b f g = row_is s p e b ∙ rw (f, g)

  firsts_after : cells_opened s (firsts_of s p) e.pins ≡ firsts_of s next
  firsts_after = go opens refl
    where
      stays : opens ≡ false → (b : ℕ) → (next.banks b).row ≡ (p.banks b).row
      stays f b = row_by false (eqb b (bank_of e.pins)) b f refl

      own : opens ≡ true → (b : ℕ) → bank_of e.pins ≡ b → (k : ℕ) → eqb k b ≡ true → (next.banks k).row ≡ address_of e.pins
      own f b g k h = row_by true true k f (ap (eqb k) g ∙ h)

      other : opens ≡ true → (b : ℕ) → bank_of e.pins ≡ b → (k : ℕ) → eqb k b ≡ false → (next.banks k).row ≡ (p.banks k).row
      other f b g k h = row_by true false k f (ap (eqb k) g ∙ h)

      opened : opens ≡ true → (b : ℕ) → bank_of e.pins ≡ b → b < 4 → set (firsts_of s p) b (first_in_row s b (address_of e.pins)) ≡ firsts_of s next
      opened f zero g l = sym (λ i. first_cells s (own f 0 g 0 refl i) (other f 0 g 1 refl i) (other f 0 g 2 refl i) (other f 0 g 3 refl i))
      opened f (suc zero) g l = sym (λ i. first_cells s (other f 1 g 0 refl i) (own f 1 g 1 refl i) (other f 1 g 2 refl i) (other f 1 g 3 refl i))
      opened f (suc (suc zero)) g l = sym (λ i. first_cells s (other f 2 g 0 refl i) (other f 2 g 1 refl i) (own f 2 g 2 refl i) (other f 2 g 3 refl i))
      opened f (suc (suc (suc zero))) g l = sym (λ i. first_cells s (other f 3 g 0 refl i) (other f 3 g 1 refl i) (other f 3 g 2 refl i) (own f 3 g 3 refl i))
      opened f (suc (suc (suc (suc b)))) g l = absurd (omega arith)

      go : (v : Bool) → opens ≡ v → cond v (set (firsts_of s p) (bank_of e.pins) (first_in_row s (bank_of e.pins) (address_of e.pins))) (firsts_of s p) ≡ firsts_of s next
      go true f = opened f (bank_of e.pins) refl (omega arith)
      go false f = sym (λ i. first_cells s (stays f 0 i) (stays f 1 i) (stays f 2 i) (stays f 3 i))

  -- a row is what fourteen pins can say
  pub low-after : ((b : ℕ) → (p.banks b).row < 16384) → (b : ℕ) → (next.banks b).row < 16384
  low-after low b = rw (row_is s p e b) (go (opens && eqb b (bank_of e.pins)))
    where
      go : (v : Bool) → cond v (address_of e.pins) (p.banks b).row < 16384
      go true = omega arith
      go false = low b

-- before event i, and behind it
module _ (s : Settings) (bytes : List ℕ) where
  module _ (i : ℕ) {pins : ℕ} (ew : pins ≡ (event_at bytes i).pins) where
    pub mode-next : {mode next : ℕ} → mode ≡ mode_at s bytes i → next ≡ mode_after mode pins → next ≡ mode_at s bytes (i + 1)
    mode-next em f =
        f ∙ rw (ew, em) (sym (mode-is s (part_at s bytes i) (event_at bytes i))) ∙ ap (λ (q : Part). q.mode) (sym (part-next s bytes i))

    pub rows_next : {firsts opened : List ℕ} → firsts ≡ firsts_at s bytes i → opened ≡ cells_opened s firsts pins →
        opened ≡ firsts_at s bytes (i + 1)
    rows_next er f =
        f ∙ rw (ew, er) (firsts_after s (part_at s bytes i) (event_at bytes i)) ∙ ap (firsts_of s) (sym (part-next s bytes i))

  low-at : (i b : ℕ) → ((part_at s bytes i).banks b).row < 16384
  low-at zero b = omega arith
  low-at (suc i) b =
      subst (λ (q : Part). (q.banks b).row < 16384) (sym (part-next s bytes i) ∙ ap (part_at s bytes) (add-one i))
      (low-after s (part_at s bytes i) (event_at bytes i) (low-at i) b)

  pub row_at : Sized s → (i bank address : ℕ) → bank < 4 → {pairs : ℕ} → pairs ≤ 64 →
      InRow (first_in_row s bank ((part_at s bytes i).banks bank).row) (column_of s address) pairs
  row_at z i bank address b l =
      record { cell = first-lt s z bank ((part_at s bytes i).banks bank).row b (low-at i bank); low = column-lt s address; short = l }
