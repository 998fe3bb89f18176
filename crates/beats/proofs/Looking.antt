-- A turn of the look ahead: as long as nothing cut the burst, the events from j on decide what it keeps.
use Prim.Native.Nat.{ℕ, ◌+◌, ◌-◌, ◌≤◌, min}
use mathlib.Core.Bool.{Bool, true, false, cond, not, ◌&&◌, ◌||◌}
use mathlib.Core.List.{List, [], ◌∷◌}
use mathlib.Core.Path.{◌≡◌, refl, sym, ap, ◌∙◌}
use native.Mathlib.Omega.{arith}
use native.Mathlib.Nat.{min-eq_left, min-le_right, le-min}
use borrow.Author.Tests.{leb-true, leb-false}
use lib.Dec.{leb, ltb, eqb}
use Rattle.reading.specs.Search.{lesser}
use Rattle.reading.specs.Mode.{h}
use Rattle.reading.specs.Settings.{Settings, newer}
use Rattle.reading.specs.Capture.{Event}
use Rattle.reading.proofs.Laws.{lesser-first}
use Rattle.pins.specs.Pins.{code_of, bank_of, ten_of, gives}
use Rattle.beats.specs.Kept.{cuts_burst, kept_by, kept_ahead, cut_ahead, left_by_burst, next_leaves, row_leaves, interrupted_ahead, interruptible, kept_whole, kept_of}
use Rattle.beats.proofs.Columns.{half_le}

-- the lesser of two, as the library says it
pub lesser_is : (a b : ℕ) → min a b ≡ lesser a b
lesser_is a b = go (leb a b) refl
  where
    go : (v : Bool) → leb a b ≡ v → min a b ≡ cond v a b
    go true e = min-eq_left (leb-true a b e)
    go false e = let k : b ≤ min a b = le-min (omega (arith, leb-false a b e)) (omega arith) in omega (arith, k, min-le_right a b)

-- no more are kept than there were
by_le : (b k pairs : ℕ) (e : Event) → kept_by b k pairs e ≤ pairs
by_le b k pairs e = go (cuts_burst b e.pins)
  where
    go : (v : Bool) → cond v (lesser pairs (e.cycle - k)) pairs ≤ pairs
    go true = lesser-first pairs (e.cycle - k)
    go false = omega arith

ahead-le : (b k end pairs : ℕ) (es : List Event) → kept_ahead b k end pairs es ≤ pairs
unfolding kept_ahead
ahead-le b k end pairs [] = omega arith
ahead-le b k end pairs (e ∷ es) = go (ltb e.cycle end) (ahead-le b k end (kept_by b k pairs e) es)
  where
    go : (v : Bool) → kept_ahead b k end (kept_by b k pairs e) es ≤ kept_by b k pairs e → cond v (kept_ahead b k end (kept_by b k pairs e) es) pairs ≤ pairs
    go true ih = omega (arith, ih, by_le b k pairs e)
    go false ih = omega arith

next_le : (s : Settings) (k pairs : ℕ) (es : List Event) → next_leaves s k pairs es ≤ pairs
unfolding next_leaves
next_le s k pairs [] = omega arith
next_le s k pairs (e ∷ es) = go (gives e.pins) (next_le s k pairs es)
  where
    go : (v : Bool) → next_leaves s k pairs es ≤ pairs → cond v (left_by_burst s k pairs e) (next_leaves s k pairs es) ≤ pairs
    go true ih = lesser-first pairs (e.cycle - cond (eqb (code_of e.pins) 10) (k + 1 + s.t_wtr) k)
    go false ih = ih

-- a write that is interrupted and keeps a pair: where one is all that it has, or all that is left already, no more is lost
module _ (s : Settings) (mode : ℕ) (e : Event) (es : List Event) (some : 1 ≤ interrupted_ahead s mode e es) where
  next-most : interrupted_ahead s mode e es ≤ next_leaves s e.cycle (h mode) es
  next-most = lesser-first (next_leaves s e.cycle (h mode) es) (row_leaves s (bank_of e.pins) e.cycle (h mode) es)

  pub one-there : {half : ℕ} → half ≡ h mode → half ≡ 1 → half ≡ interrupted_ahead s mode e es
  one-there f o = omega (arith, some, next-most, next_le s e.cycle (h mode) es)

  pub one_left : {half next : ℕ} → half ≡ h mode → next ≡ next_leaves s e.cycle half es → next ≡ 1 → next ≡ interrupted_ahead s mode e es
  one_left f g o = let left = g ∙ ap (λ (m : ℕ). next_leaves s e.cycle m es) f in omega (arith, some, next-most, left)

-- what both searches leave
pub both_leave : (s : Settings) (mode : ℕ) (e : Event) (es : List Event) {half next row : ℕ} → half ≡ h mode → next ≡ next_leaves s e.cycle half es →
    row ≡ row_leaves s (bank_of e.pins) e.cycle half es → min next row ≡ interrupted_ahead s mode e es
both_leave s mode e es {half} {next} {row} f g i =
    lesser_is next row ∙ (λ u. lesser (g u) (i u)) ∙ ap (λ (m : ℕ). lesser (next_leaves s e.cycle m es) (row_leaves s (bank_of e.pins) e.cycle m es)) f

pub kept_half : (s : Settings) (mode : ℕ) (e : Event) (es : List Event) → kept_of s mode e es ≤ h mode
unfolding kept_of kept_whole
kept_half s mode e es = go (interruptible s e.pins) (gives e.pins) (ten_of e.pins)
  where
    go : (i v a : Bool) → cond i (interrupted_ahead s mode e es) (cond v (cond a (h mode) (cut_ahead mode e es)) 0) ≤ h mode
    go true v a =
        omega (
          arith,
          lesser-first (next_leaves s e.cycle (h mode) es) (row_leaves s (bank_of e.pins) e.cycle (h mode) es),
          next_le s e.cycle (h mode) es,
        )
    go false true true = omega arith
    go false true false = ahead-le e.pins e.cycle (e.cycle + h mode) (h mode) es
    go false false a = omega arith

pub kept-le : (s : Settings) (mode : ℕ) (e : Event) (es : List Event) → kept_of s mode e es ≤ 64
kept-le s mode e es = omega (arith, half_le mode, kept_half s mode e es)

-- the pairs of an event, by what was read of its pins
module _ (mode : ℕ) (e : Event) (es : List Event) {pins : ℕ} (p : pins ≡ e.pins) {given : Bool} (g : given ≡ gives pins) where
  pub kept-none : given ≡ false → 0 ≡ kept_whole mode e es
  unfolding kept_whole
  kept-none f = rw (← p, ← g, f)

  module _ (f : given ≡ true) {auto : Bool} (a : auto ≡ ten_of pins) where
    pub kept-all : {half : ℕ} → auto ≡ true → half ≡ h mode → half ≡ kept_whole mode e es
    unfolding kept_whole
    kept-all t i = rw (← p, ← g, f, ← a, t) i

    pub kept-cut : {pairs : ℕ} → auto ≡ false → pairs ≡ cut_ahead mode e es → pairs ≡ kept_whole mode e es
    unfolding kept_whole
    kept-cut t i = i ∙ rw (ap gives (sym p) ∙ sym g ∙ f, ap ten_of (sym p) ∙ sym a ∙ t)

early-gives : (s : Settings) (w : ℕ) → interruptible s w ≡ true → gives w ≡ true
early-gives s w = go (newer s) (eqb (code_of w) 10) (eqb (code_of w) 2) (ten_of w)
  where
    go : (n u v a : Bool) → (n && (v && not a)) ≡ true → (u || v) ≡ true
    go n true v a e = refl
    go n false true a e = refl
    go true false false a e = e
    go false false false a e = e

-- and of any burst, by whether it can be interrupted
module _ (s : Settings) (mode : ℕ) (e : Event) (es : List Event) {pins : ℕ} (p : pins ≡ e.pins) {early : Bool} (q : early ≡ interruptible s pins) where
  pub kept-early : {pairs : ℕ} → early ≡ true → pairs ≡ interrupted_ahead s mode e es → pairs ≡ kept_of s mode e es
  unfolding kept_of
  kept-early k i = i ∙ rw (ap (interruptible s) (sym p) ∙ sym q ∙ k)

  pub early-keeps : early ≡ true → (gives e.pins ≡ true → 1 ≤ kept_of s mode e es) → 1 ≤ interrupted_ahead s mode e es
  early-keeps k f = rw (kept-early k refl) (f (early-gives s e.pins (ap (interruptible s) (sym p) ∙ sym q ∙ k)))

  pub kept-else : {pairs : ℕ} → early ≡ false → pairs ≡ kept_whole mode e es → pairs ≡ kept_of s mode e es
  unfolding kept_of
  kept-else k i = i ∙ rw (ap (interruptible s) (sym p) ∙ sym q ∙ k)

-- in the old edition none can
pub kept-old : (s : Settings) (mode : ℕ) (e : Event) (es : List Event) {pairs : ℕ} → newer s ≡ false → pairs ≡ kept_whole mode e es → pairs ≡ kept_of s mode e es
unfolding kept_of
kept-old s mode e es f i = i ∙ rw f

-- none where it gives none
pub kept-nothing : (s : Settings) (mode : ℕ) (e : Event) (es : List Event) → gives e.pins ≡ false → 0 ≡ kept_of s mode e es
unfolding kept_of kept_whole
kept-nothing s mode e es g = go (eqb (code_of e.pins) 10) (eqb (code_of e.pins) 2) (newer s) (ten_of e.pins) g
  where
    go : (u v n a : Bool) → (u || v) ≡ false →
        0 ≡ cond (n && (v && not a)) (interrupted_ahead s mode e es) (cond (u || v) (cond a (h mode) (cut_ahead mode e es)) 0)
    go true v n a k = absurd (let z : ◌≡◌ {A = ℕ} 0 1 = cc in omega arith)
    go false true n a k = absurd (let z : ◌≡◌ {A = ℕ} 0 1 = cc in omega arith)
    go false false true a k = refl
    go false false false a k = refl
