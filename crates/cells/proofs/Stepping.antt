-- One event's step: what the code found makes what an event gives, and what was given tells of the event.
use Prim.Native.Nat.{ℕ, ◌+◌, ◌≤◌, ◌<◌}
use mathlib.Core.Bool.{Bool, true, false, cond}
use mathlib.Core.List.{List}
use mathlib.Core.Option.{none, some}
use mathlib.Core.Path.{◌≡◌, refl, sym, ap, ◌∙◌}
use native.Mathlib.Omega.{arith}
use lib.Dec.{eqb}
use lib.ListN.{get_or}
use Rattle.std.specs.Prelude as std
use Rattle.std.specs.Prelude.{Some, None}
use Rattle.reading.specs.Settings.{Settings}
use Rattle.reading.specs.Capture.{Event, event_at}
use Rattle.reading.specs.Bursts.{column_of}
use Rattle.pins.specs.Pins.{code_of, bank_of, address_of, gives}
use Rattle.judge.specs.Meaning.{part_at}
use Rattle.beats.specs.declared.Burst.{Burst}
use Rattle.beats.specs.Kept.{events_from, kept_of}
use Rattle.beats.specs.Rows.{Sized, InRow, first_in_row}
use Rattle.cells.specs.Meaning as meaning
use Rattle.cells.specs.Meaning.{given_means, told_by, given_by, At}
use Rattle.cells.specs.Telling.{judged_by, given, Before}
use Rattle.cells.specs.declared.held.Clean.{Clean}
use Rattle.cells.proofs.Rows.{first-at, row_at}
use Rattle.cells.proofs.Walked.{given_is}

module _ (s : Settings) (bytes : List ℕ) (n i : ℕ) (firsts : List ℕ) (mode : ℕ) where
  abbrev w : ℕ
  w = (event_at bytes i).pins

  abbrev later : List Event
  later = events_from bytes n (i + 1)

  -- the burst that event i gives, if it gives one
  abbrev there : meaning.Burst
  there = told_by s bytes n i firsts mode

  pub record Is (x : Burst) : Type 0 where
    pub burst : gives w ≡ true
    pub row : x.first ≡ get_or firsts (bank_of w) 0
    pub moded : x.mode ≡ mode
    pub place : x.column ≡ column_of s (address_of w)
    pub kept : x.pairs ≡ kept_of s mode (event_at bytes i) later

  module _ {pins : ℕ} (e : pins ≡ w) where
    -- the row, by the first cells of then
    pub in_row : Sized s → At s bytes i firsts mode → {bank first column pairs : ℕ} → bank ≡ bank_of pins → first ≡ get_or firsts bank 0 →
        column ≡ column_of s (address_of pins) → pairs ≤ 64 → InRow first column pairs
    in_row z a {bank} {first} {column} eb ef ec l = rw (first-is, ec) (row_at s bytes z i bank (address_of pins) (omega (arith, eb)) l)
      where
        first-is : first ≡ first_in_row s bank ((part_at s bytes i).banks bank).row
        first-is = ef ∙ ap (λ (xs : List ℕ). get_or xs bank 0) a.rowed ∙ first-at s (part_at s bytes i) bank (omega (arith, eb))

    module _ {v : Bool} (f : v ≡ gives pins) where
      pub found_none : v ≡ false → none ≡ given_by s bytes n i firsts mode
      unfolding given_by
      found_none g = let h : gives w ≡ false = sym (f ∙ ap gives e) ∙ g in rw h

      pub found : {code bank first column pairs : ℕ} → v ≡ true → code ≡ code_of pins → bank ≡ bank_of pins → first ≡ get_or firsts bank 0 →
          column ≡ column_of s (address_of pins) → pairs ≡ kept_of s mode (event_at bytes i) later →
          some (record { writes = eqb code 2; first = first; mode = mode; column = column; pairs = pairs }) ≡ given_by s bytes n i firsts mode
      unfolding given_by
      found g c b x y z =
          let h : gives w ≡ true = sym (f ∙ ap gives e) ∙ g in
          let kind = ap (λ (k : ℕ). eqb k 2) (c ∙ ap code_of e) in
          let row = x ∙ ap (λ (k : ℕ). get_or firsts k 0) (b ∙ ap bank_of e) in
          let place = y ∙ ap (λ (k : ℕ). column_of s (address_of k)) e in
          rw h (λ u. some (record { writes = kind u; first = row u; mode = mode; column = place u; pairs = z u }))

  module _ {r : std.Option Burst} (step : given_means r ≡ given_by s bytes n i firsts mode) where
    pub told : {x : Burst} → r ≡ Some x → Is x
    unfolding given_by
    told {x} b = go (gives w) refl (sym (ap given_means b) ∙ step)
      where
        is : meaning.Burst
        is = record { writes = x.writes; first = x.first; mode = x.mode; column = x.column; pairs = x.pairs }

        go : (v : Bool) → gives w ≡ v → some is ≡ cond v (some there) none → Is x
        go true g q =
            let same : is ≡ there = cc in
            record {
              burst = g;
              row = ap (λ (y : meaning.Burst). y.first) same;
              moded = ap (λ (y : meaning.Burst). y.mode) same;
              place = ap (λ (y : meaning.Burst). y.column) same;
              kept = ap (λ (y : meaning.Burst). y.pairs) same;
            }
        go false g q = let z : ◌≡◌ {A = ℕ} 0 1 = cc in absurd (omega arith)

    pub told-other : r ≡ None → gives w ≡ false
    unfolding given_by
    told-other b = go (gives w) (sym (ap given_means b) ∙ step)
      where
        go : (v : Bool) → none ≡ cond v (some there) none → v ≡ false
        go true q = let z : ◌≡◌ {A = ℕ} 0 1 = cc in absurd (omega arith)
        go false q = refl

-- by what `step` says of an event of a clean capture, where first cells and mode word are those before it
module _ (x : Clean) {i : ℕ} (l : i < x.opened.events.count) {firsts : List ℕ} {mode : ℕ} (a : Before x i firsts mode) where
  by-given : (r : std.Option Burst) → given_means r ≡ given x i →
      given_means r ≡ given_by (judged_by x) x.opened.events.bytes.now x.opened.events.count i firsts mode
  by-given r step =
      step ∙ sym (given_is x.opened.settings x.opened.events.bytes.now x.opened.events.count x.listable x.clean i l a)

  pub step-told : {r : std.Option Burst} → given_means r ≡ given x i → {y : Burst} → r ≡ Some y →
      Is (judged_by x) x.opened.events.bytes.now x.opened.events.count i firsts mode y
  step-told {r} step e =
      told (judged_by x) x.opened.events.bytes.now x.opened.events.count i firsts mode (by-given r step) e

  pub step-none : {r : std.Option Burst} → given_means r ≡ given x i → r ≡ None → gives (event_at x.opened.events.bytes.now i).pins ≡ false
  step-none {r} step e =
      told-other (judged_by x) x.opened.events.bytes.now x.opened.events.count i firsts mode (by-given r step) e
