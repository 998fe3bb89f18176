-- The search behind an event, a turn at a time, and what is left of a burst by what is found.
use Prim.Native.Nat.{ℕ, suc, ◌+◌, ◌-◌, ◌≤◌, ◌<◌}
use mathlib.Core.Bool.{Bool, true, false, cond, ◌||◌}
use mathlib.Core.List.{List, [], ◌∷◌}
use mathlib.Core.Option.{Option, none, some}
use mathlib.Core.Path.{◌≡◌, refl, sym, ap, subst, ◌∙◌}
use native.Mathlib.Nat.{le_refl}
use native.Mathlib.Omega.{arith}
use borrow.Author.Tests.{le-leb, lt-leb, leb-true, leb-false, lt-ltb, le-ltb, ltb-true, ltb-false}
use lib.Dec.{leb, ltb, eqb}
use Rattle.std.specs.Prelude as std
use Rattle.reading.specs.Search.{lesser}
use Rattle.reading.specs.Mode.{h}
use Rattle.reading.specs.Settings.{Settings}
use Rattle.reading.specs.Capture.{Event, event_at}
use Rattle.capture.specs.declared.held.Events.{Events}
use Rattle.capture.proofs.Rising.{Rises}
use Rattle.pins.specs.Pins.{code_of, bank_of, gives}
use Rattle.beats.specs.Kept.{at, behind, events_from, shuts_bank, takes_bank, cuts_burst, kept_ahead, cut_ahead, left_by_burst, next_leaves, row_leaves}
use Rattle.beats.specs.Ahead.{found, first_ahead, ends_row}
use Rattle.beats.proofs.Cut.{cut-once}
use Rattle.beats.proofs.Events.{next-event, no-event, rise-behind}

-- ---- a turn: what is found from event j on is what is found at all

module _ (f : ℕ → Bool) (end : ℕ) (bytes : List ℕ) (n i : ℕ) where
  abbrev sought : Option Event
  sought = first_ahead end f (events_from bytes n (i + 1))

  pub record Sought (j : ℕ) : Type 0 where
    pub within : j ≤ n
    pub same : sought ≡ first_ahead end f (events_from bytes n j)

  pub begins : i < n → Sought (i + 1)
  begins l = record { within = omega arith; same = refl }

  module _ {j t : ℕ} (z : Sought j) (l : j < n) (et : t ≡ (event_at bytes j).cycle) where
    pub stops : true ≡ leb end t → none ≡ sought
    unfolding first_ahead
    stops m = sym (z.same ∙ rw (next-event bytes n j l, le-ltb (event_at bytes j).cycle end (omega (arith, et, leb-true end t (sym m)))))

    module _ {w : ℕ} (ew : w ≡ (event_at bytes j).pins) (m : false ≡ leb end t) where
      soon : ltb (event_at bytes j).cycle end ≡ true
      soon = lt-ltb (event_at bytes j).cycle end (omega (arith, et, leb-false end t (sym m)))

      pub takes : f w ≡ true → some (record { cycle = t; pins = w }) ≡ sought
      unfolding first_ahead
      takes q =
          (λ u. some (record { cycle = et u; pins = ew u }))
          ∙ sym (z.same ∙ rw (next-event bytes n j l, soon, ap f (sym ew) ∙ q))

      pub goes_on : f w ≡ false → Sought (j + 1)
      unfolding first_ahead
      goes_on q = record { within = omega arith; same = z.same ∙ rw (next-event bytes n j l, soon, ap f (sym ew) ∙ q) }

  pub ends : {j : ℕ} → Sought j → n ≤ j → none ≡ sought
  unfolding first_ahead
  ends {j} z l = sym (z.same ∙ rw (no-event bytes n j l))

-- where cycles rise, what is found comes no sooner
abbrev pub Behind : ℕ → Option Event → Type 0
Behind from none = Unit {0}
Behind from (some e) = from ≤ e.cycle

pub comes-behind : (f : ℕ → Bool) (end from : ℕ) (es : List Event) → Rises from es → Behind from (first_ahead end f es)
unfolding first_ahead
comes-behind f end from [] r = tt
comes-behind f end from (e ∷ es) r = go (ltb e.cycle end) (f e.pins) (first_ahead end f es) (comes-behind f end (suc e.cycle) es r.1)
  where
    sooner : (o : Option Event) → Behind (suc e.cycle) o → Behind from o
    sooner none b = tt
    sooner (some x) b = omega (arith, b, r.0)

    go : (v u : Bool) (o : Option Event) → Behind (suc e.cycle) o → Behind from (cond v (cond u (some e) o) none)
    go false u o b = tt
    go true true o b = r.0
    go true false o b = sooner o b

-- ---- far enough behind nothing is taken

module _ (s : Settings) (k pairs : ℕ) where
  far : (t from : ℕ) → from + pairs ≤ t → lesser pairs (t - from) ≡ pairs
  far t from l = rw (le-leb pairs (t - from) (omega arith))

  next_past : (es : List Event) (from : ℕ) → k + 1 + pairs + s.t_wtr ≤ from → Rises from es → next_leaves s k pairs es ≡ pairs
  unfolding next_leaves
  next_past [] from l r = refl
  next_past (e ∷ es) from l r = go (gives e.pins) (eqb (code_of e.pins) 10) (next_past es (suc e.cycle) (omega (arith, r.0)) r.1)
    where
      go : (v u : Bool) → next_leaves s k pairs es ≡ pairs →
          cond v (lesser pairs (e.cycle - cond u (k + 1 + s.t_wtr) k)) (next_leaves s k pairs es) ≡ pairs
      go true true ih = far e.cycle (k + 1 + s.t_wtr) (omega (arith, r.0))
      go true false ih = far e.cycle k (omega (arith, r.0))
      go false u ih = ih

  row-past : (bank : ℕ) (es : List Event) (from : ℕ) → k + 1 + pairs + s.t_wr ≤ from → Rises from es → row_leaves s bank k pairs es ≡ pairs
  unfolding row_leaves
  row-past bank [] from l r = refl
  row-past bank (e ∷ es) from l r =
      go (shuts_bank bank e.pins) (takes_bank bank e.pins) (row-past bank es (suc e.cycle) (omega (arith, r.0)) r.1)
    where
      go : (v u : Bool) → row_leaves s bank k pairs es ≡ pairs →
          cond v (lesser pairs (e.cycle - (k + 1 + s.t_wr))) (cond u pairs (row_leaves s bank k pairs es)) ≡ pairs
      go true u ih = far e.cycle (k + 1 + s.t_wr) (omega (arith, r.0))
      go false true ih = refl
      go false false ih = ih

-- ---- what is left, by what is found

-- of a burst that was given at k and can be cut
abbrev pub left_of_half : ℕ → ℕ → Option Event → ℕ
left_of_half k half none = half
left_of_half k half (some e) = e.cycle - k

pub looked : (b k half from : ℕ) (es : List Event) → k ≤ from → Rises from es →
    left_of_half k half (first_ahead (k + half) (cuts_burst b) es) ≡ kept_ahead b k (k + half) half es
unfolding first_ahead kept_ahead
looked b k half from [] l r = refl
looked b k half from (e ∷ es) l r =
    go (ltb e.cycle (k + half)) (cuts_burst b e.pins) refl (looked b k half (suc e.cycle) es (omega (arith, r.0)) r.1)
  where
    go : (v u : Bool) → ltb e.cycle (k + half) ≡ v →
        left_of_half k half (first_ahead (k + half) (cuts_burst b) es) ≡ kept_ahead b k (k + half) half es →
        left_of_half k half (cond v (cond u (some e) (first_ahead (k + half) (cuts_burst b) es)) none) ≡
        cond v (kept_ahead b k (k + half) (cond u (lesser half (e.cycle - k)) half) es) half
    go false u m ih = refl
    go true false m ih = ih
    go true true m ih =
        sym
        (rw (lt-leb half (e.cycle - k) (omega (arith, ltb-true e.cycle (k + half) m, r.0)))
        (cut-once b k (k + half) (e.cycle - k) (suc e.cycle) es (omega (arith, r.0)) r.1))

-- of a write that can be interrupted
module _ (s : Settings) (k pairs : ℕ) where
  abbrev pub left_of_next : Option Event → ℕ
  left_of_next none = pairs
  left_of_next (some e) = left_by_burst s k pairs e

  abbrev pub left_of_row : ℕ → Option Event → ℕ
  left_of_row bank none = pairs
  left_of_row bank (some e) = cond (shuts_bank bank e.pins) (lesser pairs (e.cycle - (k + 1 + s.t_wr))) pairs

  pub next-found : (end from : ℕ) (es : List Event) → end ≡ k + 1 + pairs + s.t_wtr → Rises from es →
      left_of_next (first_ahead end gives es) ≡ next_leaves s k pairs es
  unfolding first_ahead next_leaves
  next-found end from [] q r = refl
  next-found end from (e ∷ es) q r = go (ltb e.cycle end) refl (next-found end (suc e.cycle) es q r.1)
    where
      pick : (u : Bool) → left_of_next (first_ahead end gives es) ≡ next_leaves s k pairs es →
          left_of_next (cond u (some e) (first_ahead end gives es)) ≡ cond u (left_by_burst s k pairs e) (next_leaves s k pairs es)
      pick true ih = refl
      pick false ih = ih

      go : (v : Bool) → ltb e.cycle end ≡ v → left_of_next (first_ahead end gives es) ≡ next_leaves s k pairs es →
          left_of_next (cond v (cond (gives e.pins) (some e) (first_ahead end gives es)) none) ≡ next_leaves s k pairs (e ∷ es)
      go true m ih = pick (gives e.pins) ih
      go false m ih = sym (next_past s k pairs (e ∷ es) e.cycle (omega (arith, q, ltb-false e.cycle end m)) (le_refl e.cycle, r.1))

  pub row-found : (bank end from : ℕ) (es : List Event) → end ≡ k + 1 + pairs + s.t_wr → Rises from es →
      left_of_row bank (first_ahead end (ends_row bank) es) ≡ row_leaves s bank k pairs es
  unfolding first_ahead row_leaves
  row-found bank end from [] q r = refl
  row-found bank end from (e ∷ es) q r = go (ltb e.cycle end) refl (row-found bank end (suc e.cycle) es q r.1)
    where
      pick : (v u : Bool) → shuts_bank bank e.pins ≡ v →
          left_of_row bank (first_ahead end (ends_row bank) es) ≡ row_leaves s bank k pairs es →
          left_of_row bank (cond (v || u) (some e) (first_ahead end (ends_row bank) es)) ≡
          cond v (lesser pairs (e.cycle - (k + 1 + s.t_wr))) (cond u pairs (row_leaves s bank k pairs es))
      pick true u p ih = rw p refl
      pick false true p ih = rw p refl
      pick false false p ih = ih

      go : (v : Bool) → ltb e.cycle end ≡ v →
          left_of_row bank (first_ahead end (ends_row bank) es) ≡ row_leaves s bank k pairs es →
          left_of_row bank (cond v (cond (ends_row bank e.pins) (some e) (first_ahead end (ends_row bank) es)) none) ≡
          row_leaves s bank k pairs (e ∷ es)
      go true m ih = pick (shuts_bank bank e.pins) (takes_bank bank e.pins) refl ih
      go false m ih = sym (row-past s k pairs bank (e ∷ es) e.cycle (omega (arith, q, ltb-false e.cycle end m)) (le_refl e.cycle, r.1))

-- ---- the same, by what the calls say: of the search that was lent a test, and of the burst that it began behind

module _ (x : Events) (i : ℕ) (l : i < x.count) where
  rises : Rises (suc (at x i).cycle) (behind x i)
  rises = rise-behind x.bytes.now x.count x.rise i l

  pub found-behind : (f : ℕ → Bool) (end : ℕ) {o r : std.Option (ℕ × ℕ)} → found o ≡ first_ahead end f (behind x i) → o ≡ r →
      Behind (suc (at x i).cycle) (found r)
  found-behind f end e q =
      subst (Behind (suc (at x i).cycle)) (sym e ∙ ap found q) (comes-behind f end (suc (at x i).cycle) (behind x i) rises)

module _ (x : Events) (i : ℕ) (l : i < x.count) {k : ℕ} (ek : k ≡ (at x i).cycle) {end : ℕ} {o : std.Option (ℕ × ℕ)} where
  pub half-is : (mode : ℕ) {b half : ℕ} → b ≡ (at x i).pins → half ≡ h mode → end ≡ k + half →
      found o ≡ first_ahead end (cuts_burst b) (behind x i) → {r : std.Option (ℕ × ℕ)} → o ≡ r →
      left_of_half k half (found r) ≡ cut_ahead mode (at x i) (behind x i)
  half-is mode {b} {half} eb eh ee e q =
      ap (λ (v : std.Option (ℕ × ℕ)). left_of_half k half (found v)) (sym q)
      ∙ ap (left_of_half k half) e
      ∙ ap (λ (n : ℕ). left_of_half k half (first_ahead n (cuts_burst b) (behind x i))) ee
      ∙ looked b k half (suc (at x i).cycle) (behind x i) (omega (arith, ek)) (rises x i l)
      ∙ (λ u. kept_ahead (eb u) (ek u) (ek u + eh u) (eh u) (behind x i))

  module _ (s : Settings) (pairs : ℕ) where
    pub next-is : end ≡ k + 1 + pairs + s.t_wtr → found o ≡ first_ahead end gives (behind x i) → {r : std.Option (ℕ × ℕ)} → o ≡ r →
        left_of_next s k pairs (found r) ≡ next_leaves s (at x i).cycle pairs (behind x i)
    next-is ee e q =
        ap (λ (v : std.Option (ℕ × ℕ)). left_of_next s k pairs (found v)) (sym q)
        ∙ ap (left_of_next s k pairs) e
        ∙ next-found s k pairs end (suc (at x i).cycle) (behind x i) ee (rises x i l)
        ∙ ap (λ (n : ℕ). next_leaves s n pairs (behind x i)) ek

    pub row-is : {bank : ℕ} → bank ≡ bank_of (at x i).pins → end ≡ k + 1 + pairs + s.t_wr →
        found o ≡ first_ahead end (ends_row bank) (behind x i) → {r : std.Option (ℕ × ℕ)} → o ≡ r →
        left_of_row s k pairs bank (found r) ≡ row_leaves s (bank_of (at x i).pins) (at x i).cycle pairs (behind x i)
    row-is {bank} eb ee e q =
        ap (λ (v : std.Option (ℕ × ℕ)). left_of_row s k pairs bank (found v)) (sym q)
        ∙ ap (left_of_row s k pairs bank) e
        ∙ row-found s k pairs bank end (suc (at x i).cycle) (behind x i) ee (rises x i l)
        ∙ (λ u. row_leaves s (eb u) (ek u) pairs (behind x i))
