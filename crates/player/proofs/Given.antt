-- The burst that an event of a clean capture gives, as it is told.
use Prim.Native.Nat.{ℕ, zero, suc, ◌+◌, ◌*◌, ◌<◌}
use mathlib.Core.Bool.{Bool, cond}
use mathlib.Core.List.{List, ◌∷◌, ◌++◌, map}
use mathlib.Core.Option
use mathlib.Core.Option.{Option, none, some}
use mathlib.Core.Path.{◌≡◌, refl, sym, ap, ◌∙◌}
use native.Mathlib.Nat.{add-zero, zero-add}
use native.Mathlib.Omega.{arith}
use borrow.Author.Tests.{eq-eqb, ne_eqb}
use Rattle.reading.specs.Search.{count}
use Rattle.reading.specs.Settings.{Settings, settings_of}
use Rattle.reading.specs.Capture.{Event, event_at}
use Rattle.reading.specs.Bursts.{Burst, beat_cell, burst_cells}
use Rattle.reading.specs.Player.{event_of_burst}
use Rattle.capture.proofs.Accepted.{cycles-rise}
use Rattle.judge.specs.Meaning.{events_in}
use Rattle.beats.specs.Rows.{first_in_row}
use Rattle.std.specs.Prelude as std
use Rattle.std.specs.Prelude.{Some, None}
use Rattle.beats.specs.declared.Burst as held
use Rattle.cells.specs.Meaning as meaning
use Rattle.cells.specs.Meaning.{given_means, given_at, told_of, burst_at, At, Listable, Clean}
use Rattle.cells.proofs.Walked.{listed, rest, burst-next, Placed, placed, stays}
use Rattle.player.specs.Playing.{cell_in, cell_of, cells_of}

-- ---- the number of an event

module _ (e : ℕ → Event) (x : Burst) where
  numbered : (d j m : ℕ) → d < m → x.k ≡ (e (j + d)).cycle → ((c : ℕ) → c < d → (e (j + c)).cycle < x.k) → event_of_burst (map e (count j m)) x ≡ d
  unfolding event_of_burst
  numbered d j zero l f g = absurd (omega (arith, l))
  numbered zero j (suc m) l f g =
      ap (λ (v : Bool). cond v 0 (suc (event_of_burst (map e (count (suc j) m)) x)))
      (eq-eqb (e j).cycle x.k (ap (λ (k : ℕ). (e k).cycle) (sym (add-zero j)) ∙ sym f))
  numbered (suc d) j (suc m) l f g =
      ap (λ (v : Bool). cond v 0 (suc (event_of_burst (map e (count (suc j) m)) x)))
      (ne_eqb (e j).cycle x.k (λ q. omega (arith, q, ap (λ (k : ℕ). (e k).cycle) (add-zero j), g 0 (omega arith))))
      ∙ ap suc
      (numbered d (suc j) m (omega (arith, l)) (f ∙ ap (λ (k : ℕ). (e k).cycle) (omega arith))
      (λ c q. omega (arith, g (suc c) (omega (arith, q)), ap (λ (k : ℕ). (e k).cycle) (along c))))
    where
      along : (c : ℕ) → j + suc c ≡ suc j + c
      along c = omega arith

module _ (settings bytes : List ℕ) (n i : ℕ) where
  abbrev s : Settings
  s = settings_of settings

  -- what is told is told of this burst
  pub record Found (y : held.Burst) : Type 0 where
    pub burst : Burst
    pub at : burst_at s bytes n i ≡ some burst
    pub kind : y.writes ≡ burst.writes
    pub row_is : y.first ≡ first_in_row s burst.bank burst.row
    pub moded : y.mode ≡ burst.mode
    pub column-is : y.column ≡ burst.column
    pub pairs_is : y.pairs ≡ burst.n

  module _ {r : std.Option held.Burst} (told : given_means r ≡ given_at s bytes n i) where
    pub found : {y : held.Burst} → r ≡ Some y → Found y
    found {y} f = go (burst_at s bytes n i) refl (sym (ap given_means f) ∙ told)
      where
        is : meaning.Burst
        is = record { writes = y.writes; first = y.first; mode = y.mode; column = y.column; pairs = y.pairs }

        go : (o : Option Burst) → burst_at s bytes n i ≡ o → some is ≡ Option.map (told_of s) o → Found y
        go none h q = let zero_one : ◌≡◌ {A = ℕ} 0 1 = cc in absurd (omega arith)
        go (some x) h q =
            let same : is ≡ told_of s x = cc in
            record {
              burst = x;
              at = h;
              kind = ap (λ (b : meaning.Burst). b.writes) same;
              row_is = ap (λ (b : meaning.Burst). b.first) same;
              moded = ap (λ (b : meaning.Burst). b.mode) same;
              column-is = ap (λ (b : meaning.Burst). b.column) same;
              pairs_is = ap (λ (b : meaning.Burst). b.pairs) same;
            }

    pub found_none : r ≡ None → burst_at s bytes n i ≡ none
    found_none f = go (burst_at s bytes n i) refl (sym (ap given_means f) ∙ told)
      where
        go : (o : Option Burst) → burst_at s bytes n i ≡ o → none ≡ Option.map (told_of s) o → burst_at s bytes n i ≡ none
        go none h q = h
        go (some x) h q = let zero_one : ◌≡◌ {A = ℕ} 0 1 = cc in absurd (omega arith)

  module _ (z : Listable settings bytes n) (k : Clean s bytes n) (l : i < n) where
    -- the bursts from here on
    pub next-none : burst_at s bytes n i ≡ none → rest settings bytes n i ≡ rest settings bytes n (i + 1)
    next-none e = burst-next settings bytes n z k i l ∙ ap (λ (o : Option Burst). listed o ++ rest settings bytes n (i + 1)) e

    module _ {y : held.Burst} (f : Found y) where
      abbrev x : Burst
      x = f.burst

      pub there : Placed settings bytes n z k i l x
      there = placed settings bytes n z k i l f.at

      pub next-some : rest settings bytes n i ≡ x ∷ rest settings bytes n (i + 1)
      next-some = burst-next settings bytes n z k i l ∙ ap (λ (o : Option Burst). listed o ++ rest settings bytes n (i + 1)) f.at

      pub event-is : event_of_burst (events_in bytes n) x ≡ i
      event-is =
          numbered (event_at bytes) x i 0 n l (there.given ∙ ap (λ (j : ℕ). (event_at bytes j).cycle) (sym (zero-add i)))
          (λ c q.
          omega (
            arith,
            there.given,
            ap (λ (j : ℕ). (event_at bytes j).cycle) (zero-add c),
            cycles-rise bytes n z.fit.events c i q l,
          ))

      -- the cells of its beats
      pub cells_are : cell_of y ≡ beat_cell s x
      unfolding beat_cell
      cells_are = λ u. cell_in (f.row_is u) (f.moded u) (f.column-is u)

      -- those of its kept beats
      pub kept-are : cells_of y ≡ burst_cells s x
      unfolding burst_cells
      kept-are = λ u. map (cells_are u) (count 0 (2 * f.pairs_is u))

      pub next-at : {mode : ℕ} {firsts : List ℕ} → At s bytes i firsts mode → At s bytes (i + 1) firsts mode
      next-at a = stays settings bytes n z k i l f.at a
