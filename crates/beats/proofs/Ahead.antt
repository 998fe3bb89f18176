-- The bursts of a capture and their cells, event by event: each burst as the events behind it leave it.
use Prim.Native.Nat.{ℕ, suc, ◌*◌}
use mathlib.Core.Bool.{Bool, true, false, cond, ◌&&◌, and-false}
use mathlib.Core.List.{List, [], ◌∷◌, ◌++◌, map, reverse, append-nil, append_assoc, map-id, reverse-cons}
use mathlib.Core.Path.{◌≡◌, refl, sym, ap, ◌∙◌}
use lib.Dec.{eqb}
use Rattle.reading.specs.Mode.{h}
use Rattle.reading.specs.Settings.{Settings, newer}
use Rattle.reading.specs.Capture.{Event}
use Rattle.reading.specs.Commands.{WRITE, is, command_of}
use Rattle.reading.specs.Bursts.{Burst, with_pairs, column_of, beat_cell, burst_cells}
use Rattle.reading.specs.Part.{Part, start, cut_by, burst_given, bursts_after, step, run}
use Rattle.reading.specs.Cells.{bursts_of, cells_of}
use Rattle.reading.proofs.Cuts.{All, nil, cons}
use Rattle.reading.proofs.Alone.{Stands, standing, standing-pairs, stands_after, cut_alone}
use Rattle.reading.proofs.Beats.{cells-append}
use Rattle.capture.proofs.Rising.{Rises}
use Rattle.pins.specs.Pins.{code_of, bank_of, address_of, ten_of, gives}
use Rattle.pins.proofs.Commands.{write-is, gives-is}
use Rattle.beats.specs.Kept.{cut_ahead, kept_whole, kept_of}
use Rattle.beats.specs.Rows.{first_in_row, beat_cells}
use Rattle.beats.proofs.Cut.{cut_by_all, cut-ahead, auto-kept}
use Rattle.beats.proofs.Interrupting.{interrupted-ahead}
use Rattle.beats.proofs.Looking.{kept-nothing}
use Rattle.beats.proofs.Storing.{no_cells}

-- the cells of the burst that an event gives; the events behind it are es
abbrev pub event_cells : Settings → Part → Event → List Event → List ℕ
event_cells s p e es =
    beat_cells (first_in_row s (bank_of e.pins) (p.banks (bank_of e.pins)).row) p.mode (column_of s (address_of e.pins))
    (2 * kept_of s p.mode e es)

-- those of all events behind the part's
abbrev pub cells_from : Settings → Part → List Event → List ℕ
cells_from s p [] = []
cells_from s p (e ∷ es) = event_cells s p e es ++ cells_from s (step s p e) es

-- what is known of an event behind the part's: it cuts what its command cuts by itself, by what still stands; what it does not
-- end goes on standing; and a write that can be interrupted stands from its own event on
pub record Told (s : Settings) (p : Part) (e : Event) : Type 0 where
  pub cut : map (cut_by s p e.cycle (command_of e.pins)) p.bursts ≡ map (λ x. cut_alone s (standing p x) e.cycle (command_of e.pins) x) p.bursts
  pub stands : All (λ x. standing (step s p e) x ≡ stands_after (command_of e.pins) x.bank (standing p x)) p.bursts
  pub given : eqb (code_of e.pins) 2 ≡ true → ten_of e.pins ≡ false →
      standing (step s p e) (burst_given s p e.cycle (command_of e.pins)) ≡ record { last = true; row = true }

abbrev pub Alone : Settings → Part → List Event → Type 0
Alone s p [] = Unit {0}
Alone s p (e ∷ es) = Told s p e × Alone s (step s p e) es

-- a burst as the events behind the part's leave it
abbrev pub left_of : Settings → Part → List Event → Burst → Burst
left_of s p es x = cut_by_all s es (standing p x) x

module _ (s : Settings) (p : Part) (e : Event) (es : List Event) (r : Rises (suc e.cycle) es) (g : gives e.pins ≡ true) (u : Told s p e) where
  abbrev given : Burst
  given = burst_given s p e.cycle (command_of e.pins)

  pub kept-in-the-end : left_of s (step s p e) es given ≡ with_pairs (kept_of s p.mode e es) given
  unfolding kept_of kept_whole
  kept-in-the-end = go (ten_of e.pins) refl (newer s) refl (eqb (code_of e.pins) 2) refl
    where
      stands : Stands
      stands = standing (step s p e) given

      -- one that READ and PRECHARGE do not interrupt
      calm : ten_of e.pins ≡ false → (newer s && is WRITE (command_of e.pins)) ≡ false → left_of s (step s p e) es given ≡ with_pairs (cut_ahead p.mode e es) given
      calm a q = cut-ahead s e.pins given (write-is e.pins) refl a q es stands (suc e.cycle) (h p.mode) r

      go : (v : Bool) → ten_of e.pins ≡ v → (n : Bool) → newer s ≡ n → (w : Bool) → eqb (code_of e.pins) 2 ≡ w →
          left_of s (step s p e) es given ≡ with_pairs (kept_of s p.mode e es) given
      go true a n i w q = auto-kept s es stands given a ∙ rw (g, a, and-false (eqb (code_of e.pins) 2), and-false (newer s))
      go false a true i true q =
          let both = u.given q a in
          interrupted-ahead s given i (write-is e.pins ∙ q) a es stands (suc e.cycle)
          (ap (λ (f : Stands). f.last) both) (ap (λ (f : Stands). f.row) both) refl r
          ∙ rw (a, i, q)
      go false a true i false q =
          calm a (ap (λ (z : Bool). newer s && z) (write-is e.pins ∙ q) ∙ and-false (newer s)) ∙ rw (g, a, q, and-false (newer s))
      go false a false i w q = calm a (rw i) ∙ rw (g, a, i)

-- the burst that a READ or WRITE gives, as the events behind it leave it
abbrev pub burst_left : Settings → Part → Event → List Event → Burst
burst_left s p e es = with_pairs (kept_of s p.mode e es) (burst_given s p e.cycle (command_of e.pins))

-- that of any event, and those of all events behind the part's
abbrev pub event_bursts : Settings → Part → Event → List Event → List Burst
event_bursts s p e es = cond (gives e.pins) (burst_left s p e es ∷ []) []

abbrev pub bursts_from : Settings → Part → List Event → List Burst
bursts_from s p [] = []
bursts_from s p (e ∷ es) = event_bursts s p e es ++ bursts_from s (step s p e) es

module _ (s : Settings) where
  module _ (p : Part) (e : Event) (es : List Event) where
    abbrev x : Burst
    x = burst_given s p e.cycle (command_of e.pins)

    abbrev rest : Burst → Burst
    rest = left_of s (step s p e) es

    one-event : Rises (suc e.cycle) es → Told s p e → (xs : List Burst) (v : Bool) → gives e.pins ≡ v →
        reverse (map rest (cond v (x ∷ xs) xs)) ≡ reverse (map rest xs) ++ cond v (burst_left s p e es ∷ []) []
    one-event r u xs true g = reverse-cons (rest x) (map rest xs) ∙ ap (λ (y : Burst). reverse (map rest xs) ++ (y ∷ [])) (kept-in-the-end s p e es r g u)
    one-event r u xs false g = sym (append-nil (reverse (map rest xs)))

  -- a burst that an event cuts, and those behind it
  stands_on : (p : Part) (e : Event) (es : List Event) {xs : List Burst} →
      All (λ x. standing (step s p e) x ≡ stands_after (command_of e.pins) x.bank (standing p x)) xs →
      map (left_of s (step s p e) es) (map (λ x. cut_alone s (standing p x) e.cycle (command_of e.pins) x) xs) ≡ map (left_of s p (e ∷ es)) xs
  stands_on p e es nil = refl
  stands_on p e es (cons {x = y} q qs) =
      let cut = cut_alone s (standing p y) e.cycle (command_of e.pins) y in
      λ i. cut_by_all s es ((standing-pairs (step s p e) cut.n y ∙ q) i) cut ∷ stands_on p e es qs i

  ahead : (p : Part) (from : ℕ) (es : List Event) → Rises from es → Alone s p es →
      reverse (run s p es).bursts ≡ reverse (map (left_of s p es) p.bursts) ++ bursts_from s p es
  ahead p from [] r u = rw (map-id p.bursts) (sym (append-nil (reverse p.bursts)))
  ahead p from (e ∷ es) r u =
      ahead (step s p e) (suc e.cycle) es r.1 u.1
      ∙ ap (λ (ys : List Burst). ys ++ bursts_from s (step s p e) es)
      (cut ∙ ap (λ (xs : List Burst). reverse xs ++ event_bursts s p e es) (stands_on p e es u.0.stands))
      ∙ append_assoc (reverse (map (left_of s p (e ∷ es)) p.bursts)) (event_bursts s p e es) (bursts_from s (step s p e) es)
    where
      f : Burst → Burst
      f y = cut_alone s (standing p y) e.cycle (command_of e.pins) y

      with-burst : Bool → List Burst → List Burst
      with-burst v xs = reverse (map (left_of s (step s p e) es) (cond v (x p e es ∷ xs) xs))

      cut : reverse (map (left_of s (step s p e) es) (bursts_after s p e.cycle (command_of e.pins))) ≡
          reverse (map (left_of s (step s p e) es) (map f p.bursts)) ++ event_bursts s p e es
      cut =
          ap (λ (v : Bool). with-burst v (map (cut_by s p e.cycle (command_of e.pins)) p.bursts)) (gives-is e.pins)
          ∙ ap (with-burst (gives e.pins)) u.0.cut
          ∙ one-event p e es r.1 u.0 (map f p.bursts) (gives e.pins) refl

  -- the bursts of a capture, event by event
  pub bursts-ahead : (es : List Event) → Rises 0 es → Alone s (start s) es → bursts_of s es ≡ bursts_from s (start s) es
  unfolding bursts_of
  bursts-ahead es r u = ahead (start s) 0 es r u

  -- ---- their cells

  -- a burst's are those of its row
  pub burst-cells : (x : Burst) → burst_cells s x ≡ beat_cells (first_in_row s x.bank x.row) x.mode x.column (2 * x.n)
  unfolding burst_cells beat_cell beat_cells
  burst-cells x = refl

  event-cells : (p : Part) (e : Event) (es : List Event) → cells_of s (event_bursts s p e es) ≡ event_cells s p e es
  unfolding cells_of
  event-cells p e es = go (gives e.pins) refl
    where
      go : (v : Bool) → gives e.pins ≡ v → cells_of s (cond v (burst_left s p e es ∷ []) []) ≡ event_cells s p e es
      go true g = append-nil (burst_cells s (burst_left s p e es)) ∙ burst-cells (burst_left s p e es)
      go false g =
          let row = first_in_row s (bank_of e.pins) (p.banks (bank_of e.pins)).row in
          let column = column_of s (address_of e.pins) in
          sym (ap (λ (n : ℕ). beat_cells row p.mode column (2 * n)) (sym (kept-nothing s p.mode e es g)) ∙ no_cells row p.mode column)

  cells-from : (p : Part) (es : List Event) → cells_of s (bursts_from s p es) ≡ cells_from s p es
  unfolding cells_of
  cells-from p [] = refl
  cells-from p (e ∷ es) =
      cells-append s (event_bursts s p e es) (bursts_from s (step s p e) es)
      ∙ (λ i. event-cells p e es i ++ cells-from (step s p e) es i)

  pub cells-ahead : (es : List Event) → Rises 0 es → Alone s (start s) es → cells_of s (bursts_of s es) ≡ cells_from s (start s) es
  cells-ahead es r u = ap (cells_of s) (bursts-ahead es r u) ∙ cells-from (start s) es
