-- Writing the cells: what stands in the buffer before event i, and the cells of the events from i on.
use Prim.Native.Nat.{ℕ, ◌+◌, ◌*◌, ◌≤◌, ◌<◌}
use mathlib.Core.Bool.{false}
use mathlib.Core.List.{List, [], ◌++◌, append_assoc, append-nil}
use mathlib.Core.Path.{◌≡◌, refl, sym, ap, ◌∙◌}
use native.Mathlib.Nat.{zero-add}
use native.Mathlib.Omega.{arith}
use lib.ListN.{length, get_or, length-append}
use lib.Seq.{sets, length-sets}
use Rattle.reading.specs.Settings.{Settings, settings_of}
use Rattle.reading.specs.Capture.{Event, event_at}
use Rattle.reading.specs.Part.{Part}
use Rattle.words.proofs.Runs.{sets-append}
use Rattle.pins.specs.Pins.{bank_of, gives}
use Rattle.judge.specs.Meaning.{part_at}
use Rattle.beats.specs.Kept.{events_from, kept_of}
use Rattle.beats.specs.declared.Burst.{Burst}
use Rattle.beats.specs.Rows.{first_in_row, beat_cells}
use Rattle.beats.proofs.Events.{no-event}
use Rattle.beats.proofs.Looking.{kept-le, kept-nothing}
use Rattle.beats.proofs.Storing.{length-cells, no_cells}
use Rattle.beats.proofs.Ahead.{event_cells, cells_from}
use Rattle.cells.specs.Meaning.{Listable, Clean, firsts_at, At, cells_on}
use Rattle.cells.proofs.Walked.{Walked, all-cells, next-cells}
use Rattle.cells.proofs.Rows.{first-at, none-opened, mode-stays, mode-next, rows_next}
use Rattle.cells.proofs.Stepping.{Is}

module _ (settings bytes : List ℕ) (n : ℕ) (old : List ℕ) where
  abbrev s : Settings
  s = settings_of settings

  pub record Written (out firsts : List ℕ) (mode next i : ℕ) : Type 0 where
    pub on : Walked settings bytes n mode next i
    pub rowed : firsts ≡ firsts_at s bytes i
    pub done : List ℕ
    pub place : next ≡ length done
    pub holds : out ≡ sets old 0 done
    pub total : cells_on s bytes n ≡ done ++ cells_from s (part_at s bytes i) (events_from bytes n i)

  pub begins : {firsts : List ℕ} {mode : ℕ} → Listable settings bytes n → Clean s bytes n → At s bytes 0 firsts mode → Written old firsts mode 0 0
  begins z k a =
      record {
        on = record { moded = a.moded; within = omega arith; small = omega arith };
        rowed = a.rowed;
        done = [];
        place = refl;
        holds = refl;
        total = all-cells settings bytes n z k;
      }

  pub stands_at : {out firsts : List ℕ} {mode next i : ℕ} → Written out firsts mode next i → At s bytes i firsts mode
  stands_at b = record { rowed = b.rowed; moded = b.on.moded }

  pub size : {out firsts : List ℕ} {mode next i : ℕ} → Written out firsts mode next i → length out ≡ length old
  size b = ap length b.holds ∙ length-sets old 0 b.done

  module _ {out firsts : List ℕ} {mode next i : ℕ} (b : Written out firsts mode next i) (l : i < n)
      {pairs : ℕ} (ep : pairs ≡ kept_of s mode (event_at bytes i) (events_from bytes n (i + 1))) where
    abbrev e : Event
    e = event_at bytes i

    abbrev later : List Event
    later = events_from bytes n (i + 1)

    abbrev p : Part
    p = part_at s bytes i

    abbrev cells : List ℕ
    cells = event_cells s p e later

    abbrev behind : List ℕ
    behind = cells_from s (part_at s bytes (i + 1)) later

    pairs-are : pairs ≡ kept_of s p.mode e later
    pairs-are = ep ∙ ap (λ (m : ℕ). kept_of s m e later) b.on.moded

    sized : length cells ≡ 2 * pairs
    sized = length-cells _ _ _ _ ∙ ap (λ (k : ℕ). 2 * k) (sym pairs-are)

    split : cells_on s bytes n ≡ b.done ++ cells ++ behind
    split = b.total ∙ ap (λ (cs : List ℕ). b.done ++ cs) (next-cells settings bytes n i l) ∙ sym (append_assoc b.done cells behind)

    -- there is room for them
    pub room : length (cells_on s bytes n) ≤ length old → next + 2 * pairs ≤ length out
    room f =
        let whole = ap length split ∙ length-append (b.done ++ cells) _ in
        let front = length-append b.done cells in
        omega (arith, whole, front, sized, size b, b.place)

    turned : {out' firsts' : List ℕ} {mode' : ℕ} → out' ≡ sets out next cells → At s bytes (i + 1) firsts' mode' →
        Written out' firsts' mode' (next + 2 * pairs) (i + 1)
    turned eo a =
        record {
          on =
              record {
                moded = a.moded;
                within = omega arith;
                small = omega (arith, b.on.small, ep, kept-le s mode e later);
              };
          rowed = a.rowed;
          done = b.done ++ cells;
          place = omega (arith, b.place, sized, length-append b.done cells);
          holds = eo ∙ rw (b.holds, b.place) one-behind;
          total = split;
        }
      where
        one-behind : sets (sets old 0 b.done) (length b.done) cells ≡ sets old 0 (b.done ++ cells)
        one-behind =
            ap (λ (k : ℕ). sets (sets old 0 b.done) k cells) (sym (zero-add (length b.done)))
            ∙ sets-append old 0 b.done cells

    -- an event that gives a burst
    module _ {x : Burst} (is : Is s bytes n i firsts mode x) (same : x.pairs ≡ pairs) where
      first-is : x.first ≡ first_in_row s (bank_of e.pins) (p.banks (bank_of e.pins)).row
      first-is = is.row ∙ ap (λ (xs : List ℕ). get_or xs (bank_of e.pins) 0) b.rowed ∙ first-at s p (bank_of e.pins) (omega arith)

      stored-are : beat_cells x.first x.mode x.column (2 * x.pairs) ≡ cells
      stored-are = rw (first-is, is.place, is.moded, same, pairs-are, b.on.moded)

      pub goes_on : {out' : List ℕ} → out' ≡ sets out next (beat_cells x.first x.mode x.column (2 * x.pairs)) →
          Written out' firsts mode (next + 2 * pairs) (i + 1)
      goes_on eo =
          turned (eo ∙ ap (sets out next) stored-are)
          (record {
            rowed = rows_next s bytes i refl b.rowed (none-opened e.pins is.burst s firsts);
            moded = mode-next s bytes i refl b.on.moded (mode-stays e.pins is.burst mode);
          })

  -- an event that gives none
  pub passes : {out firsts firsts' : List ℕ} {mode mode' next i : ℕ} → Written out firsts mode next i → i < n →
      gives (event_at bytes i).pins ≡ false → At s bytes (i + 1) firsts' mode' → Written out firsts' mode' next (i + 1)
  passes {out} {firsts} {firsts'} {mode} {mode'} {next} {i} b l g a =
      rw same at (turned b l none_kept (sym nothing) a)
    where
      later : List Event
      later = events_from bytes n (i + 1)

      same : next + 2 * 0 ≡ next
      same = omega arith

      none_kept : 0 ≡ kept_of s mode (event_at bytes i) later
      none_kept = kept-nothing s mode (event_at bytes i) later g

      nothing : sets out next (event_cells s (part_at s bytes i) (event_at bytes i) later) ≡ out
      nothing = rw (← b.on.moded, ← none_kept) (ap (sets out next) (no_cells _ _ _))

  module _ {out firsts : List ℕ} {mode next i : ℕ} (b : Written out firsts mode next i) (l : n ≤ i) where
    all_done : cells_on s bytes n ≡ b.done
    all_done = b.total ∙ ap (λ (es : List Event). b.done ++ cells_from s (part_at s bytes i) es) (no-event bytes n i l) ∙ append-nil b.done

    pub counted : next ≡ length (cells_on s bytes n)
    counted = b.place ∙ ap length (sym all_done)

    pub ends : out ≡ sets old 0 (cells_on s bytes n)
    ends = b.holds ∙ ap (sets old 0) (sym all_done)
