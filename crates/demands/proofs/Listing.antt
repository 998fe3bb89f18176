-- Demand 2, for `cells::burst_cells`: the cells of every burst of a clean capture, and their order.
use Prim.Native.Nat.{ℕ, ◌+◌, ◌*◌, ◌/◌, ◌%◌, ◌≤◌, ◌<◌}
use mathlib.Core.List.{List, ◌∷◌, ◌++◌, append_assoc}
use mathlib.Core.Path.{◌≡◌, sym, ap, ◌∙◌}
use native.Mathlib.Nat.{zero-add}
use native.Mathlib.Omega.{arith}
use lib.ListN.{length, get_or, drop, get_or-append}
use lib.Seq.{get_or-append-add}
use Rattle.reading.specs.Settings.{Settings}
use Rattle.reading.specs.Capture.{events_of}
use Rattle.reading.specs.Mode.{BL, interleaved}
use Rattle.reading.specs.Bursts.{Burst, place, beat_column, cell_number, beat_cell, burst_cells}
use Rattle.reading.specs.Cells.{bursts_of, cells_of, beats_of}
use Rattle.reading.specs.Answers.{Answer, Outcome, answered, unless, settings_in, verdict_in, not_clean, cells_in, fitting, leaves, cells_outcome}
use Rattle.reading.proofs.Meaning.{verdict-clean}
use Rattle.reading.proofs.Tables.{table_row, row-published}
use Rattle.reading.proofs.Beats.{cells-append}
use Rattle.capture.proofs.Outcome as outcomes
use Rattle.capture.proofs.Accepted.{accepted-rest}
use Rattle.beats.proofs.Sums.{burst-length, cells-length}
use Rattle.std.specs.Prelude.{Ok}
use Rattle.refusal.proofs.Unique.{one_count}
use Rattle.words.proofs.Counting.{at_count}
use Rattle.demands.specs.Allowed.{Counted, Lists}
use Rattle.demands.specs.Refused.{Accepted, Clean}

-- ---- the cells of bursts

module _ (s : Settings) where
  beat-there : (xs : List Burst) (x : Burst) (ys : List Burst) (tail : List ℕ) (j : ℕ) → j < 2 * x.n →
      get_or (cells_of s (xs ++ x ∷ ys) ++ tail) (beats_of xs + j) 0 ≡ beat_cell s x j
  unfolding cells_of burst_cells
  beat-there xs x ys tail j l =
      let split : cells_of s (xs ++ x ∷ ys) ++ tail ≡ cells_of s xs ++ (burst_cells s x ++ (cells_of s ys ++ tail)) =
      ap (λ (cs : List ℕ). cs ++ tail) (cells-append s xs (x ∷ ys)) ∙ append_assoc (cells_of s xs) (burst_cells s x ++ cells_of s ys) tail
      ∙ ap (λ (cs : List ℕ). cells_of s xs ++ cs) (append_assoc (burst_cells s x) (cells_of s ys) tail) in
      (λ i. get_or (split i) (sym (cells-length s xs) i + j) 0)
      ∙ get_or-append-add (cells_of s xs) (burst_cells s x ++ (cells_of s ys ++ tail)) j 0
      ∙ get_or-append (burst_cells s x) (cells_of s ys ++ tail) 0 j (omega (arith, burst-length s x, l))
      ∙ at_count (beat_cell s x) 0 0 (2 * x.n) j l ∙ ap (beat_cell s x) (zero-add j)

-- The cell of beat j is that of the published burst tables: of the row for the burst's length, order and starting column.
pub beat-published : (s : Settings) (x : Burst) (j : ℕ) → j < BL x.mode → beat_cell s x j ≡ cell_number s x.bank x.row
    (x.column / BL x.mode * BL x.mode + get_or (table_row (interleaved x.mode) (x.mode % 8) (x.column % BL x.mode)) j 0)
unfolding beat_cell beat_column
beat-published s x j l =
    let m = x.mode in
    let c = x.column in
    let there : place m c j ≡ get_or (table_row (interleaved m) (m % 8) (c % BL m)) j 0 =
    sym (at_count (place m c) 0 0 (BL m) j l ∙ ap (place m c) (zero-add j)) ∙ ap (λ (row : List ℕ). get_or row j 0) (row-published m c) in
    ap (λ (p : ℕ). cell_number s x.bank x.row (c / BL m * BL m + p)) there

-- ---- the demand

module _ (capture out : List ℕ) (accepted : Accepted capture) (clean : Clean capture) (room : length (cells_in capture) ≤ length out) where
  outcome : cells_outcome capture out ≡ leaves (answered (cells_in capture)) out
  unfolding cells_outcome verdict_in
  outcome =
      let no-break : not_clean (verdict_in capture) ≡ _ = ap not_clean ((verdict-clean (settings_in capture) (events_of capture)).1 clean) in
      let answer : unless 8 (not_clean (verdict_in capture)) (fitting out (cells_in capture)) ≡ answered (cells_in capture) =
      rw no-break (outcomes.room out (cells_in capture) room) in
      ap (λ (a : Answer (List ℕ)). leaves a out) (accepted-rest capture _ accepted ∙ answer)

-- A clean capture, with room for its cells: as many are written as there are kept beats.
pub cells-counted : (capture out : List ℕ) → Accepted capture → Clean capture → length (cells_in capture) ≤ length out →
    (r : Counted) (left : List ℕ) → Lists capture out r left → r ≡ Ok (beats_of (bursts_of (settings_in capture) (events_of capture)))
unfolding cells_in
cells-counted capture out accepted clean room r left allowed =
    one_count r (Ok (length (cells_in capture))) (allowed.0 ∙ ap (λ (o : Outcome). o.answer) (outcome capture out accepted clean room))
    ∙ ap Ok (cells-length (settings_in capture) (bursts_of (settings_in capture) (events_of capture)))

-- They stand from the front of the buffer on; what lies behind them stays.
pub cells-there : (capture out : List ℕ) → Accepted capture → Clean capture → length (cells_in capture) ≤ length out →
    (r : Counted) (left : List ℕ) → Lists capture out r left → left ≡ cells_in capture ++ drop (length (cells_in capture)) out
cells-there capture out accepted clean room r left allowed = allowed.1 ∙ ap (λ (o : Outcome). o.buffer) (outcome capture out accepted clean room)

-- Beat j of a burst stands behind the kept beats of the bursts given before it, and is the cell of that beat.
pub beat-listed : (capture out : List ℕ) → Accepted capture → Clean capture → length (cells_in capture) ≤ length out →
    (r : Counted) (left : List ℕ) → Lists capture out r left →
    (xs : List Burst) (x : Burst) (ys : List Burst) → bursts_of (settings_in capture) (events_of capture) ≡ xs ++ x ∷ ys → (j : ℕ) → j < 2 * x.n →
    get_or left (beats_of xs + j) 0 ≡ beat_cell (settings_in capture) x j
unfolding cells_in
beat-listed capture out accepted clean room r left allowed xs x ys e j l =
    let s = settings_in capture in
    ap (λ (cs : List ℕ). get_or cs (beats_of xs + j) 0)
    (cells-there capture out accepted clean room r left allowed ∙ ap (λ (b : List Burst). cells_of s b ++ drop (length (cells_in capture)) out) e)
    ∙ beat-there s xs x ys (drop (length (cells_in capture)) out) j l
