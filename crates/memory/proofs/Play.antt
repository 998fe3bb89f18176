-- Bursts that serve requests, replayed, are the plain memory: however their rows were opened and closed.
use Prim.Native.Nat.{ℕ, suc, ◌*◌, ◌%◌, ◌≤◌}
use mathlib.Core.Bool.{cond, ◌&&◌, ◌||◌, true, and-eq-true_iff}
use mathlib.Core.List.{List, [], ◌∷◌, ◌++◌, map}
use mathlib.Core.Path.{◌≡◌, refl, ap, ◌∙◌}
use lib.ListN.{take, drop}
use lib.Dec.{leb, ltb, eqb}
use borrow.Author.Tests.{leb-true}
use Rattle.reading.specs.Search.{count}
use Rattle.reading.specs.Mode.{BL, h, CL, mode_word}
use Rattle.reading.specs.Settings.{Settings}
use Rattle.reading.specs.Bursts.{Burst, beat_column, cell_number, beat_cell}
use Rattle.reading.specs.Memory.{Contents, Datum, store, load, Run, store_beats, play, replay_bursts, requested, plain}
use Rattle.reading.proofs.Beats.{pairs-are-beats}
use Rattle.memory.specs.Serving.{Sized, SameBeats, Serves, Each, nil, cons}

-- ---- bursts that are alike do the same, whatever the length and the order

module _ (s : Settings) (x y : Burst) (a : SameBeats x y) where
  -- a beat's cell is of bank, row, column and mode alone
  alike-cells : (j : ℕ) → beat_cell s x j ≡ beat_cell s y j
  unfolding beat_cell
  alike-cells j = λ i. cell_number s (a.bank i) (a.row i) (beat_column (a.mode i) (a.column i) j)

  alike-stores : (j : ℕ) (ds : List Datum) (m : Contents) → store_beats s x j ds m ≡ store_beats s y j ds m
  unfolding store_beats
  alike-stores j [] m = refl
  alike-stores j (d ∷ ds) m =
      ap (λ (cell : ℕ). store_beats s x (suc j) ds (store s cell d m)) (alike-cells j)
      ∙ alike-stores (suc j) ds (store s (beat_cell s y j) d m)

  pub alike-play : (beats : ℕ) (r : Run) → play s beats x r ≡ play s beats y r
  unfolding play
  alike-play beats r =
      let words : ℕ → List Datum = λ m. take beats (take (BL m) r.supply) in
      let stored : store_beats s x 0 (words x.mode) r.contents ≡ store_beats s y 0 (words y.mode) r.contents =
      ap (λ (m : ℕ). store_beats s x 0 (words m) r.contents) a.mode ∙ alike-stores 0 (words y.mode) r.contents in
      λ i.
      cond (a.writes i)
      (record { contents = stored i; supply = drop (BL (a.mode i)) r.supply; returned = r.returned })
      (record {
        contents = r.contents;
        supply = r.supply;
        returned = r.returned ++ map (λ j. load s r.contents (alike-cells j i)) (count 0 beats);
      })

-- ---- bursts that serve requests

some-length : (m : ℕ) → mode_word m ≡ true → 1 ≤ m % 8
some-length m e =
    let three = (and-eq-true_iff (leb 1 (m % 8) && leb (m % 8) 4 && (eqb (CL m) 2 || eqb (CL m) 3)) (ltb m 128)).0 e in
    let two = (and-eq-true_iff (leb 1 (m % 8) && leb (m % 8) 4) (eqb (CL m) 2 || eqb (CL m) 3)).0 three.0 in
    leb-true 1 (m % 8) ((and-eq-true_iff (leb 1 (m % 8)) (leb (m % 8) 4)).0 two.0).0

module _ (s : Settings) (f : Sized s) where
  -- all its pairs are all BL beats
  whole-beats : (x : Burst) (q : ℕ) → Serves s x q → 2 * x.n ≡ BL s.mode
  whole-beats x q v =
      ap (λ (n : ℕ). 2 * n) (v.whole ∙ ap h v.alike.mode) ∙ pairs-are-beats s.mode (some-length s.mode f.mode)

  pub serves-play : (x : Burst) (q : ℕ) → Serves s x q → (r : Run) → play s (2 * x.n) x r ≡ play s (BL s.mode) (requested s q) r
  serves-play x q v r =
      ap (λ (beats : ℕ). play s beats x r) (whole-beats x q v) ∙ alike-play s x (requested s q) v.alike (BL s.mode) r

  pub serves-plain : {xs : List Burst} {qs : List ℕ} → Each (Serves s) xs qs → (r : Run) → replay_bursts s xs r ≡ plain s qs r
  unfolding replay_bursts plain
  serves-plain nil r = refl
  serves-plain (cons {x = x} {y = q} {xs = xs} v vs) r =
      ap (replay_bursts s xs) (serves-play x q v r) ∙ serves-plain vs (play s (BL s.mode) (requested s q) r)
