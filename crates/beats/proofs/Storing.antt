-- The cells of a burst, stored one behind the other.
use Prim.Native.Nat.{ℕ, zero, suc, ◌+◌, ◌-◌, ◌*◌, ◌/◌, ◌≤◌, ◌<◌}
use mathlib.Core.Bool.{Bool}
use mathlib.Core.List.{List, [], ◌∷◌, ◌++◌, map, map-append}
use mathlib.Core.Path.{◌≡◌, refl, sym, ap, ◌∙◌, fun_ext}
use native.Mathlib.Nat.{add-zero, zero-add, add-suc, suc-add, add_assoc}
use native.Mathlib.Numerals.{add-one}
use native.Mathlib.Omega.{arith}
use borrow.Rule.Slice.PartMut.{put_mid}
use lib.ListN.{length, set, take, drop, length-map, length-take, length-drop}
use lib.Seq.{sets, length-sets}
use Rattle.reading.specs.Search.{count}
use Rattle.reading.specs.Mode.{BL, interleaved}
use Rattle.reading.specs.Bursts.{place, beat_column}
use Rattle.std.proofs.lemmas.List.{append-nil}
use Rattle.words.proofs.Runs.{sets-append, part-sets, front, none-behind}
use Rattle.capture.proofs.Accepted.{length-count}
use Rattle.beats.specs.Rows.{place_in, block_cells, beat_cells}

count-more : (from n : ℕ) → count from (suc n) ≡ count from n ++ ((from + n) ∷ [])
count-more from zero = ap (λ (k : ℕ). k ∷ []) (sym (add-zero from))
count-more from (suc n) =
    ap (λ (xs : List ℕ). from ∷ xs) (count-more (suc from) n)
    ∙ ap (λ (k : ℕ). from ∷ (count (suc from) n ++ (k ∷ []))) (suc-add from n ∙ sym (add-suc from n))

module _ (first mode column : ℕ) where
  pub length-cells : (beats : ℕ) → length (beat_cells first mode column beats) ≡ beats
  unfolding beat_cells
  length-cells beats = length-map (count 0 beats) (λ j. first + beat_column mode column j) ∙ length-count 0 beats

  pub no_cells : beat_cells first mode column 0 ≡ []
  unfolding beat_cells
  no_cells = refl

  -- by the block that holds the column
  pub beat-in-block : (v : Bool) (beat : ℕ) {size : ℕ} → interleaved mode ≡ v → size ≡ BL mode →
      first + column / size * size + place_in v size column beat ≡ first + beat_column mode column beat
  unfolding beat_column place
  beat-in-block v beat e f = rw f (add_assoc first (column / BL mode * BL mode) (place_in v (BL mode) column beat) ∙ rw e)

  pub in_block : (v : Bool) (beats : ℕ) {size : ℕ} → interleaved mode ≡ v → size ≡ BL mode →
      block_cells v (first + column / size * size) size column beats ≡ beat_cells first mode column beats
  unfolding beat_cells
  in_block v beats e f = ap (λ (g : ℕ → ℕ). map g (count 0 beats)) (fun_ext (λ j. beat-in-block v j e f))

-- ---- one cell behind the other, by beat

module _ (cell : ℕ → ℕ) where
  more-cells : (j : ℕ) → map cell (count 0 (j + 1)) ≡ map cell (count 0 j) ++ (cell j ∷ [])
  more-cells j =
      ap (λ (k : ℕ). map cell (count 0 k)) (add-one j)
      ∙ ap (map cell) (count-more 0 j)
      ∙ map-append cell (count 0 j) ((0 + j) ∷ [])
      ∙ ap (λ (k : ℕ). map cell (count 0 j) ++ (cell k ∷ [])) (zero-add j)

  -- the first j cells, of `most`, stand in the list from `at` on
  pub record Stored (old : List ℕ) (at most : ℕ) (out : List ℕ) (j next : ℕ) : Type 0 where
    pub place : next ≡ at + j
    pub within : j ≤ most
    pub size : length out ≡ length old
    pub holds : out ≡ sets old at (map cell (count 0 j))

  module _ (old : List ℕ) (at most : ℕ) where
    pub begins : Stored old at most old 0 at
    begins = record { place = sym (add-zero at); within = omega arith; size = refl; holds = refl }

    pub goes_on : {out : List ℕ} {j next v : ℕ} → Stored old at most out j next → j < most → v ≡ cell j →
        Stored old at most (set out next v) (j + 1) (next + 1)
    goes_on {out} {j} {next} {v} b l e =
        record {
          place = omega (arith, b.place);
          within = omega arith;
          size = ap length stored ∙ length-sets old at (map cell (count 0 (j + 1)));
          holds = stored;
        }
      where
        many : length (map cell (count 0 j)) ≡ j
        many = length-map (count 0 j) cell ∙ length-count 0 j

        stored : set out next v ≡ sets old at (map cell (count 0 (j + 1)))
        stored =
            rw (e, b.place, b.holds)
            (ap (λ (k : ℕ). set (sets old at (map cell (count 0 j))) (at + k) (cell j)) (sym many)
            ∙ sets-append old at (map cell (count 0 j)) (cell j ∷ [])
            ∙ ap (sets old at) (sym (more-cells j)))

    pub ends : {out : List ℕ} {j next : ℕ} → Stored old at most out j next → most ≤ j → out ≡ sets old at (map cell (count 0 most))
    ends {out} {j} b l = let e : j ≡ most = omega (arith, b.within) in b.holds ∙ ap (λ (k : ℕ). sets old at (map cell (count 0 k))) e

  -- a part of a list, lent from `at` on
  pub part-long : (old : List ℕ) (at most : ℕ) → at + most ≤ length old → length (take (at + most - at) (drop at old)) ≡ most
  part-long old at most l =
      let k : at + most - at ≡ most = omega arith in
      ap (λ (m : ℕ). length (take m (drop at old))) k ∙ simp (length-take, length-drop) (omega arith)

  -- where all the cells are stored in it, they are stored in the list
  pub stored_within : (old : List ℕ) (at most : ℕ) → at + most ≤ length old → {part : List ℕ} {j : ℕ} →
      Stored (take (at + most - at) (drop at old)) 0 most part j j → length (take (at + most - at) (drop at old)) ≤ j →
      put_mid at (at + most - at) old part ≡ sets old at (map cell (count 0 most))
  stored_within old at most l {part} {j} b e =
      let k : at + most - at ≡ most = omega arith in
      let long : length (take (at + most - at) (drop at old)) ≡ most = part-long old at most l in
      let all : length (map cell (count 0 most)) ≡ most = length-map (count 0 most) cell ∙ length-count 0 most in
      let whole : part ≡ map cell (count 0 most) =
      ends (take (at + most - at) (drop at old)) 0 most b (omega (arith, long))
      ∙ front (map cell (count 0 most)) (take (at + most - at) (drop at old)) (omega (arith, long, all))
      ∙ ap (λ (xs : List ℕ). map cell (count 0 most) ++ xs)
      (none-behind (take (at + most - at) (drop at old)) (length (map cell (count 0 most))) (omega (arith, long, all)))
      ∙ append-nil (map cell (count 0 most)) in
      part-sets old at (at + most - at) part (b.size ∙ long ∙ sym k) (omega (arith, k)) ∙ ap (sets old at) whole
