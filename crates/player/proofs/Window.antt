-- The window as what its cells hold: words read, stored one by one, and words with masks taken in turn.
use Prim.Native.Nat.{ℕ, zero, suc, ◌+◌, ◌-◌, ◌*◌, ◌/◌, ◌%◌, ◌^◌, ◌≤◌, ◌<◌}
use mathlib.Core.Bool.{Bool, true, false, cond}
use mathlib.Core.List.{List, [], ◌∷◌, map}
use mathlib.Core.Path.{◌≡◌, refl, sym, ap, ◌∙◌}
use native.Mathlib.Nat.{zero-add}
use native.Mathlib.Omega.{arith}
use borrow.Author.Tests.{leb-true, ltb-true, eqb-true, eqb-false, eq-eqb, ne_eqb}
use lib.Dec.{leb, ltb, eqb}
use lib.ListN.{length, get_or, set, take, drop, length-map, length-set, length-drop}
use lib.Seq.{ext_get_or, get_or-set_same, get_or-set_other, get_or-take, get_or-drop, length-take-le}
use Rattle.reading.specs.Search.{count, every}
use Rattle.reading.specs.Settings.{Settings}
use Rattle.reading.specs.Bursts.{Burst, beat_cell}
use Rattle.reading.specs.Memory.{Contents, Datum, lanes, merged, store, load, store_beats}
use Rattle.reading.specs.Player.{in_window, windowed, datum_at, data_of}
use Rattle.reading.proofs.Laws.{both}
use Rattle.words.proofs.Counting.{at_count}
use Rattle.capture.proofs.Accepted.{length-count}
use Rattle.player.specs.Playing.{lanes_by, stored_from, shown_at}

pub length-counted : {A : Type 0} (f : ℕ → A) (from n : ℕ) → length (map f (count from n)) ≡ n
length-counted f from n = length-map (count from n) f ∙ length-count from n

module _ (first size : ℕ) where
  -- what is lent where the cells hold this
  abbrev pub shows : Contents → List ℕ
  shows m = map m (count first size)

  pub inside : (cell : ℕ) → in_window first size cell ≡ true → (first ≤ cell) × (cell < first + size)
  inside cell h = let two = both (leb first cell) (ltb cell (first + size)) h in (leb-true first cell two.0, ltb-true cell (first + size) two.1)

  module _ (cell : ℕ) (h : in_window first size cell ≡ true) where
    place-lt : cell - first < size
    place-lt = omega (arith, (inside cell h).0, (inside cell h).1)

    place_is : first + (cell - first) ≡ cell
    place_is = omega (arith, (inside cell h).0)

    pub at-cell : (m : Contents) → get_or (shows m) (cell - first) 0 ≡ m cell
    at-cell m = at_count m 0 first size (cell - first) place-lt ∙ ap m place_is

    -- a store to a cell
    pub set-cell : (m f : Contents) (v : ℕ) → v ≡ f cell → ((x : ℕ) → (x ≡ cell → ⊥) → m x ≡ f x) → set (shows m) (cell - first) v ≡ shows f
    set-cell m f v e g =
        ext_get_or 0 (set (shows m) (cell - first) v) (shows f)
        (length-set (shows m) (cell - first) v ∙ length-counted m first size ∙ sym (length-counted f first size)) each
      where
        each : (i : ℕ) → i < length (set (shows m) (cell - first) v) → get_or (set (shows m) (cell - first) v) i 0 ≡ get_or (shows f) i 0
        each i l = go (eqb i (cell - first)) refl ∙ sym (at_count f 0 first size i few)
          where
            few : i < size
            few = omega (arith, l, length-set (shows m) (cell - first) v, length-counted m first size)

            go : (w : Bool) → eqb i (cell - first) ≡ w → get_or (set (shows m) (cell - first) v) i 0 ≡ f (first + i)
            go true q =
                let here : i ≡ cell - first = eqb-true i (cell - first) q in
                ap (λ (k : ℕ). get_or (set (shows m) (cell - first) v) k 0) here
                ∙ get_or-set_same (shows m) (cell - first) v 0 (omega (arith, place-lt, length-counted m first size))
                ∙ e ∙ ap f (omega (arith, here, place_is))
            go false q =
                get_or-set_other (shows m) (cell - first) i v 0 (eqb-false i (cell - first) q)
                ∙ at_count m 0 first size i few
                ∙ g (first + i) (λ c. eqb-false i (cell - first) q (omega (arith, c)))

    pub store-cell : (s : Settings) (d : Datum) (m : Contents) {l : ℕ} → l ≡ lanes s →
        set (shows m) (cell - first) (merged l d (get_or (shows m) (cell - first) 0)) ≡ shows (store s cell d m)
    unfolding store
    store-cell s d m {l} e =
        set-cell m (store s cell d m) (merged l d (get_or (shows m) (cell - first) 0))
        ((λ i. merged (e i) d (at-cell m i)) ∙ sym (ap (λ (w : Bool). cond w (merged (lanes s) d (m cell)) (m cell)) (eq-eqb cell cell refl)))
        (λ x n. sym (ap (λ (w : Bool). cond w (merged (lanes s) d (m x)) (m x)) (ne_eqb x cell n)))

  -- those of a burst, from beat j on
  pub stored-shows : (s : Settings) (x : Burst) (word : ℕ → Datum) {l : ℕ} → l ≡ lanes s → (left j : ℕ) (m : Contents) →
      every (in_window first size) (map (beat_cell s x) (count j left)) ≡ true →
      stored_from l first (beat_cell s x) word left j (shows m) ≡ shows (store_beats s x j (map word (count j left)) m)
  unfolding stored_from store_beats
  stored-shows s x word e zero j m h = refl
  stored-shows s x word {l} e (suc left) j m h =
      let two = both (in_window first size (beat_cell s x j)) (every (in_window first size) (map (beat_cell s x) (count (suc j) left))) h in
      ap (stored_from l first (beat_cell s x) word left (suc j)) (store-cell (beat_cell s x j) two.0 s (word j) m e)
      ∙ stored-shows s x word e left (suc j) (store s (beat_cell s x j) (word j) m) two.1

-- the window itself
pub window-shows : (first : ℕ) (window : List ℕ) → window ≡ shows first (length window) (windowed first window)
window-shows first window =
    ext_get_or 0 window (shows first (length window) (windowed first window)) (sym (length-counted (windowed first window) first (length window)))
    (λ i l. ap (λ (k : ℕ). get_or window k 0) (omega arith) ∙ sym (at_count (windowed first window) 0 first (length window) i l))

-- ---- words and masks

pub data-length : (writes : List ℕ) → length (data_of writes) ≡ length writes / 2
unfolding data_of
data-length writes = length-counted (datum_at writes) 0 (length writes / 2)

-- some of them behind others
pub some-data : (writes : List ℕ) (taken k : ℕ) → taken + k ≤ length (data_of writes) →
    take k (drop taken (data_of writes)) ≡ map (λ j. datum_at writes (taken + j)) (count 0 k)
unfolding data_of
some-data writes taken k l =
    ext_get_or none (take k (drop taken data₀)) rest (sized ∙ sym (length-counted (λ j. datum_at writes (taken + j)) 0 k)) each
  where
    none : Datum
    none = record { word = 0; mask = 0 }

    data₀ : List Datum
    data₀ = map (datum_at writes) (count 0 (length writes / 2))

    rest : List Datum
    rest = map (λ j. datum_at writes (taken + j)) (count 0 k)

    many : length data₀ ≡ length writes / 2
    many = length-counted (datum_at writes) 0 (length writes / 2)

    sized : length (take k (drop taken data₀)) ≡ k
    sized = length-take-le k (drop taken data₀) (omega (arith, length-drop taken data₀, l))

    each : (i : ℕ) → i < length (take k (drop taken data₀)) → get_or (take k (drop taken data₀)) i none ≡ get_or rest i none
    each i m =
        let few : i < k = omega (arith, m, sized) in
        get_or-take k (drop taken data₀) i none few ∙ get_or-drop taken data₀ i none
        ∙ at_count (datum_at writes) none 0 (length writes / 2) (taken + i) (omega (arith, l, many, few))
        ∙ ap (datum_at writes) (zero-add (taken + i) ∙ ap (λ (j : ℕ). taken + j) (sym (zero-add i)))
        ∙ sym (at_count (λ j. datum_at writes (taken + j)) none 0 k i few)

-- ---- words that are read

module _ (s : Settings) (first size : ℕ) (m : Contents) (lane : ℕ) (e : lanes_by lane ≡ lanes s) where
  pub shown-loads : (f : ℕ → ℕ) (js : List ℕ) → every (in_window first size) (map f js) ≡ true →
      map (λ j. shown_at lane first (shows first size m) (f j)) js ≡ map (λ j. load s m (f j)) js
  unfolding load
  shown-loads f [] h = refl
  shown-loads f (j ∷ js) h =
      let two = both (in_window first size (f j)) (every (in_window first size) (map f js)) h in
      λ i. at-cell first size (f j) two.0 m i % 2 ^ (8 * e i) ∷ shown-loads f js two.1 i
