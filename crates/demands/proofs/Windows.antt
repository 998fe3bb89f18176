-- A replay whose kept beats are all in a window: it sees and changes nothing outside; and what it does to upper halves.
use Prim.Native.Nat.{ℕ, zero, suc, ◌+◌, ◌-◌, ◌*◌, ◌/◌, ◌%◌, ◌^◌, ◌≤◌, ◌<◌}
use mathlib.Core.Bool.{Bool, true, false, cond, ◌&&◌}
use mathlib.Core.List.{List, [], ◌∷◌, ◌++◌, map}
use mathlib.Core.Option.{none}
use mathlib.Core.Path.{◌≡◌, refl, sym, ap, ◌∙◌, subst}
use native.Mathlib.Omega.{arith}
use borrow.Author.Tests.{ne_eqb}
use lib.Dec.{leb, eqb}
use lib.ListN.{length, get_or, take, drop}
use lib.Seq.{ext_get_or}
use Rattle.reading.specs.Search.{count, every}
use Rattle.reading.specs.Words.{bit}
use Rattle.reading.specs.Mode.{BL}
use Rattle.reading.specs.Settings.{Settings}
use Rattle.reading.specs.Bursts.{Burst, beat_cell, burst_cells}
use Rattle.reading.specs.Memory.{Contents, Datum, Run, lanes, lane_of, with_lane, merged, store, load, store_beats, play, replay_bursts}
use Rattle.reading.specs.Player.{in_window, takes, unplayable}
use Rattle.reading.proofs.Laws.{both}
use Rattle.words.proofs.Counting.{at_count}
use Rattle.player.proofs.Window.{shows, length-counted}
use Rattle.player.proofs.Running.{can-play}

-- ---- the runs that a burst leads to

module _ (s : Settings) (x : Burst) (r : Run) where
  abbrev wrote : Run
  wrote =
      record {
        contents = store_beats s x 0 (take (2 * x.n) (take (BL x.mode) r.supply)) r.contents;
        supply = drop (BL x.mode) r.supply;
        returned = r.returned;
      }

  abbrev read : Run
  read =
      record {
        contents = r.contents;
        supply = r.supply;
        returned = r.returned ++ map (λ j. load s r.contents (beat_cell s x j)) (count 0 (2 * x.n));
      }

-- what holds of both holds of it
by_kind : (s : Settings) (x : Burst) (r : Run) (P : Run → Type 0) → P (wrote s x r) → P (read s x r) → P (play s (2 * x.n) x r)
unfolding play
by_kind s x r P f g = go x.writes
  where
    go : (v : Bool) → P (cond v (wrote s x r) (read s x r))
    go true = f
    go false = g

-- of two runs
by-kinds : (s : Settings) (x : Burst) (r o : Run) (P : Run → Run → Type 0) → P (wrote s x r) (wrote s x o) → P (read s x r) (read s x o) →
    P (play s (2 * x.n) x r) (play s (2 * x.n) x o)
unfolding play
by-kinds s x r o P f g = go x.writes
  where
    go : (v : Bool) → P (cond v (wrote s x r) (read s x r)) (cond v (wrote s x o) (read s x o))
    go true = f
    go false = g

few-taken : (k : ℕ) (ds : List Datum) → length (take k ds) ≤ k
few-taken zero ds = omega arith
few-taken (suc k) [] = omega arith
few-taken (suc k) (d ∷ ds) = omega (arith, few-taken k ds)

-- ---- stores

module _ (s : Settings) (x : Burst) where
  -- what a cell holds after stores is of what it held
  stores-alike : (j : ℕ) (ds : List Datum) (m o : Contents) (y : ℕ) → m y ≡ o y → store_beats s x j ds m y ≡ store_beats s x j ds o y
  unfolding store_beats store
  stores-alike j [] m o y e = e
  stores-alike j (d ∷ ds) m o y e =
      stores-alike (suc j) ds (store s (beat_cell s x j) d m) (store s (beat_cell s x j) d o) y
      (λ i. cond (eqb y (beat_cell s x j)) (merged (lanes s) d (e i)) (e i))

  -- a cell that none of them is stays
  stores_apart : (inside : ℕ → Bool) (y : ℕ) → inside y ≡ false → (j k : ℕ) (ds : List Datum) → length ds ≤ k →
      every inside (map (beat_cell s x) (count j k)) ≡ true → (m : Contents) → store_beats s x j ds m y ≡ m y
  unfolding store_beats store
  stores_apart inside y f j k [] l h m = refl
  stores_apart inside y f j zero (d ∷ ds) l h m = absurd (omega (arith, l))
  stores_apart inside y f j (suc k) (d ∷ ds) l h m =
      let two = both (inside (beat_cell s x j)) (every inside (map (beat_cell s x) (count (suc j) k))) h in
      stores_apart inside y f (suc j) k ds (omega (arith, l)) two.1 (store s (beat_cell s x j) d m)
      ∙ ap (λ (v : Bool). cond v (merged (lanes s) d (m y)) (m y)) (ne_eqb y (beat_cell s x j) (other two.0))
    where
      other : inside (beat_cell s x j) ≡ true → y ≡ beat_cell s x j → ⊥
      other g e = let z : true ≡ false = sym g ∙ ap inside (sym e) ∙ f in let one : ◌≡◌ {A = ℕ} 0 1 = ap (λ (v : Bool). cond v 0 1) z in omega (arith, one)

-- ---- all bursts

module _ (s : Settings) (inside : ℕ → Bool) where
  -- their kept beats are all inside
  abbrev pub AllIn : List Burst → Type 0
  AllIn xs = every (λ (x : Burst). every inside (burst_cells s x)) xs ≡ true

  -- two runs that have returned the same, have the same left to write, and hold the same inside
  pub record Same (r o : Run) : Type 0 where
    pub supply : r.supply ≡ o.supply
    pub returned : r.returned ≡ o.returned
    pub contents : (y : ℕ) → inside y ≡ true → r.contents y ≡ o.contents y

  loads-alike : (m o : Contents) → ((y : ℕ) → inside y ≡ true → m y ≡ o y) → (f : ℕ → ℕ) (js : List ℕ) → every inside (map f js) ≡ true →
      map (λ j. load s m (f j)) js ≡ map (λ j. load s o (f j)) js
  unfolding load
  loads-alike m o e f [] h = refl
  loads-alike m o e f (j ∷ js) h =
      let two = both (inside (f j)) (every inside (map f js)) h in
      λ i. e (f j) two.0 i % 2 ^ (8 * lanes s) ∷ loads-alike m o e f js two.1 i

  burst-alike : (x : Burst) → every inside (burst_cells s x) ≡ true → (r o : Run) → Same r o → Same (play s (2 * x.n) x r) (play s (2 * x.n) x o)
  unfolding burst_cells
  burst-alike x h r o e =
      by-kinds s x r o Same
      (record {
        supply = ap (drop (BL x.mode)) e.supply;
        returned = e.returned;
        contents = λ y i.
            ap (λ (ds : List Datum). store_beats s x 0 (take (2 * x.n) (take (BL x.mode) ds)) r.contents y) e.supply
            ∙ stores-alike s x 0 (take (2 * x.n) (take (BL x.mode) o.supply)) r.contents o.contents y (e.contents y i);
      })
      (record {
        supply = e.supply;
        returned = λ i. e.returned i ++ loads-alike r.contents o.contents e.contents (beat_cell s x) (count 0 (2 * x.n)) h i;
        contents = e.contents;
      })

  pub replays-alike : (xs : List Burst) → AllIn xs → (r o : Run) → Same r o → Same (replay_bursts s xs r) (replay_bursts s xs o)
  unfolding replay_bursts
  replays-alike [] h r o e = e
  replays-alike (x ∷ xs) h r o e =
      let two = both (every inside (burst_cells s x)) (every (λ (b : Burst). every inside (burst_cells s b)) xs) h in
      replays-alike xs two.1 (play s (2 * x.n) x r) (play s (2 * x.n) x o) (burst-alike x two.0 r o e)

  -- cells outside stay
  pub replays-apart : (xs : List Burst) → AllIn xs → (r : Run) (y : ℕ) → inside y ≡ false → (replay_bursts s xs r).contents y ≡ r.contents y
  unfolding replay_bursts burst_cells
  replays-apart [] h r y f = refl
  replays-apart (x ∷ xs) h r y f =
      let two = both (every inside (burst_cells s x)) (every (λ (b : Burst). every inside (burst_cells s b)) xs) h in
      replays-apart xs two.1 (play s (2 * x.n) x r) y f
      ∙ by_kind s x r (λ (q : Run). q.contents y ≡ r.contents y)
      (stores_apart s x inside y f 0 (2 * x.n) (take (2 * x.n) (take (BL x.mode) r.supply)) (few-taken (2 * x.n) (take (BL x.mode) r.supply)) two.0 r.contents)
      refl

-- all that can be played are inside
pub all_in : (s : Settings) (first size left : ℕ) (xs : List Burst) → unplayable s first size left xs ≡ none → AllIn s (in_window first size) xs
all_in s first size left [] e = refl
all_in s first size left (x ∷ xs) e =
    let can = can-play s first size left x xs e in
    let here = (both (every (in_window first size) (burst_cells s x)) (leb (takes x) left) can.0).0 in
    ap (λ (v : Bool). v && every (λ (b : Burst). every (in_window first size) (burst_cells s b)) xs) here
    ∙ all_in s first size (left - takes x) xs can.1

-- contents that agree inside show the same
pub shows_alike : (first size : ℕ) (m o : Contents) → ((i : ℕ) → i < size → m (first + i) ≡ o (first + i)) → shows first size m ≡ shows first size o
shows_alike first size m o e =
    ext_get_or 0 (shows first size m) (shows first size o) (length-counted m first size ∙ sym (length-counted o first size))
    (λ i l.
    let few : i < size = omega (arith, l, length-counted m first size) in
    at_count m 0 first size i few ∙ e i few ∙ sym (at_count o 0 first size i few))

-- ---- lane code 1: the upper halves

merged-upper : (d : Datum) (old : ℕ) → merged 2 d old / 2 ^ 16 ≡ old / 2 ^ 16
unfolding merged
merged-upper d old = go (eqb (bit 0 d.mask) 0) (eqb (bit 1 d.mask) 0)
  where
    low : Bool → ℕ
    low a = cond a (with_lane 0 (lane_of 0 d.word) old) old

    kept : (a : Bool) → low a / 2 ^ 16 ≡ old / 2 ^ 16
    kept true = omega arith
    kept false = refl

    go : (a b : Bool) → cond b (with_lane 1 (lane_of 1 d.word) (low a)) (low a) / 2 ^ 16 ≡ old / 2 ^ 16
    go a true = omega (arith, kept a)
    go a false = kept a

module _ (s : Settings) (e : s.lane ≡ 1) where
  two : lanes s ≡ 2
  two = ap (λ (l : ℕ). 2 * l) e

  stores-upper : (x : Burst) (j : ℕ) (ds : List Datum) (m : Contents) (y : ℕ) → store_beats s x j ds m y / 2 ^ 16 ≡ m y / 2 ^ 16
  unfolding store_beats store
  stores-upper x j [] m y = refl
  stores-upper x j (d ∷ ds) m y = stores-upper x (suc j) ds (store s (beat_cell s x j) d m) y ∙ go (eqb y (beat_cell s x j))
    where
      go : (v : Bool) → cond v (merged (lanes s) d (m y)) (m y) / 2 ^ 16 ≡ m y / 2 ^ 16
      go true = ap (λ (l : ℕ). merged l d (m y) / 2 ^ 16) two ∙ merged-upper d (m y)
      go false = refl

  pub replays-upper : (xs : List Burst) (r : Run) (y : ℕ) → (replay_bursts s xs r).contents y / 2 ^ 16 ≡ r.contents y / 2 ^ 16
  unfolding replay_bursts
  replays-upper [] r y = refl
  replays-upper (x ∷ xs) r y =
      replays-upper xs (play s (2 * x.n) x r) y
      ∙ by_kind s x r (λ (q : Run). q.contents y / 2 ^ 16 ≡ r.contents y / 2 ^ 16)
      (stores-upper x 0 (take (2 * x.n) (take (BL x.mode) r.supply)) r.contents y) refl

  -- every word is below 2 ^ 16
  abbrev pub Low : List ℕ → Type 0
  Low ws = (i : ℕ) → get_or ws i 0 < 2 ^ 16

  low-append : (us ws : List ℕ) → Low us → Low ws → Low (us ++ ws)
  low-append [] ws f g i = g i
  low-append (u ∷ us) ws f g zero = f 0
  low-append (u ∷ us) ws f g (suc i) = low-append us ws (λ k. f (suc k)) g i

  low-loads : (m : Contents) (f : ℕ → ℕ) (js : List ℕ) → Low (map (λ j. load s m (f j)) js)
  unfolding load
  low-loads m f [] i = omega arith
  low-loads m f (j ∷ js) zero = subst (λ (l : ℕ). m (f j) % 2 ^ (8 * l) < 2 ^ 16) (sym two) (omega arith)
  low-loads m f (j ∷ js) (suc i) = low-loads m f js i

  pub replays-low : (xs : List Burst) (r : Run) → Low r.returned → Low (replay_bursts s xs r).returned
  unfolding replay_bursts
  replays-low [] r f = f
  replays-low (x ∷ xs) r f =
      replays-low xs (play s (2 * x.n) x r)
      (by_kind s x r (λ (q : Run). Low q.returned) f
      (low-append r.returned (map (λ j. load s r.contents (beat_cell s x j)) (count 0 (2 * x.n))) f
      (low-loads r.contents (beat_cell s x) (count 0 (2 * x.n)))))
