-- Events that are looked at without a branch: low pins, cycles that rise, and a last cycle that is not too large.
use Prim.Native.Nat.{ℕ, zero, suc, ◌+◌, ◌-◌, ◌≤◌, ◌<◌}
use mathlib.Core.Bool.{Bool, true, ◌&&◌, ◌||◌}
use mathlib.Core.List.{List}
use mathlib.Core.Option.{none}
use mathlib.Core.Path.{◌≡◌, refl, sym, ◌∙◌}
use native.Mathlib.Decide.{dec_lt}
use native.Mathlib.Nat.{add-zero, add-suc}
use native.Mathlib.Omega.{arith}
use borrow.Author.Tests.{leb-true, ltb-true, lt-ltb, le-leb, ne_eqb}
use lib.Dec.{leb, ltb, eqb}
use Rattle.reading.specs.Capture.{event_at, last_cycle, event_fits, bad_event}
use Rattle.reading.proofs.Laws.{both}
use Rattle.words.proofs.Search.{nothing-below}

module _ (limit : ℕ) (bytes : List ℕ) (n : ℕ) where
  -- events 0 to i - 1 were looked at
  pub record Looked (fine : Bool) (last i : ℕ) : Type 0 where
    pub within : i ≤ n
    pub begun : 0 < i
    pub latest : last ≡ (event_at bytes (i - 1)).cycle
    pub low : fine ≡ true → (j : ℕ) → j < i → (event_at bytes j).pins < limit
    pub rise : fine ≡ true → (j : ℕ) → 0 < j → j < i → (event_at bytes (j - 1)).cycle < (event_at bytes j).cycle

  pub begins : 0 < n → {pins last : ℕ} → pins ≡ (event_at bytes 0).pins → last ≡ (event_at bytes 0).cycle → Looked (ltb pins limit) last 1
  begins l {pins} {last} p c =
      record {
        within = omega arith;
        begun = omega arith;
        latest = c;
        low = λ e j k. let z : j ≡ 0 = omega arith in rw (z, ← p) (ltb-true pins limit e);
        rise = λ e j a b. absurd (omega arith);
      }

  pub goes_on : {fine new-one fine' : Bool} {last i cycle pins : ℕ} → Looked fine last i → i < n →
      cycle ≡ (event_at bytes i).cycle → pins ≡ (event_at bytes i).pins → new-one ≡ (ltb last cycle && ltb pins limit) → fine' ≡ (fine && new-one) → Looked fine' cycle (i + 1)
  goes_on {fine} {new-one} {fine'} {last} {i} {cycle} {pins} b l c p g f =
      record {
        within = omega arith;
        begun = omega arith;
        latest = let z : i + 1 - 1 ≡ i = omega arith in rw z c;
        low = λ e j k. new-low e j (dec_lt j i) k;
        rise = λ e j a k. new-rise e j (dec_lt j i) a k;
      }
    where
      old : fine' ≡ true → fine ≡ true
      old e = (both fine _ (sym f ∙ e)).0

      new : fine' ≡ true → (ltb last cycle ≡ true) × (ltb pins limit ≡ true)
      new e = both (ltb last cycle) _ (sym g ∙ (both fine _ (sym f ∙ e)).1)

      new-low : fine' ≡ true → (j : ℕ) → Dec (j < i) → j < i + 1 → (event_at bytes j).pins < limit
      new-low e j (yes k) m = b.low (old e) j k
      new-low e j (no k) m = let z : j ≡ i = omega arith in rw (z, ← p) (ltb-true pins limit (new e).1)

      new-rise : fine' ≡ true → (j : ℕ) → Dec (j < i) → 0 < j → j < i + 1 → (event_at bytes (j - 1)).cycle < (event_at bytes j).cycle
      new-rise e j (yes k) a m = b.rise (old e) j a k
      new-rise e j (no k) a m = let z : j ≡ i = omega arith in rw (z, ← c, ← b.latest) (ltb-true last cycle (new e).0)

  -- the last cycle is the largest
  module _ {fine : Bool} {last i : ℕ} (b : Looked fine last i) (e : fine ≡ true) where
    climbs : (j k : ℕ) → j + k < i → (event_at bytes j).cycle ≤ (event_at bytes (j + k)).cycle
    climbs j zero l = let z : j + 0 ≡ j = add-zero j in rw z (omega arith)
    climbs j (suc k) l =
        let z : j + suc k - 1 ≡ j + k = omega (arith, add-suc j k) in
        let up : (event_at bytes (j + suc k - 1)).cycle < (event_at bytes (j + suc k)).cycle = b.rise e (j + suc k) (omega (arith, add-suc j k)) l in
        omega (arith, climbs j k (omega (arith, add-suc j k)), rw z at up)

    below_last : (j : ℕ) → j < i → (event_at bytes j).cycle ≤ last
    below_last j l =
        let z : j + (i - 1 - j) ≡ i - 1 = omega arith in
        rw (b.latest, ← z) (climbs j (i - 1 - j) (omega arith))

    fits : last ≤ last_cycle → (j : ℕ) → j < i → event_fits limit bytes j ≡ true
    unfolding event_fits
    fits m j l =
        rw (lt-ltb (event_at bytes j).pins limit (b.low e j l), le-leb (event_at bytes j).cycle last_cycle (omega (arith, below_last j l))) (above j l)
      where
        above : (j : ℕ) → j < i → (eqb j 0 || ltb (event_at bytes (j - 1)).cycle (event_at bytes j).cycle) ≡ true
        above zero l = refl
        above (suc j) l =
            rw (ne_eqb (suc j) 0 (λ q. omega arith))
            (lt-ltb (event_at bytes (suc j - 1)).cycle (event_at bytes (suc j)).cycle (b.rise e (suc j) (omega arith) l))

  pub ends : {fine r : Bool} {last i : ℕ} → Looked fine last i → n ≤ i → r ≡ (fine && leb last last_cycle) → r ≡ true → bad_event limit bytes n ≡ none
  unfolding bad_event
  ends {fine} {r} {last} {i} b l f e =
      let told = both fine (leb last last_cycle) (sym f ∙ e) in
      nothing-below _ n (λ j k. rw (fits b told.0 (leb-true last last_cycle told.1) j (omega arith)))

  pub no-events : n ≡ 0 → bad_event limit bytes n ≡ none
  unfolding bad_event
  no-events z = rw z
