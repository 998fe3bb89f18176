-- What was counted is how many openings each bank has.
use Prim.Native.Nat.{ℕ, zero, suc, ◌+◌, ◌-◌, ◌≤◌, ◌<◌, ◌^◌}
use mathlib.Core.Bool.{Bool, true, false, cond, ◌&&◌}
use mathlib.Core.List.{List, [], ◌∷◌, map}
use mathlib.Core.Path.{◌≡◌, refl, ap, ◌∙◌, sym, subst}
use native.Mathlib.Nat.{zero-add}
use native.Mathlib.Decide.{dec_lt}
use native.Mathlib.Omega.{arith}
use borrow.Author.Tests.{eqb-true, eqb-false}
use lib.Dec.{eqb}
use lib.ListN.{length, get_or, set, take, length-set}
use lib.Seq.{get_or-set_same, get_or-set_other}
use Rattle.reading.specs.Search.{count}
use Rattle.reading.specs.Settings.{Settings}
use Rattle.reading.specs.Capture.{Event, event_count, event_bytes, event_at}
use Rattle.reading.specs.Commands.{command_of}
use Rattle.reading.specs.Part.{Part, start, step}
use Rattle.reading.specs.Openings.{opens, openings_from, openings_of, last_open}
use Rattle.pins.specs.Pins.{code_of, bank_of}
use Rattle.std.specs.Prelude.{Some, None}
use Rattle.std.specs.Prelude as std
use Rattle.browser.specs.declared.Event as seen
use Rattle.browser.specs.Browsed.{seen_at, seen_from}
use Rattle.browser.proofs.Seeing.{sees-event, sees-end, none-left, one-left}
use Rattle.rows.specs.declared.Tally.{Tally}
use Rattle.rows.specs.Walks.{opens_bank, Room, Few, none_yet, noted_pins, noted_of, tallied_from, events_up_to}
use Rattle.rows.proofs.AsStood.{opens-is}

-- ---- the walk

-- behind the last there is none
pub tallies-end : (capture : List ℕ) (t : Tally) (i n : ℕ) → event_count capture ≤ i → tallied_from capture t i n ≡ t
unfolding tallied_from
tallies-end capture t i zero over = refl
tallies-end capture t i (suc n) over = rw (sees-end capture i over) (tallies-end capture t (i + 1) n (omega (arith, over)))

-- by the events that are left
abbrev pub tallied_over : Tally → List seen.Event → Tally
tallied_over t [] = t
tallied_over t (e ∷ es) = tallied_over (noted_pins t e.pins) es

module _ (capture : List ℕ) where
  abbrev left : ℕ → List seen.Event
  left i = seen_from (event_bytes capture) i (event_count capture - i)

  tallied-left : (t : Tally) (i n : ℕ) → tallied_from capture t i n ≡ tallied_over t (take n (left i))
  unfolding tallied_from
  tallied-left t i zero = refl
  tallied-left t i (suc n) = go (dec_lt i (event_count capture)) (λ u. tallied-left u (i + 1) n)
    where
      go : Dec (i < event_count capture) → ((u : Tally) → tallied_from capture u (i + 1) n ≡ tallied_over u (take n (left (i + 1)))) →
          tallied_from capture t i (suc n) ≡ tallied_over t (take (suc n) (left i))
      go (yes l) ih = rw (sees-event capture i l, one-left _ _ i (sym (sees-event capture i l))) (ih _)
      go (no f) ih =
          let over : event_count capture ≤ i = omega arith in
          tallies-end capture t i (suc n) over ∙ sym (rw (none-left _ _ i (sym (sees-end capture i over))))

-- ---- no bank has more openings than there were events

pub none-few : Few none_yet 0
none-few = record { four = refl; each = each }
  where
    each : (b : ℕ) → get_or none_yet.counts b 0 ≤ 0
    each zero = omega arith
    each (suc zero) = omega arith
    each (suc (suc zero)) = omega arith
    each (suc (suc (suc zero))) = omega arith
    each (suc (suc (suc (suc b)))) = omega arith

pub few-more : (t : Tally) (i j : ℕ) → Few t i → i ≤ j → Few t j
few-more t i j f l = record { four = f.four; each = λ b. omega (arith, f.each b, l) }

pub few-room : (t : Tally) (i n : ℕ) → Few t i → i < n → n < 2 ^ 32 → Room t
few-room t i n f small fits b = omega (arith, f.each b)

-- what is counted of bank b by one event
more-at : (l : List ℕ) (k b : ℕ) → length l ≡ 4 → k < 4 → get_or (set l k (get_or l k 0 + 1)) b 0 ≡ cond (eqb b k) (get_or l b 0 + 1) (get_or l b 0)
more-at l k b four small = go (eqb b k) refl
  where
    go : (y : Bool) → eqb b k ≡ y → get_or (set l k (get_or l k 0 + 1)) b 0 ≡ cond y (get_or l b 0 + 1) (get_or l b 0)
    go true e = rw (eqb-true b k e) (get_or-set_same l k (get_or l k 0 + 1) 0 (omega (arith, four)))
    go false e = get_or-set_other l k b (get_or l k 0 + 1) 0 (eqb-false b k e)

module _ (t : Tally) (w : ℕ) (four : length t.counts ≡ 4) where
  noted-four : length (noted_pins t w).counts ≡ 4
  noted-four = go (eqb (code_of w) 12)
    where
      go : (y : Bool) → length (cond y (record { counts = set t.counts (bank_of w) (get_or t.counts (bank_of w) 0 + 1) }) t).counts ≡ 4
      go true = length-set t.counts (bank_of w) (get_or t.counts (bank_of w) 0 + 1) ∙ four
      go false = four

  noted-at : (b : ℕ) → get_or (noted_pins t w).counts b 0 ≡ cond (opens_bank b w) (get_or t.counts b 0 + 1) (get_or t.counts b 0)
  noted-at b = go (eqb (code_of w) 12)
    where
      go : (y : Bool) → get_or (cond y (record { counts = set t.counts (bank_of w) (get_or t.counts (bank_of w) 0 + 1) }) t).counts b 0 ≡
          cond (y && eqb b (bank_of w)) (get_or t.counts b 0 + 1) (get_or t.counts b 0)
      go true = more-at t.counts (bank_of w) b four (omega arith)
      go false = refl

pub few_on : (t : Tally) (e : std.Option seen.Event) (i : ℕ) → Few t i → Few (noted_of t e) (i + 1)
few_on t None i f = record { four = f.four; each = λ b. omega (arith, f.each b) }
few_on t (Some e) i f = record { four = noted-four t e.pins f.four; each = λ b. subst (λ (k : ℕ). k ≤ i + 1) (sym (noted-at t e.pins f.four b)) (go b (opens_bank b e.pins)) }
  where
    go : (b : ℕ) (y : Bool) → cond y (get_or t.counts b 0 + 1) (get_or t.counts b 0) ≤ i + 1
    go b true = omega (arith, f.each b)
    go b false = omega (arith, f.each b)

-- with so many events left, of which m are counted on
pub record Counting (capture : List ℕ) (n : ℕ) (t : Tally) (es : List seen.Event) (m : ℕ) : Type 0 where
  pub within : m ≤ n
  pub few : Few t (n - m)
  pub rest : tallied_over t (take m es) ≡ tallied_from capture none_yet 0 n

pub counts-none : (capture : List ℕ) (n : ℕ) → Counting capture n none_yet (seen_from (event_bytes capture) 0 (event_count capture - 0)) n
counts-none capture n =
    record {
      within = omega arith;
      few = few-more none_yet 0 (n - n) none-few (omega arith);
      rest = sym (tallied-left capture none_yet 0 n);
    }

module _ {capture : List ℕ} {n m : ℕ} {t : Tally} {es : List seen.Event} (x : Counting capture n t es m) where
  pub counts-room : 0 < m → n < 2 ^ 32 → Room t
  counts-room l fits b = omega (arith, x.few.each b, x.within)

  module _ {e : seen.Event} {es' : List seen.Event} {m' : ℕ} (h : es ≡ e ∷ es') (k : m' + 1 ≡ m) where
    pub counts-on : Counting capture n (noted_pins t e.pins) es' m'
    counts-on =
        let one : n - m + 1 ≡ n - m' = omega (arith, x.within) in
        let more : m ≡ suc m' = omega arith in
        record {
          within = omega (arith, x.within);
          few = subst (Few (noted_pins t e.pins)) one (few_on t (Some e) (n - m) x.few);
          rest = (λ i. tallied_over t (take (sym more i) (sym h i))) ∙ x.rest;
        }

  pub counted : (0 < m → es ≡ []) → t ≡ tallied_from capture none_yet 0 n
  counted h = go m es h ∙ x.rest
    where
      go : (m : ℕ) (es : List seen.Event) → (0 < m → es ≡ []) → t ≡ tallied_over t (take m es)
      go zero es h = refl
      go (suc m) es h = sym (rw (h (omega arith)))

-- ---- the openings of a bank are its ACTIVEs

abbrev actives_of : ℕ → List Event → ℕ
actives_of b [] = 0
actives_of b (e ∷ es) = cond (opens_bank b e.pins) (suc (actives_of b es)) (actives_of b es)

begun-so : (s : Settings) (b : ℕ) (p : Part) (i : ℕ) (es : List Event) → length (openings_from s b p i es) ≡ actives_of b es
begun-so s b p i [] = refl
begun-so s b p i (e ∷ es) =
    go (opens (command_of e.pins) b) (begun-so s b (step s p e) (suc i) es)
    ∙ ap (λ (y : Bool). cond y (suc (actives_of b es)) (actives_of b es)) (opens-is b e.pins)
  where
    go : (y : Bool) → length (openings_from s b (step s p e) (suc i) es) ≡ actives_of b es →
        length (cond y (record { row = ((step s p e).banks b).row; first = i; last = last_open s b (step s p e) i es } ∷ openings_from s b (step s p e) (suc i) es)
        (openings_from s b (step s p e) (suc i) es)) ≡ cond y (suc (actives_of b es)) (actives_of b es)
    go true ih = ap suc ih
    go false ih = ih

-- counted before, or afterwards
moved : (y : Bool) (a c : ℕ) → cond y (a + 1) a + c ≡ a + cond y (suc c) c
moved true a c = omega arith
moved false a c = omega arith

module _ (capture : List ℕ) (b : ℕ) where
  abbrev from : ℕ → ℕ → ℕ
  from i n = actives_of b (map (event_at (event_bytes capture)) (count i n))

  tallied-at : (t : Tally) (i n : ℕ) → length t.counts ≡ 4 → i + n ≤ event_count capture →
      get_or (tallied_from capture t i n).counts b 0 ≡ get_or t.counts b 0 + from i n
  unfolding tallied_from
  tallied-at t i zero four within = omega arith
  tallied-at t i (suc n) four within =
      let w = (event_at (event_bytes capture) i).pins in
      let next : i + 1 ≡ suc i = omega arith in
      ap (λ (e : std.Option seen.Event). get_or (tallied_from capture (noted_of t e) (i + 1) n).counts b 0) (sees-event capture i (omega (arith, within)))
      ∙ (tallied-at (noted_pins t w) (i + 1) n (noted-four t w four) (omega (arith, within))
      ∙ (ap (λ (k : ℕ). k + from (i + 1) n) (noted-at t w four b)
      ∙ (ap (λ (j : ℕ). cond (opens_bank b w) (get_or t.counts b 0 + 1) (get_or t.counts b 0) + from j n) next
      ∙ moved (opens_bank b w) (get_or t.counts b 0) (from (suc i) n))))

tallied-four : (capture : List ℕ) (t : Tally) (i n : ℕ) → Few t i → Few (tallied_from capture t i n) (i + n)
unfolding tallied_from
tallied-four capture t i zero f = subst (Few t) (omega arith) f
tallied-four capture t i (suc n) f =
    subst (Few (tallied_from capture (noted_of t (seen_at capture i)) (i + 1) n)) (omega arith)
    (tallied-four capture (noted_of t (seen_at capture i)) (i + 1) n (few_on t (seen_at capture i) i f))

-- ---- of a whole capture

pub tallied-few : (capture : List ℕ) (n : ℕ) → Few (tallied_from capture none_yet 0 n) n
tallied-few capture n = subst (Few (tallied_from capture none_yet 0 n)) (omega arith) (tallied-four capture none_yet 0 n none-few)

four-of : (l : List ℕ) (f : ℕ → ℕ) → length l ≡ 4 → ((b : ℕ) → b < 4 → get_or l b 0 ≡ f b) → l ≡ map f (count 0 4)
four-of [] f e g = absurd (omega (arith, e))
four-of (a ∷ []) f e g = absurd (omega (arith, e))
four-of (a ∷ b ∷ []) f e g = absurd (omega (arith, e))
four-of (a ∷ b ∷ c ∷ []) f e g = absurd (omega (arith, e))
four-of (a ∷ b ∷ c ∷ d ∷ []) f e g =
    let w = g 0 (omega arith) in
    let x = g 1 (omega arith) in
    let y = g 2 (omega arith) in
    let z = g 3 (omega arith) in
    λ i. w i ∷ x i ∷ y i ∷ z i ∷ []
four-of (a ∷ b ∷ c ∷ d ∷ x ∷ l) f e g = absurd (omega (arith, e))

pub tallied-so : (s : Settings) (capture : List ℕ) (n : ℕ) → n ≤ event_count capture →
    (tallied_from capture none_yet 0 n).counts ≡ map (λ b. length (openings_of s (events_up_to capture n) b)) (count 0 4)
unfolding openings_of
tallied-so s capture n within = four-of (tallied_from capture none_yet 0 n).counts (λ b. length (openings_of s (events_up_to capture n) b)) (tallied-few capture n).four each
  where
    each : (b : ℕ) → b < 4 → get_or (tallied_from capture none_yet 0 n).counts b 0 ≡ length (openings_of s (events_up_to capture n) b)
    each b small =
        tallied-at capture b none_yet 0 n refl (omega (arith, within))
        ∙ (ap (λ (k : ℕ). k + actives_of b (events_up_to capture n)) (nothing b) ∙ (zero-add (actives_of b (events_up_to capture n))
        ∙ sym (begun-so s b (start s) 0 (events_up_to capture n))))
      where
        nothing : (b : ℕ) → get_or none_yet.counts b 0 ≡ 0
        nothing b = omega (arith, none-few.each b)
