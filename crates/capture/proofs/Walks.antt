-- The walks over the settings' words and over the events, a turn at a time.
use Prim.Native.Nat.{ℕ, suc, ◌+◌, ◌-◌, ◌*◌, ◌≤◌, ◌<◌}
use mathlib.Core.Bool.{Bool, true, false, cond, not, ◌&&◌, ◌||◌}
use mathlib.Core.List.{List, ◌++◌, map}
use mathlib.Core.Option.{none, some}
use mathlib.Core.Path.{◌≡◌, refl, sym, ap, subst, ◌∙◌}
use native.Mathlib.Numerals.{add-one}
use native.Mathlib.Omega.{arith}
use borrow.Author.Tests.{ne_eqb, leb-true}
use lib.ListN.{length, set, length-set, length-take, take, drop, replicate}
use lib.Seq.{sets}
use lib.Dec.{leb, ltb, eqb, leb-zero}
use Rattle.std.proofs.lemmas.List.{set-append_left, take-append-drop}
use Rattle.reading.specs.Search.{count}
use Rattle.reading.specs.Words.{word_at}
use Rattle.reading.specs.Capture.{header_word, count_in, setting_words, event_at, last_cycle, event_fits, bad_event}
use Rattle.reading.proofs.Laws.{both}
use Rattle.words.proofs.Search as search
use Rattle.words.proofs.Search.{found_from, one_less, none_left}
use Rattle.settings.specs.Meaning.{padded}
use Rattle.capture.specs.Meaning.{fits_from}

-- ---- the words of the settings: with those from i on stored, all are there

abbrev words_from : List ℕ → ℕ → List ℕ
words_from capture i = map (λ j. word_at capture (24 + 4 * j)) (count i (count_in capture - i))

pub record Loading (capture loaded : List ℕ) (i : ℕ) : Type 0 where
  pub within : i ≤ count_in capture
  pub full : length loaded ≡ 17
  pub same : sets loaded i (words_from capture i) ≡ padded (setting_words capture)

pub none-loaded : (capture : List ℕ) → Loading capture (replicate 17 0) 0
unfolding setting_words padded
none-loaded capture = record { within = omega arith; full = refl; same = go (eqb (header_word capture 1) 16) }
  where
    go : (b : Bool) →
        sets (replicate 17 0) 0 (map (λ j. word_at capture (24 + 4 * j)) (count 0 (cond b 16 14 - 0))) ≡
        padded (map (λ j. word_at capture (24 + 4 * j)) (count 0 (cond b 16 14)))
    go true = refl
    go false = refl

module _ {capture loaded : List ℕ} {i : ℕ} (s : Loading capture loaded i) where
  pub one_more : {w : ℕ} → i < count_in capture → w ≡ word_at capture (24 + 4 * i) → Loading capture (set loaded i w) (i + 1)
  one_more {w} l e =
      record {
        within = omega arith;
        full = length-set loaded i w ∙ s.full;
        same = rw (e, add-one i) (sym (rw (one_less (count_in capture) i l, add-one i)) ∙ s.same);
      }

  pub all-loaded : count_in capture ≤ i → loaded ≡ padded (setting_words capture)
  all-loaded l = sym (rw (none_left (count_in capture) i l)) ∙ s.same

-- the list is stored through its first n words, behind which it is as it was
pub record LoadingFirst (capture stated : List ℕ) (n i : ℕ) : Type 0 where
  pub many : n ≡ count_in capture
  pub long : length stated ≡ n
  pub on : Loading capture (stated ++ drop n (replicate 17 0)) i

pub first-none : {capture : List ℕ} {n : ℕ} → n ≡ count_in capture → n ≤ 17 → LoadingFirst capture (take n (replicate 17 0)) n 0
first-none {capture} {n} e l =
    record {
      many = e;
      long = simp length-take (omega arith);
      on = rw (take-append-drop {A = ℕ} n (replicate 17 0)) (none-loaded capture);
    }

module _ {capture stated : List ℕ} {n i : ℕ} (s : LoadingFirst capture stated n i) where
  pub first-more : i < n → {w : ℕ} → w ≡ word_at capture (24 + 4 * i) → LoadingFirst capture (set stated i w) n (i + 1)
  first-more l {w} e =
      record {
        many = s.many;
        long = length-set stated i w ∙ s.long;
        on =
            subst (λ (v : List ℕ). Loading capture v (i + 1))
            (set-append_left stated (drop n (replicate 17 0)) i w (omega (arith, s.long)))
            (one_more s.on (omega (arith, s.many)) e);
      }

  pub all-first : n ≤ i → stated ++ drop n (replicate 17 0) ≡ padded (setting_words capture)
  all-first l = all-loaded s.on (omega (arith, s.many))

-- ---- the events: what is found from event i on is what is found at all

-- the first cycle above that of the event before
unfoldable pub next_cycle : List ℕ → ℕ → ℕ
next_cycle bytes i = cond (eqb i 0) 0 (suc (event_at bytes (i - 1)).cycle)

above : (b : Bool) (before cycle : ℕ) → leb (cond b 0 (suc before)) cycle ≡ (b || ltb before cycle)
above true before cycle = leb-zero cycle
above false before cycle = refl

fits_next : (limit : ℕ) (bytes : List ℕ) (i : ℕ) → fits_from limit (next_cycle bytes i) (event_at bytes i).cycle (event_at bytes i).pins ≡ event_fits limit bytes i
unfolding fits_from event_fits next_cycle
fits_next limit bytes i =
    ap (λ (b : Bool). ltb (event_at bytes i).pins limit && (leb (event_at bytes i).cycle last_cycle && b))
    (above (eqb i 0) (event_at bytes (i - 1)).cycle (event_at bytes i).cycle)

next-after : (bytes : List ℕ) (i : ℕ) → next_cycle bytes (i + 1) ≡ (event_at bytes i).cycle + 1
unfolding next_cycle
next-after bytes i =
    let first : eqb (i + 1) 0 ≡ false = ne_eqb (i + 1) 0 (omega arith) in
    let e : i + 1 - 1 ≡ i = omega arith in
    rw (first, e) (sym (add-one _))

abbrev bad : ℕ → List ℕ → ℕ → Bool
bad limit bytes i = not (event_fits limit bytes i)

pub record Sought (limit : ℕ) (bytes : List ℕ) (n next i : ℕ) : Type 0 where
  pub within : i ≤ n
  pub above : next ≡ next_cycle bytes i
  pub same : found_from (bad limit bytes) n i ≡ bad_event limit bytes n

pub begins : (limit : ℕ) (bytes : List ℕ) (n : ℕ) → Sought limit bytes n 0 0
unfolding bad_event next_cycle
begins limit bytes n = record { within = omega arith; above = refl; same = search.begins (bad limit bytes) n }

module _ {limit : ℕ} {bytes : List ℕ} {n next i cycle pins : ℕ} (s : Sought limit bytes n next i) (l : i < n)
    (is-cycle : cycle ≡ (event_at bytes i).cycle) (is-pins : pins ≡ (event_at bytes i).pins) where
  told : fits_from limit next cycle pins ≡ event_fits limit bytes i
  told = rw (s.above, is-cycle, is-pins) (fits_next limit bytes i)

  pub goes_on : fits_from limit next cycle pins ≡ true → Sought limit bytes n (cycle + 1) (i + 1)
  goes_on e =
      record {
        within = omega arith;
        above = ap (λ (t : ℕ). t + 1) is-cycle ∙ sym (next-after bytes i);
        same = sym (search.goes_on (bad limit bytes) n i l (ap not (sym told ∙ e))) ∙ s.same;
      }

  pub stops : fits_from limit next cycle pins ≡ false → some i ≡ bad_event limit bytes n
  stops e = sym (search.stops (bad limit bytes) n i l (ap not (sym told ∙ e))) ∙ s.same

pub ends : {limit : ℕ} {bytes : List ℕ} {n next i : ℕ} → Sought limit bytes n next i → n ≤ i → none ≡ bad_event limit bytes n
ends {limit} {bytes} {n} {next} {i} s l = sym (search.ends (bad limit bytes) n i l) ∙ s.same

-- a cycle that fits leaves room for the next
pub room : (limit next cycle pins : ℕ) → fits_from limit next cycle pins ≡ true → cycle ≤ last_cycle
unfolding fits_from
room limit next cycle pins h =
    leb-true _ _ (both (leb cycle last_cycle) _ (both (ltb pins limit) _ h).1).0
