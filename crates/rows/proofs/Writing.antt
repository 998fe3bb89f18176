-- Standing and writing event by event: what holds before event i.
use Prim.Native.Nat.{ℕ, zero, suc, ◌+◌, ◌-◌, ◌*◌, ◌≤◌, ◌<◌}
use mathlib.Core.Bool.{Bool, true, false, cond}
use mathlib.Core.List.{List, [], ◌∷◌, ◌++◌, map, append_assoc}
use mathlib.Core.Path.{◌≡◌, refl, sym, ap, ◌∙◌, subst}
use native.Mathlib.Omega.{arith}
use lib.ListN.{length, set, length-append}
use lib.Seq.{sets, length-sets}
use Rattle.reading.specs.Search.{count}
use Rattle.reading.specs.Capture.{Event, event_at}
use Rattle.reading.specs.Openings.{Opening, opening_words}
use Rattle.words.proofs.Search.{one_less, none_left}
use Rattle.words.proofs.Runs.{sets-append}
use Rattle.pins.specs.Pins.{address_of}
use Rattle.std.specs.Prelude.{Some, None}
use Rattle.rows.specs.Walks.{Standing, idle, open_row, opens_bank, closes_bank, stood_of, stand_of, stand_after, Begun, ended, ended_by, events_among, opened_from, opened_by, opened_by_all}

-- ---- words of openings

pub words-length : (xs : List Opening) → length (opening_words xs) ≡ 3 * length xs
words-length [] = refl
words-length (x ∷ xs) = omega (arith, words-length xs)

pub words_append : (xs ys : List Opening) → opening_words (xs ++ ys) ≡ opening_words xs ++ opening_words ys
words_append [] ys = refl
words_append (x ∷ xs) ys = ap (λ (l : List ℕ). x.row ∷ x.first ∷ x.last ∷ l) (words_append xs ys)

-- written behind those that stand there
words-behind : (l : List ℕ) (from next : ℕ) (xs ys : List Opening) → next ≡ from + 3 * length xs →
    sets (sets l from (opening_words xs)) next (opening_words ys) ≡ sets l from (opening_words (xs ++ ys))
words-behind l from next xs ys e =
    ap (λ (k : ℕ). sets (sets l from (opening_words xs)) k (opening_words ys)) (e ∙ ap (λ (k : ℕ). from + k) (sym (words-length xs)))
    ∙ (sets-append l from (opening_words xs) (opening_words ys) ∙ ap (sets l from) (sym (words_append xs ys)))

pub three-words : (l : List ℕ) (next row first last : ℕ) →
    set (set (set l next row) (next + 1) first) (next + 2) last ≡ sets l next (row ∷ first ∷ last ∷ [])
three-words l next row first last =
    let one : next + 1 ≡ suc next = omega arith in
    let two : next + 2 ≡ suc (suc next) = omega arith in
    ap (λ (k : ℕ). set (set (set l next row) k first) (next + 2) last) one ∙ ap (λ (k : ℕ). set (set (set l next row) (suc next) first) k last) two

-- openings stand behind others: where the next is written, and what is then in the index
abbrev pub Appends : List ℕ → ℕ → List Opening → ℕ → List ℕ → Type 0
Appends index next xs next' index' = (next' ≡ next + 3 * length xs) × (index' ≡ sets index next (opening_words xs))

appends-none : (index : List ℕ) (next : ℕ) (xs : List Opening) → xs ≡ [] → Appends index next xs next index
appends-none index next xs e =
    (omega (arith, ap length e), sym (ap (λ (l : List Opening). sets index next (opening_words l)) e))

-- ---- an opening that ends

module _ (index : List ℕ) (next : ℕ) (x : Standing) (end : ℕ) where
  pub ends-none : x ≡ idle → Appends index next (ended x end) next index
  ends-none e = appends-none index next (ended x end) (ap (λ (y : Standing). ended y end) e)

  module _ {row first : ℕ} (e : x ≡ open_row row first) where
    pub begun-before : Begun x end → 1 ≤ end
    begun-before b = omega (arith, subst (λ (y : Standing). Begun y end) e b)

    one : ended x end ≡ record { row = row; first = first; last = end - 1 } ∷ []
    one = ap (λ (y : Standing). ended y end) e

    pub room-for-one : next + 3 * length (ended x end) ≤ length index → next + 3 ≤ length index
    room-for-one l = omega (arith, l, ap length one)

    pub ends-one : {index' : List ℕ} → index' ≡ sets index next (row ∷ first ∷ (end - 1) ∷ []) → Appends index next (ended x end) (next + 3) index'
    ends-one f = (omega (arith, ap length one), f ∙ sym (ap (λ (l : List Opening). sets index next (opening_words l)) one))

-- the same by the pins of event i
module _ (index : List ℕ) (next : ℕ) (x : Standing) (b i w : ℕ) {y : Bool} (e : y ≡ closes_bank b w) where
  pub closed_none : y ≡ false → Appends index next (ended_by b x i w) next index
  closed_none f = appends-none index next (ended_by b x i w) (ap (λ (z : Bool). cond z (ended x i) []) (sym e ∙ f))

  module _ (f : y ≡ true) where
    closed : ended x i ≡ ended_by b x i w
    closed = ap (λ (z : Bool). cond z (ended x i) []) (sym f ∙ e)

    pub closed-room : next + 3 * length (ended_by b x i w) ≤ length index → next + 3 * length (ended x i) ≤ length index
    closed-room l = subst (λ (xs : List Opening). next + 3 * length xs ≤ length index) (sym closed) l

    pub closed-one : {next' : ℕ} {index' : List ℕ} → Appends index next (ended x i) next' index' → Appends index next (ended_by b x i w) next' index'
    closed-one {next'} {index'} a = subst (λ (xs : List Opening). Appends index next xs next' index') closed a

-- ---- event by event

module _ (bytes : List ℕ) (n : ℕ) where
  -- of the first n events those from event i on
  abbrev events : ℕ → List Event
  events i = map (event_at bytes) (count i (n - i))

  all-events : events 0 ≡ events_among bytes n
  all-events = let e : n - 0 ≡ n = omega arith in ap (λ (k : ℕ). map (event_at bytes) (count 0 k)) e

  next-event : (i : ℕ) → i < n → events i ≡ event_at bytes i ∷ map (event_at bytes) (count (suc i) (n - (i + 1)))
  next-event i l = ap (λ (k : ℕ). map (event_at bytes) (count i k)) (one_less n i l)

  no-event : (i : ℕ) → n ≤ i → events i ≡ []
  no-event i l = ap (λ (k : ℕ). map (event_at bytes) (count i k)) (none_left n i l)

  from_next : {A : Type 0} (f : ℕ → List Event → A) (i : ℕ) → f (suc i) (map (event_at bytes) (count (suc i) (n - (i + 1)))) ≡ f (i + 1) (events (i + 1))
  from_next f i = let e : suc i ≡ i + 1 = omega arith in ap (λ (k : ℕ). f k (map (event_at bytes) (count k (n - (i + 1))))) e

  module _ (b : ℕ) where
    -- how the bank stands
    pub record Stood (x : Standing) (i : ℕ) : Type 0 where
      pub within : i ≤ n
      pub rest : stand_of b x i (events i) ≡ stand_after b (events_among bytes n)

    pub stood-first : Stood idle 0
    stood-first = record { within = omega arith; rest = ap (stand_of b idle 0) all-events }

    pub stood_on : {x x' : Standing} {i w : ℕ} → Stood x i → i < n → w ≡ (event_at bytes i).pins → x' ≡ stood_of b x i w → Stood x' (i + 1)
    stood_on {x} {x'} {i} {w} s l e f =
        record {
          within = omega (arith, l);
          rest =
              ap (λ (y : Standing). stand_of b y (i + 1) (events (i + 1))) (f ∙ ap (stood_of b x i) e)
              ∙ (sym (from_next (stand_of b (stood_of b x i (event_at bytes i).pins)) i)
              ∙ (sym (ap (stand_of b x i) (next-event i l)) ∙ s.rest));
        }

    pub stood-last : {x : Standing} {i : ℕ} → Stood x i → n ≤ i → x ≡ stand_after b (events_among bytes n)
    stood-last {x} {i} s l = sym (ap (stand_of b x i) (no-event i l)) ∙ s.rest

    -- what is written
    module _ (old : List ℕ) (from : ℕ) where
      pub record Written (index : List ℕ) (x : Standing) (next i : ℕ) : Type 0 where
        pub within : i ≤ n
        pub begun : Begun x i
        pub done : List Opening
        pub place : next ≡ from + 3 * length done
        pub holds : index ≡ sets old from (opening_words done)
        pub total : opened_by b (events_among bytes n) ≡ done ++ opened_from b x i (events i)

      pub written-first : Written old idle from 0
      unfolding opened_by
      written-first =
          record {
            within = omega arith;
            begun = tt;
            done = [];
            place = omega arith;
            holds = refl;
            total = ap (opened_from b idle 0) (sym all-events);
          }

      pub size : {index : List ℕ} {x : Standing} {next i : ℕ} → Written index x next i → length index ≡ length old
      size w = ap length w.holds ∙ length-sets old from (opening_words w.done)

      stood-begun : (x : Standing) (i w : ℕ) → Begun x i → Begun (stood_of b x i w) (i + 1)
      stood-begun x i w g = go (opens_bank b w) (closes_bank b w) x g
        where
          later : (x : Standing) → Begun x i → Begun x (i + 1)
          later None h = tt
          later (Some y) h = omega (arith, h)

          go : (y z : Bool) (x : Standing) → Begun x i → Begun (cond y (open_row (address_of w) i) (cond z idle x)) (i + 1)
          go true z x h = omega arith
          go false true x h = tt
          go false false x h = later x h

      module _ {index : List ℕ} {x : Standing} {next i w : ℕ} (z : Written index x next i) (l : i < n) (e : w ≡ (event_at bytes i).pins) where
        abbrev now-ended : List Opening
        now-ended = ended_by b x i w

        split : opened_by b (events_among bytes n) ≡ z.done ++ now-ended ++ opened_from b (stood_of b x i w) (i + 1) (events (i + 1))
        split =
            z.total
            ∙ (ap (λ (es : List Event). z.done ++ opened_from b x i es) (next-event i l)
            ∙ (ap (λ (k : ℕ). z.done ++ (ended_by b x i k ++ opened_from b (stood_of b x i k) (suc i) behind)) (sym e)
            ∙ (ap (λ (os : List Opening). z.done ++ (now-ended ++ os)) (from_next (opened_from b (stood_of b x i w)) i)
            ∙ sym (append_assoc z.done now-ended _))))
          where
            behind : List Event
            behind = map (event_at bytes) (count (suc i) (n - (i + 1)))

        pub room : from + 3 * length (opened_by b (events_among bytes n)) ≤ length old → next + 3 * length now-ended ≤ length index
        room f =
            let whole = ap length split ∙ length-append (z.done ++ now-ended) _ in
            omega (arith, f, whole, length-append z.done now-ended, size z, z.place)

        pub written_on : {index' : List ℕ} {x' : Standing} {next' : ℕ} → Appends index next now-ended next' index' → x' ≡ stood_of b x i w →
            Written index' x' next' (i + 1)
        written_on {index'} {x'} {next'} a f =
            record {
              within = omega (arith, l);
              begun = subst (λ (y : Standing). Begun y (i + 1)) (sym f) (stood-begun x i w z.begun);
              done = z.done ++ now-ended;
              place = omega (arith, a.0, z.place, length-append z.done now-ended);
              holds =
                  a.1
                  ∙ (ap (λ (l : List ℕ). sets l next (opening_words now-ended)) z.holds ∙ words-behind old from next z.done now-ended z.place);
              total = split ∙ ap (λ (y : Standing). z.done ++ now-ended ++ opened_from b y (i + 1) (events (i + 1))) (sym f);
            }

      module _ {index : List ℕ} {x : Standing} {next i : ℕ} (z : Written index x next i) (l : n ≤ i) where
        pub at-end : i ≡ n
        at-end = omega (arith, l, z.within)

        all_done : opened_by b (events_among bytes n) ≡ z.done ++ ended x n
        all_done = z.total ∙ (ap (λ (es : List Event). z.done ++ opened_from b x i es) (no-event i l) ∙ ap (λ (k : ℕ). z.done ++ ended x k) at-end)

        pub last-begun : Begun x n
        last-begun = subst (Begun x) at-end z.begun

        pub last-room : from + 3 * length (opened_by b (events_among bytes n)) ≤ length old → next + 3 * length (ended x n) ≤ length index
        last-room f = omega (arith, f, ap length all_done ∙ length-append z.done (ended x n), size z, z.place)

        pub written_last : {index' : List ℕ} {next' : ℕ} → Appends index next (ended x n) next' index' →
            Appends old from (opened_by b (events_among bytes n)) next' index'
        written_last {index'} {next'} a = (
          omega (arith, a.0, z.place, ap length all_done ∙ length-append z.done (ended x n)),
          a.1
              ∙ (ap (λ (l : List ℕ). sets l next (opening_words (ended x n))) z.holds
              ∙ (words-behind old from next z.done (ended x n) z.place ∙ ap (λ (xs : List Opening). sets old from (opening_words xs)) (sym all_done))),
        )

-- ---- bank by bank

pub appends-size : (index : List ℕ) (next : ℕ) (xs : List Opening) {next' : ℕ} {index' : List ℕ} → Appends index next xs next' index' →
    length index' ≡ length index
appends-size index next xs a = ap length a.1 ∙ length-sets index next (opening_words xs)

-- the openings of one bank more
appends-more : (old : List ℕ) (xs ys : List Opening) {next next' : ℕ} {index index' : List ℕ} → Appends old 0 xs next index → Appends index next ys next' index' →
    Appends old 0 (xs ++ ys) next' index'
appends-more old xs ys {next} a b = (
  omega (arith, a.0, b.0, length-append xs ys),
  b.1 ∙ (ap (λ (l : List ℕ). sets l next (opening_words ys)) a.1 ∙ words-behind old 0 next xs ys a.0),
)

-- the banks below bank k
abbrev pub opened_below : List Event → ℕ → List Opening
opened_below es zero = []
opened_below es (suc k) = opened_below es k ++ opened_by k es

pub all-four : (es : List Event) → opened_below es 4 ≡ opened_by_all es
unfolding opened_by_all
all-four es = refl

-- bank k's have room behind theirs
pub room-below : (es : List Event) (k : ℕ) → k < 4 → length (opened_below es k) + length (opened_by k es) ≤ length (opened_by_all es)
room-below es k l = go k l
  where
    more : (j : ℕ) → length (opened_below es (suc j)) ≡ length (opened_below es j) + length (opened_by j es)
    more j = length-append (opened_below es j) (opened_by j es)

    all : length (opened_by_all es) ≡ length (opened_below es 3) + length (opened_by 3 es)
    all = sym (ap length (all-four es)) ∙ more 3

    go : (k : ℕ) → k < 4 → length (opened_below es k) + length (opened_by k es) ≤ length (opened_by_all es)
    go zero l = omega (arith, all, more 0, more 1, more 2)
    go (suc zero) l = omega (arith, all, more 1, more 2)
    go (suc (suc zero)) l = omega (arith, all, more 2)
    go (suc (suc (suc zero))) l = omega (arith, all)
    go (suc (suc (suc (suc k)))) l = absurd (omega arith)

-- those of the banks below bank k are written
pub record Banked (es : List Event) (old index : List ℕ) (next k : ℕ) : Type 0 where
  pub within : k ≤ 4
  pub appended : Appends old 0 (opened_below es k) next index

pub banked-none : (es : List Event) (old : List ℕ) → Banked es old old 0 0
banked-none es old = record { within = omega arith; appended = appends-none old 0 [] refl }

module _ {es : List Event} {old index : List ℕ} {next k : ℕ} (x : Banked es old index next k) where
  pub banked-size : length index ≡ length old
  banked-size = appends-size old 0 (opened_below es k) x.appended

  pub banked-room : k < 4 → 3 * length (opened_by_all es) ≤ length old → next + 3 * length (opened_by k es) ≤ length index
  banked-room l room = omega (arith, room, x.appended.0, banked-size, room-below es k l)

  pub banked-more : k < 4 → {next' : ℕ} {index' : List ℕ} → Appends index next (opened_by k es) next' index' → Banked es old index' next' (k + 1)
  banked-more l {next'} {index'} a =
      let one : suc k ≡ k + 1 = omega arith in
      record {
        within = omega arith;
        appended = subst (λ (j : ℕ). Appends old 0 (opened_below es j) next' index') one (appends-more old (opened_below es k) (opened_by k es) x.appended a);
      }

  pub banked-all : 4 ≤ k → index ≡ sets old 0 (opening_words (opened_by_all es))
  banked-all l =
      let four : k ≡ 4 = omega (arith, x.within) in
      x.appended.1 ∙ ap (λ (j : ℕ). sets old 0 (opening_words (opened_below es j))) four ∙ ap (λ (xs : List Opening). sets old 0 (opening_words xs)) (all-four es)
