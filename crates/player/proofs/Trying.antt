-- The first walk: what was tried before event i, and the bursts of the events from i on decide.
use Prim.Native.Nat.{ℕ, ◌+◌, ◌-◌, ◌*◌, ◌≤◌, ◌<◌}
use mathlib.Core.Bool.{Bool, true, false, cond, not, ◌&&◌}
use mathlib.Core.List.{List, ◌∷◌}
use mathlib.Core.Option
use mathlib.Core.Option.{Option, none, some}
use mathlib.Core.Path.{◌≡◌, refl, sym, ap, ◌∙◌}
use native.Mathlib.Nat.{add-zero, sub-zero, add_assoc}
use native.Mathlib.Omega.{arith}
use borrow.Author.Tests.{le-leb, lt-leb}
use lib.Dec.{leb}
use Rattle.reading.specs.Search.{every}
use Rattle.reading.specs.Mode.{BL}
use Rattle.reading.specs.Settings.{Settings, settings_of}
use Rattle.reading.specs.Capture.{Event}
use Rattle.reading.specs.Bursts.{Burst, burst_cells}
use Rattle.reading.specs.Answers.{Answer, refused, answered, unless}
use Rattle.reading.specs.Player.{in_window, takes, playable, unplayable, event_of_burst}
use Rattle.judge.specs.Meaning.{events_in}
use Rattle.beats.specs.declared.Burst as held
use Rattle.cells.specs.Meaning.{burst_at, bursts_on, At, Listable, Clean}
use Rattle.cells.proofs.Walked.{rest, rest-begins, rest-ends}
use Rattle.player.specs.Playing.{cells_of, words_read, tried}
use Rattle.player.proofs.Given.{Found, next-none, next-some, event-is, kept-are}

-- ---- one burst

module _ (s : Settings) (es : List Event) (first size left read : ℕ) (x : Burst) (xs : List Burst) where
  -- the words behind it
  abbrev more : ℕ
  more = cond (not x.writes) (2 * x.n) 0

  tried-on : playable s first size left x ≡ true → tried s es first size left read (x ∷ xs) ≡ tried s es first size (left - takes x) (read + more) xs
  unfolding tried unplayable
  tried-on e =
      let sum : read + (more + words_read xs) ≡ read + more + words_read xs = sym (add_assoc read more (words_read xs)) in
      λ i. unless 15 (Option.map (event_of_burst es) (cond (e i) (unplayable s first size (left - takes x) xs) (some x))) (answered (sum i))

  tried-stops : playable s first size left x ≡ false → tried s es first size left read (x ∷ xs) ≡ refused 15 (event_of_burst es x)
  unfolding tried unplayable
  tried-stops e =
      ap (λ (v : Bool). unless 15 (Option.map (event_of_burst es) (cond v (unplayable s first size (left - takes x) xs) (some x))) (answered (read + words_read (x ∷ xs)))) e

  module _ {v : Bool} (e : x.writes ≡ v) where
    takes-so : takes x ≡ cond v (BL x.mode) 0
    takes-so = ap (λ (w : Bool). cond w (BL x.mode) 0) e

    more-so : more ≡ cond (not v) (2 * x.n) 0
    more-so = ap (λ (w : Bool). cond (not w) (2 * x.n) 0) e

  module _ {v : Bool} (h : every (in_window first size) (burst_cells s x) ≡ v) where
    playable-so : {w : Bool} → leb (takes x) left ≡ w → playable s first size left x ≡ (v && w)
    playable-so g = λ i. h i && g i

module _ (settings bytes : List ℕ) (n first size supply : ℕ) where
  abbrev s : Settings
  s = settings_of settings

  abbrev es : List Event
  es = events_in bytes n

  abbrev whole : Answer ℕ
  whole = tried s es first size supply 0 (bursts_on s bytes n)

  pub record Trying (firsts : List ℕ) (mode left read i : ℕ) : Type 0 where
    pub at : At s bytes i firsts mode
    pub within : i ≤ n
    pub small : read ≤ 128 * i
    pub same : tried s es first size left read (rest settings bytes n i) ≡ whole

  module _ (z : Listable settings bytes n) (k : Clean s bytes n) where
    pub begins : {firsts : List ℕ} {mode : ℕ} → At s bytes 0 firsts mode → Trying firsts mode supply 0 0
    begins a =
        record {
          at = a;
          within = omega arith;
          small = omega arith;
          same = ap (tried s es first size supply 0) (sym (rest-begins settings bytes n z k));
        }

    module _ {firsts : List ℕ} {mode left read i : ℕ} (b : Trying firsts mode left read i) (l : i < n) where
      -- an event that gives no burst
      pub passes : {firsts' : List ℕ} {mode' : ℕ} → burst_at s bytes n i ≡ none → At s bytes (i + 1) firsts' mode' → Trying firsts' mode' left read (i + 1)
      passes e a =
          record {
            at = a;
            within = omega arith;
            small = omega (arith, b.small);
            same = ap (tried s es first size left read) (sym (next-none settings bytes n i z k l e)) ∙ b.same;
          }

      -- one that does
      module _ {y : held.Burst} (f : Found settings bytes n i y) where
        abbrev x : Burst
        x = f.burst

        abbrev xs : List Burst
        xs = rest settings bytes n (i + 1)

        from-here : tried s es first size left read (x ∷ xs) ≡ whole
        from-here = ap (tried s es first size left read) (sym (next-some settings bytes n i z k l f)) ∙ b.same

        stops : playable s first size left x ≡ false → refused 15 i ≡ whole
        stops e = ap (refused 15) (sym (event-is settings bytes n i z k l f)) ∙ sym (tried-stops s es first size left read x xs e) ∙ from-here

        module _ {v : Bool} (h : v ≡ every (in_window first size) (cells_of y)) where
          inside : every (in_window first size) (burst_cells s x) ≡ v
          inside = ap (every (in_window first size)) (sym (kept-are settings bytes n i z k l f)) ∙ sym h

          pub outside : v ≡ false → refused 15 i ≡ whole
          outside e = stops (playable-so s es first size left read x xs (inside ∙ e) refl)

          pub reads_on : v ≡ true → y.writes ≡ false → {beats : ℕ} → beats ≡ 2 * y.pairs → {firsts' : List ℕ} {mode' : ℕ} →
              At s bytes (i + 1) firsts' mode' → Trying firsts' mode' left (read + beats) (i + 1)
          reads_on e w {beats} c a =
              let kind : x.writes ≡ false = sym f.kind ∙ w in
              let none-taken = takes-so s es first size left read x xs kind in
              let can = playable-so s es first size left read x xs (inside ∙ e) (ap (λ (t : ℕ). leb t left) none-taken ∙ le-leb 0 left (omega arith)) in
              let lefts : left ≡ left - takes x = sym (ap (λ (t : ℕ). left - t) none-taken ∙ sub-zero left) in
              let beats-are : beats ≡ more s es first size left read x xs =
              c ∙ ap (λ (p : ℕ). 2 * p) f.pairs_is ∙ sym (more-so s es first size left read x xs kind) in
              record {
                at = a;
                within = omega arith;
                small = omega (arith, b.small, c, y.in_row.short);
                same = (λ u. tried s es first size (lefts u) (read + beats-are u) xs) ∙ sym (tried-on s es first size left read x xs can) ∙ from-here;
              }

          module _ (w : y.writes ≡ true) {length : ℕ} (c : length ≡ BL y.mode) where
            kind : x.writes ≡ true
            kind = sym f.kind ∙ w

            all-taken : takes x ≡ length
            all-taken = takes-so s es first size left read x xs kind ∙ ap BL (sym (f.moded)) ∙ sym c

            pub lacks : v ≡ true → left < length → refused 15 i ≡ whole
            lacks e m = stops (playable-so s es first size left read x xs (inside ∙ e) (ap (λ (t : ℕ). leb t left) all-taken ∙ lt-leb length left m))

            pub takes-on : v ≡ true → length ≤ left → {firsts' : List ℕ} {mode' : ℕ} → At s bytes (i + 1) firsts' mode' →
                Trying firsts' mode' (left - length) read (i + 1)
            takes-on e m a =
                let can = playable-so s es first size left read x xs (inside ∙ e) (ap (λ (t : ℕ). leb t left) all-taken ∙ le-leb length left m) in
                let none_read : read ≡ read + more s es first size left read x xs =
                sym (ap (λ (t : ℕ). read + t) (more-so s es first size left read x xs kind) ∙ add-zero read) in
                record {
                  at = a;
                  within = omega arith;
                  small = omega (arith, b.small);
                  same =
                      (λ u. tried s es first size (left - sym all-taken u) (none_read u) xs) ∙ sym (tried-on s es first size left read x xs can) ∙ from-here;
                }

  pub ends : {firsts : List ℕ} {mode left read i : ℕ} → Trying firsts mode left read i → n ≤ i → answered read ≡ whole
  unfolding tried unplayable
  ends {left = left} {read = read} {i = i} b l =
      ap answered (sym (add-zero read)) ∙ ap (tried s es first size left read) (sym (rest-ends settings bytes n i l)) ∙ b.same
