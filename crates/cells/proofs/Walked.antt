-- A walk over the events of a clean capture: what is known before event i, and the bursts of the events from i on.
use Prim.Native.Nat.{ℕ, zero, suc, ◌+◌, ◌*◌, ◌≤◌, ◌<◌}
use mathlib.Core.Bool.{Bool, true, false, cond}
use mathlib.Core.List.{List, [], ◌∷◌, ◌++◌, map}
use mathlib.Core.Option
use mathlib.Core.Option.{Option, none, some}
use mathlib.Core.Path.{◌≡◌, refl, sym, ap, ◌∙◌, subst}
use native.Mathlib.Nat.{zero-add, sub-zero}
use native.Mathlib.Numerals.{add-one}
use native.Mathlib.Omega.{arith}
use borrow.Author.Tests.{eq-eqb, ne_eqb}
use lib.Dec.{eqb}
use lib.ListN.{get_or}
use Rattle.reading.specs.Search.{find, count}
use Rattle.reading.specs.Mode.{h}
use Rattle.reading.specs.Settings.{Settings, settings_of}
use Rattle.reading.specs.Capture.{Event, event_at}
use Rattle.reading.specs.Bursts.{Burst, column_of}
use Rattle.reading.specs.Part.{Part, step}
use Rattle.reading.specs.Cells.{bursts_of, cells_of}
use Rattle.capture.proofs.Accepted.{cycles-rise}
use Rattle.pins.specs.Pins.{bank_of, address_of, mode_after, gives}
use Rattle.pins.proofs.Commands.{write-is}
use Rattle.judge.specs.Meaning.{part_at}
use Rattle.judge.proofs.Events.{part-next}
use Rattle.beats.specs.Kept.{events_from, kept_of}
use Rattle.beats.specs.Rows.{InRow, first_in_row}
use Rattle.beats.proofs.Events.{next-event, no-event, events-rise, rise-behind}
use Rattle.capture.proofs.Rising.{Rises}
use Rattle.beats.proofs.Looking.{kept-le, kept_half}
use Rattle.beats.proofs.Ahead.{burst_left, event_bursts, bursts_from, bursts-ahead, event_cells, cells_from, cells-ahead}
use Rattle.cells.specs.Meaning.{told_of, told_by, given_by, Listable, Clean, bursts_on, burst_at, At, mode_at, cells_on}
use Rattle.cells.proofs.Alone.{fitting, each-alone}
use Rattle.cells.proofs.Rows.{first-at, none-opened, mode-stays, mode-next, rows_next, row_at}

-- a burst, if there is one
abbrev pub listed : Option Burst → List Burst
listed none = []
listed (some x) = x ∷ []

module _ (settings bytes : List ℕ) (n : ℕ) where
  abbrev s : Settings
  s = settings_of settings

  abbrev p : ℕ → Part
  p i = part_at s bytes i

  abbrev e : ℕ → Event
  e i = event_at bytes i

  -- the events behind event i
  abbrev later : ℕ → List Event
  later i = events_from bytes n (i + 1)

  -- the mode word, and how many cells were counted or written so far
  pub record Walked (mode cells i : ℕ) : Type 0 where
    pub moded : mode ≡ mode_at s bytes i
    pub within : i ≤ n
    pub small : cells ≤ 128 * i

  pub begins : Walked s.mode 0 0
  begins = record { moded = refl; within = omega arith; small = omega arith }

  pub walks-on : {mode cells i pins pairs next more : ℕ} → Walked mode cells i → i < n → pins ≡ (e i).pins → pairs ≡ kept_of s mode (e i) (later i) →
      next ≡ mode_after mode pins → more ≤ 2 * pairs → Walked next (cells + more) (i + 1)
  walks-on {mode} {i = i} w l ew ep em m =
      record {
        moded = mode-next s bytes i ew w.moded em;
        within = omega arith;
        small = omega (arith, w.small, ep, kept-le s mode (e i) (later i));
      }

  -- ---- the bursts of the events from i on

  abbrev pub rest : ℕ → List Burst
  rest i = bursts_from s (p i) (events_from bytes n i)

  pub rest-next : (i : ℕ) → i < n → rest i ≡ event_bursts s (p i) (e i) (later i) ++ rest (i + 1)
  rest-next i l =
      ap (bursts_from s (p i)) (next-event bytes n i l)
      ∙ ap (λ (q : Part). event_bursts s (p i) (e i) (later i) ++ bursts_from s q (later i)) (sym (part-next s bytes i))

  pub rest-ends : (i : ℕ) → n ≤ i → rest i ≡ []
  rest-ends i l = ap (bursts_from s (p i)) (no-event bytes n i l)

  -- and their cells
  pub next-cells : (i : ℕ) → i < n → cells_from s (p i) (events_from bytes n i) ≡ event_cells s (p i) (e i) (later i) ++ cells_from s (p (i + 1)) (later i)
  next-cells i l =
      ap (cells_from s (p i)) (next-event bytes n i l)
      ∙ ap (λ (q : Part). event_cells s (p i) (e i) (later i) ++ cells_from s q (later i)) (sym (part-next s bytes i))

  module _ (z : Listable settings bytes n) (k : Clean s bytes n) where
    rises : Rises 0 (events_from bytes n 0)
    rises = events-rise bytes n (fitting settings bytes n z)

    pub rest-begins : bursts_on s bytes n ≡ rest 0
    rest-begins =
        ap (λ (m : ℕ). bursts_of s (map e (count 0 m))) (sym (sub-zero n))
        ∙ bursts-ahead s (events_from bytes n 0) rises (each-alone settings bytes n z k)

    pub all-cells : cells_on s bytes n ≡ cells_from s (p 0) (events_from bytes n 0)
    unfolding cells_on
    all-cells =
        ap (λ (m : ℕ). cells_of s (bursts_of s (map e (count 0 m)))) (sym (sub-zero n))
        ∙ cells-ahead s (events_from bytes n 0) rises (each-alone settings bytes n z k)

    -- ---- the burst of event i, by its cycle

    module _ (i : ℕ) (l : i < n) where
      abbrev that : Burst → Bool
      that x = eqb x.k (e i).cycle

      -- another event gives another one
      other : (q : Part) (a : Event) (es : List Event) (xs : List Burst) → eqb a.cycle (e i).cycle ≡ false →
          find that (event_bursts s q a es ++ xs) ≡ find that xs
      other q a es xs f = go (gives a.pins)
        where
          go : (v : Bool) → find that (cond v (burst_left s q a es ∷ []) [] ++ xs) ≡ find that xs
          go true = rw f
          go false = refl

      none-behind : (q : Part) (from : ℕ) (es : List Event) → (e i).cycle < from → Rises from es → find that (bursts_from s q es) ≡ none
      none-behind q from [] m r = refl
      none-behind q from (a ∷ es) m r =
          other q a es (bursts_from s (step s q a) es) (ne_eqb a.cycle (e i).cycle (λ f. omega (arith, r.0)))
          ∙ none-behind (step s q a) (suc a.cycle) es (omega (arith, r.0)) r.1

      from-there : (j : ℕ) → j ≤ i → burst_at s bytes n i ≡ find that (rest j)
      unfolding burst_at
      from-there zero m = ap (find that) rest-begins
      from-there (suc j) m =
          from-there j (omega arith) ∙ ap (find that) (rest-next j (omega arith))
          ∙ other (p j) (e j) (later j) (rest (j + 1))
          (ne_eqb (e j).cycle (e i).cycle (λ f. omega (arith, cycles-rise bytes n z.fit.events j i (omega arith) l)))
          ∙ ap (λ (m : ℕ). find that (rest m)) (add-one j)

      pub burst-found : burst_at s bytes n i ≡ cond (gives (e i).pins) (some (burst_left s (p i) (e i) (later i))) none
      burst-found = from-there i (omega arith) ∙ ap (find that) (rest-next i l) ∙ go (gives (e i).pins)
        where
          go : (v : Bool) → find that (cond v (burst_left s (p i) (e i) (later i) ∷ []) [] ++ rest (i + 1)) ≡ cond v (some (burst_left s (p i) (e i) (later i))) none
          go true = rw (eq-eqb (e i).cycle (e i).cycle refl)
          go false = none-behind (p (i + 1)) (suc (e i).cycle) (later i) (omega arith) (rise-behind bytes n (fitting settings bytes n z) i l)

      -- what is told of it
      pub given_is : {firsts : List ℕ} {mode : ℕ} → At s bytes i firsts mode → given_by s bytes n i firsts mode ≡ Option.map (told_of s) (burst_at s bytes n i)
      unfolding given_by
      given_is {firsts} {mode} a = go (gives (e i).pins) ∙ ap (Option.map (told_of s)) (sym burst-found)
        where
          row : get_or firsts (bank_of (e i).pins) 0 ≡ first_in_row s (bank_of (e i).pins) ((p i).banks (bank_of (e i).pins)).row
          row = ap (λ (xs : List ℕ). get_or xs (bank_of (e i).pins) 0) a.rowed ∙ first-at s (p i) (bank_of (e i).pins) (omega arith)

          same : told_by s bytes n i firsts mode ≡ told_of s (burst_left s (p i) (e i) (later i))
          same =
              λ u.
              record {
                writes = sym (write-is (e i).pins) u;
                first = row u;
                mode = a.moded u;
                column = column_of s (address_of (e i).pins);
                pairs = kept_of s (a.moded u) (e i) (later i);
              }

          go : (v : Bool) → cond v (some (told_by s bytes n i firsts mode)) none ≡ Option.map (told_of s) (cond v (some (burst_left s (p i) (e i) (later i))) none)
          go true = ap some same
          go false = refl

      -- its mode word is that of then, it keeps no more than all its pairs, and its cells are in a row of the part
      pub record Placed (x : Burst) : Type 0 where
        pub moded : x.mode ≡ mode_at s bytes i
        pub given : x.k ≡ (e i).cycle
        pub kept : x.n ≤ h x.mode
        pub in_row : InRow (first_in_row s x.bank x.row) x.column x.n

      pub placed : {x : Burst} → burst_at s bytes n i ≡ some x → Placed x
      placed {x} f = go (gives (e i).pins) (sym f ∙ burst-found)
        where
          here : Placed (burst_left s (p i) (e i) (later i))
          here =
              record {
                moded = refl;
                given = refl;
                kept = kept_half s (p i).mode (e i) (later i);
                in_row = row_at s bytes z.sized i _ (address_of (e i).pins) (omega arith) (kept-le s (p i).mode (e i) (later i));
              }

          go : (v : Bool) → some x ≡ cond v (some (burst_left s (p i) (e i) (later i))) none → Placed x
          go true q = let same : burst_left s (p i) (e i) (later i) ≡ x = cc in subst Placed same here
          go false q = let zero_one : ◌≡◌ {A = ℕ} 0 1 = cc in absurd (omega arith)

      -- first cells and mode word stay behind it
      pub stays : {x : Burst} → burst_at s bytes n i ≡ some x → {firsts : List ℕ} {mode : ℕ} → At s bytes i firsts mode → At s bytes (i + 1) firsts mode
      stays {x} f {firsts} {mode} a = go (gives (e i).pins) refl (sym f ∙ burst-found)
        where
          go : (v : Bool) → gives (e i).pins ≡ v → some x ≡ cond v (some (burst_left s (p i) (e i) (later i))) none → At s bytes (i + 1) firsts mode
          go true g q =
              record {
                rowed = rows_next s bytes i refl a.rowed (none-opened (e i).pins g s firsts);
                moded = mode-next s bytes i refl a.moded (mode-stays (e i).pins g mode);
              }
          go false g q = let zero_one : ◌≡◌ {A = ℕ} 0 1 = cc in absurd (omega arith)

      -- the bursts from here on, by it
      pub burst-next : rest i ≡ listed (burst_at s bytes n i) ++ rest (i + 1)
      burst-next = rest-next i l ∙ go (gives (e i).pins) ∙ ap (λ (o : Option Burst). listed o ++ rest (i + 1)) (sym burst-found)
        where
          go : (v : Bool) → cond v (burst_left s (p i) (e i) (later i) ∷ []) [] ++ rest (i + 1) ≡ listed (cond v (some (burst_left s (p i) (e i) (later i))) none) ++ rest (i + 1)
          go true = refl
          go false = refl

    -- asked of each event in turn, they are all
    abbrev asked : ℕ → ℕ → List Burst
    asked zero i = []
    asked (suc left) i = listed (burst_at s bytes n i) ++ asked left (i + 1)

    from-here : (left i : ℕ) → i + left ≡ n → rest i ≡ asked left i
    from-here zero i f = rest-ends i (omega arith)
    from-here (suc left) i f =
        burst-next i (omega arith) ∙ ap (λ (xs : List Burst). listed (burst_at s bytes n i) ++ xs) (from-here left (i + 1) (omega arith))

    pub all_asked : bursts_on s bytes n ≡ asked n 0
    all_asked = rest-begins ∙ from-here n 0 (zero-add n)
