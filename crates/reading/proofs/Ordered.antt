-- The openings of a bank are disjoint and in order, where each ACTIVE finds its bank idle, and end with the events at the latest.
use Prim.Native.Nat.{ℕ, suc, ◌+◌, ◌≤◌, ◌<◌}
use native.Mathlib.Omega.{arith}
use mathlib.Core.Path.{◌≡◌, refl, sym, ◌∙◌}
use mathlib.Core.Bool.{Bool, true, false, cond, ◌&&◌, true≢false}
use mathlib.Core.List.{List, [], ◌∷◌}
use mathlib.Core.Option.{Option, none, some}
use lib.Dec.{leb}
use lib.ListN.{length}
use Rattle.reading.specs.Settings.{Settings}
use Rattle.reading.specs.Capture.{Event}
use Rattle.reading.specs.Commands.{Command, command_of}
use Rattle.reading.specs.Part.{Part, Bank, bank_after, step, start}
use Rattle.reading.specs.Openings.{Opening, opens, last_open, openings_from, openings_of}

-- each begins at `from` or later, and is still open after the event that began it; the next begins behind it
abbrev pub InOrder : ℕ → List Opening → Type 0
InOrder from [] = Unit {0}
InOrder from (x ∷ xs) = (from ≤ x.first) × (x.first ≤ x.last) × InOrder (suc x.last) xs

-- each ends before event n
abbrev pub Below : ℕ → List Opening → Type 0
Below n [] = Unit {0}
Below n (x ∷ xs) = (x.last < n) × Below n xs

-- the row of the opening in which event j lies
abbrev pub found_in : List Opening → ℕ → Option ℕ
found_in [] j = none
found_in (x ∷ xs) j = cond (leb x.first j && leb j x.last) (some x.row) (found_in xs j)

-- rule 3 of ACTIVE: bank b is idle where one of these events opens it
abbrev pub FindsIdle : Settings → ℕ → Part → List Event → Type 0
FindsIdle s b p [] = Unit {0}
FindsIdle s b p (e ∷ es) = (opens (command_of e.pins) b ≡ true → (p.banks b).opened ≡ false) × FindsIdle s b (step s p e) es

pub opens-it : (s : Settings) (m t : ℕ) (c : Command) (b : ℕ) (x : Bank) → opens c b ≡ true → (bank_after s m t c b x).opened ≡ true
opens-it s m t c b x e = rw e

pub later-from : (i j : ℕ) (xs : List Opening) → i ≤ j → InOrder j xs → InOrder i xs
later-from i j [] l o = tt
later-from i j (x ∷ xs) l o = (omega (arith, l, o.0), o.1, o.2)

module _ (s : Settings) (b : ℕ) where
  pub lasts : (p : Part) (i : ℕ) (es : List Event) → i ≤ last_open s b p i es
  lasts p i [] = omega arith
  lasts p i (e ∷ es) = go ((step s p e).banks b).opened (lasts (step s p e) (suc i) es)
    where
      go : (y : Bool) → suc i ≤ last_open s b (step s p e) (suc i) es → i ≤ cond y (last_open s b (step s p e) (suc i) es) i
      go true l = omega (arith, l)
      go false l = omega arith

  -- the last event is the latest
  lasts-below : (p : Part) (i : ℕ) (es : List Event) → last_open s b p i es ≤ i + length es
  lasts-below p i [] = omega arith
  lasts-below p i (e ∷ es) = go ((step s p e).banks b).opened (lasts-below (step s p e) (suc i) es)
    where
      go : (y : Bool) → last_open s b (step s p e) (suc i) es ≤ suc i + length es → cond y (last_open s b (step s p e) (suc i) es) i ≤ i + suc (length es)
      go true l = omega (arith, l)
      go false l = omega arith

  below : (p : Part) (i n : ℕ) (es : List Event) → n ≡ i + length es → Below n (openings_from s b p i es)
  below p i n [] l = tt
  below p i n (e ∷ es) l = go (opens (command_of e.pins) b) (below (step s p e) (suc i) n es (omega (arith, l)))
    where
      behind : List Opening
      behind = openings_from s b (step s p e) (suc i) es

      go : (y : Bool) → Below n behind →
          Below n (cond y (record { row = ((step s p e).banks b).row; first = i; last = last_open s b (step s p e) i es } ∷ behind) behind)
      go true o = (omega (arith, l, lasts-below (step s p e) i es), o)
      go false o = o

  pub all-below : (es : List Event) → Below (length es) (openings_of s es b)
  unfolding openings_of
  all-below es = below (start s) 0 (length es) es (omega arith)

  -- from any part; and behind event i, where the bank stands open after it
  pub record Ordered (es : List Event) : Type 0 where
    pub all : (p : Part) (i : ℕ) → FindsIdle s b p es → InOrder i (openings_from s b p i es)
    pub behind : (p : Part) (i : ℕ) → FindsIdle s b p es → (p.banks b).opened ≡ true →
        InOrder (suc (last_open s b p i es)) (openings_from s b p (suc i) es)

  module _ (e : Event) (es : List Event) (o : Ordered es) (p : Part) (i : ℕ) (finds : FindsIdle s b p (e ∷ es)) where
    abbrev c : Command
    c = command_of e.pins

    abbrev p' : Part
    p' = step s p e

    all-on : InOrder i (openings_from s b p i (e ∷ es))
    all-on = go (opens c b) refl
      where
        rest : List Opening
        rest = openings_from s b p' (suc i) es

        go : (y : Bool) → opens c b ≡ y → InOrder i (cond y (record { row = (p'.banks b).row; first = i; last = last_open s b p' i es } ∷ rest) rest)
        go true f = (omega arith, lasts p' i es, o.behind p' i finds.1 (opens-it s p.mode e.cycle c b (p.banks b) f))
        go false f = later-from i (suc i) rest (omega arith) (o.all p' (suc i) finds.1)

  behind-on : (e : Event) (es : List Event) → Ordered es → (p : Part) (i : ℕ) → FindsIdle s b p (e ∷ es) → (p.banks b).opened ≡ true →
      InOrder (suc (last_open s b p i (e ∷ es))) (openings_from s b p (suc i) (e ∷ es))
  behind-on e es o p i finds opened = go ((step s p e).banks b).opened refl
    where
      p' : Part
      p' = step s p e

      rest : List Opening
      rest = openings_from s b p' (suc (suc i)) es

      -- the event finds the bank open, so it does not open it
      stays : (y : Bool) → opens (command_of e.pins) b ≡ y → (p'.banks b).opened ≡ true →
          InOrder (suc (last_open s b p' (suc i) es)) (cond y (record { row = (p'.banks b).row; first = suc i; last = last_open s b p' (suc i) es } ∷ rest) rest)
      stays true f g = absurd (true≢false (sym opened ∙ finds.0 f))
      stays false f g = o.behind p' (suc i) finds.1 g

      go : (y : Bool) → (p'.banks b).opened ≡ y → InOrder (suc (cond y (last_open s b p' (suc i) es) i)) (openings_from s b p (suc i) (e ∷ es))
      go true g = stays (opens (command_of e.pins) b) refl g
      go false g = all-on e es o p (suc i) finds

  pub ordered : (es : List Event) → Ordered es
  ordered [] = record { all = λ p i finds. tt; behind = λ p i finds opened. tt }
  ordered (e ∷ es) = record { all = λ p i finds. all-on e es (ordered es) p i finds; behind = behind-on e es (ordered es) }
