-- The openings of a bank answer every question: the row of the one in which an event lies is what the rules say after that
-- event, and idle where it lies in none.
use Prim.Native.Nat.{ℕ, zero, suc, ◌+◌, ◌<◌}
use native.Mathlib.Omega.{arith}
use mathlib.Core.Path.{◌≡◌, refl, sym, ap, ◌∙◌}
use mathlib.Core.Bool.{Bool, true, false, cond, ◌&&◌, true≢false}
use mathlib.Core.List.{List, [], ◌∷◌}
use mathlib.Core.Option.{Option, none, some}
use lib.ListN.{length, take}
use lib.Dec.{leb, eqb}
use borrow.Author.Tests.{le-leb, lt-leb}
use Rattle.reading.specs.Settings.{Settings}
use Rattle.reading.specs.Capture.{Event}
use Rattle.reading.specs.Commands.{Command, READ, WRITE, among, command_of}
use Rattle.reading.specs.Part.{Part, Bank, open_on, idle_from, auto_precharge, closes, bank_after, step, run, start}
use Rattle.reading.specs.Openings.{Opening, row_of, row_after, opens, last_open, openings_from, openings_of}
use Rattle.reading.proofs.Ordered.{InOrder, FindsIdle, found_in, opens-it, later-from, lasts, ordered}

-- ---- one bank, one command

shut : (k t : ℕ) (x : Bank) → x.opened ≡ false → (y z : Bool) → (cond y (idle_from k x) (cond z (idle_from t x) x)).opened ≡ false
shut k t x e true z = refl
shut k t x e false true = refl
shut k t x e false false = e

kept : (k t : ℕ) (x : Bank) (y z : Bool) → (cond y (idle_from k x) (cond z (idle_from t x) x)).row ≡ x.row
kept k t x true z = refl
kept k t x false true = refl
kept k t x false false = refl

module _ (s : Settings) (m t : ℕ) (c : Command) (b : ℕ) (x : Bank) where
  -- READ or WRITE of the bank with auto precharge
  abbrev pub auto_closes : Bool
  auto_closes = among (READ ∷ WRITE ∷ []) c && (eqb b c.bank && c.A10)

  -- where the command opens nothing
  abbrev pub unopened : Bank
  unopened = cond auto_closes (idle_from (auto_precharge s m t c x) x) (cond (closes c b x) (idle_from t x) x)

  pub not_opened : opens c b ≡ false → bank_after s m t c b x ≡ unopened
  not_opened e = ap (λ (y : Bool). cond y (open_on c.address t x) unopened) e

  idle-stays : opens c b ≡ false → x.opened ≡ false → (bank_after s m t c b x).opened ≡ false
  idle-stays e f = ap (λ (y : Bank). y.opened) (not_opened e) ∙ shut (auto_precharge s m t c x) t x f auto_closes (closes c b x)

  pub row_stays : opens c b ≡ false → (bank_after s m t c b x).row ≡ x.row
  row_stays e = ap (λ (y : Bank). y.row) (not_opened e) ∙ kept (auto_precharge s m t c x) t x auto_closes (closes c b x)

pub idle-row : (x : Bank) → x.opened ≡ false → row_of x ≡ none
idle-row x e = rw e

pub open_row : (x : Bank) → x.opened ≡ true → row_of x ≡ some x.row
open_row x e = rw e

-- ---- no opening holds an event before the first

none_before : (j : ℕ) (xs : List Opening) → InOrder (suc j) xs → found_in xs j ≡ none
none_before j [] o = refl
none_before j (x ∷ xs) o =
    rw (lt-leb x.first j (omega (arith, o.0)), none_before j xs (later-from (suc j) (suc x.last) xs (omega (arith, o.0, o.1)) o.2))

-- ---- every event

module _ (s : Settings) (b : ℕ) where
  abbrev row_at : Part → ℕ → List Event → Option ℕ
  row_at p k es = row_of ((run s p (take (suc k) es)).banks b)

  -- from a part in which the bank is idle; and from one in which it stands open, after event i
  record Found (es : List Event) : Type 0 where
    idle : (p : Part) (i : ℕ) → FindsIdle s b p es → (p.banks b).opened ≡ false → (j k : ℕ) → j ≡ i + k → k < length es →
        found_in (openings_from s b p i es) j ≡ row_at p k es
    held : (p : Part) (i : ℕ) → FindsIdle s b p es → (p.banks b).opened ≡ true → (j k : ℕ) → j ≡ suc (i + k) → k < length es →
        cond (leb j (last_open s b p i es)) (some (p.banks b).row) (found_in (openings_from s b p (suc i) es) j) ≡ row_at p k es

  module _ (e : Event) (es : List Event) (F : Found es) (p : Part) (i : ℕ) (finds : FindsIdle s b p (e ∷ es)) where
    abbrev c : Command
    c = command_of e.pins

    abbrev p' : Part
    p' = step s p e

    abbrev now : Bank
    now = p'.banks b

    -- ---- the bank is idle

    abbrev rest : List Opening
    rest = openings_from s b p' (suc i) es

    abbrev last : ℕ
    last = last_open s b p' i es

    opened-now : opens c b ≡ true → (j k : ℕ) → j ≡ i + k → k < length (e ∷ es) →
        cond (leb i j && leb j last) (some now.row) (found_in rest j) ≡ row_at p k (e ∷ es)
    opened-now f j zero eq small =
        rw (le-leb i j (omega (arith, eq)), le-leb j last (omega (arith, eq, lasts s b p' i es)))
        (sym (open_row now (opens-it s p.mode e.cycle c b (p.banks b) f)))
    opened-now f j (suc k) eq small =
        ap (λ (y : Bool). cond (y && leb j last) (some now.row) (found_in rest j)) (le-leb i j (omega (arith, eq)))
        ∙ F.held p' i finds.1 (opens-it s p.mode e.cycle c b (p.banks b) f) j k (omega (arith, eq)) (omega (arith, small))

    idle-now : opens c b ≡ false → (p.banks b).opened ≡ false → (j k : ℕ) → j ≡ i + k → k < length (e ∷ es) → found_in rest j ≡ row_at p k (e ∷ es)
    idle-now f closed j zero eq small =
        none_before j rest (later-from (suc j) (suc i) rest (omega (arith, eq)) ((ordered s b es).all p' (suc i) finds.1))
        ∙ sym (idle-row now (idle-stays s p.mode e.cycle c b (p.banks b) f closed))
    idle-now f closed j (suc k) eq small =
        F.idle p' (suc i) finds.1 (idle-stays s p.mode e.cycle c b (p.banks b) f closed) j k (omega (arith, eq)) (omega (arith, small))

    idle-on : (p.banks b).opened ≡ false → (j k : ℕ) → j ≡ i + k → k < length (e ∷ es) → found_in (openings_from s b p i (e ∷ es)) j ≡ row_at p k (e ∷ es)
    idle-on closed j k eq small = go (opens c b) refl
      where
        go : (y : Bool) → opens c b ≡ y → found_in (cond y (record { row = now.row; first = i; last = last } ∷ rest) rest) j ≡ row_at p k (e ∷ es)
        go true f = opened-now f j k eq small
        go false f = idle-now f closed j k eq small

    -- ---- the bank stands open, so the event does not open it

    abbrev behind : List Opening
    behind = openings_from s b p' (suc (suc i)) es

    abbrev until : ℕ
    until = last_open s b p' (suc i) es

    same_row : opens c b ≡ false → (p.banks b).row ≡ now.row
    same_row f = sym (row_stays s p.mode e.cycle c b (p.banks b) f)

    held-open : opens c b ≡ false → now.opened ≡ true → (j k : ℕ) → j ≡ suc (i + k) → k < length (e ∷ es) →
        cond (leb j until) (some (p.banks b).row) (found_in behind j) ≡ row_at p k (e ∷ es)
    held-open f g j zero eq small =
        ap (λ (y : Bool). cond y (some (p.banks b).row) (found_in behind j)) (le-leb j until (omega (arith, eq, lasts s b p' (suc i) es)))
        ∙ (ap some (same_row f) ∙ sym (open_row now g))
    held-open f g j (suc k) eq small =
        ap (λ (r : ℕ). cond (leb j until) (some r) (found_in behind j)) (same_row f)
        ∙ F.held p' (suc i) finds.1 g j k (omega (arith, eq)) (omega (arith, small))

    held-shut : now.opened ≡ false → (j k : ℕ) → j ≡ suc (i + k) → k < length (e ∷ es) →
        cond (leb j i) (some (p.banks b).row) (found_in behind j) ≡ row_at p k (e ∷ es)
    held-shut g j zero eq small =
        ap (λ (y : Bool). cond y (some (p.banks b).row) (found_in behind j)) (lt-leb j i (omega (arith, eq)))
        ∙ (none_before j behind (later-from (suc j) (suc (suc i)) behind (omega (arith, eq)) ((ordered s b es).all p' (suc (suc i)) finds.1))
        ∙ sym (idle-row now g))
    held-shut g j (suc k) eq small =
        ap (λ (y : Bool). cond y (some (p.banks b).row) (found_in behind j)) (lt-leb j i (omega (arith, eq)))
        ∙ F.idle p' (suc (suc i)) finds.1 g j k (omega (arith, eq)) (omega (arith, small))

    held_on : (p.banks b).opened ≡ true → (j k : ℕ) → j ≡ suc (i + k) → k < length (e ∷ es) →
        cond (leb j (last_open s b p i (e ∷ es))) (some (p.banks b).row) (found_in (openings_from s b p (suc i) (e ∷ es)) j) ≡ row_at p k (e ∷ es)
    held_on opened j k eq small = go (opens c b) now.opened refl refl
      where
        go : (y z : Bool) → opens c b ≡ y → now.opened ≡ z →
            cond (leb j (cond z until i)) (some (p.banks b).row)
            (found_in (cond y (record { row = now.row; first = suc i; last = until } ∷ behind) behind) j) ≡ row_at p k (e ∷ es)
        go true z f g = absurd (true≢false (sym opened ∙ finds.0 f))
        go false true f g = held-open f g j k eq small
        go false false f g = held-shut g j k eq small

  found : (es : List Event) → Found es
  found [] =
      record {
        idle = λ p i finds closed j k eq small. absurd (omega (arith, small));
        held = λ p i finds opened j k eq small. absurd (omega (arith, small));
      }
  found (e ∷ es) = record { idle = λ p i finds. idle-on e es (found es) p i finds; held = λ p i finds. held_on e es (found es) p i finds }

  pub all_found : (es : List Event) → FindsIdle s b (start s) es → (j : ℕ) → j < length es → found_in (openings_of s es b) j ≡ row_after s es b j
  unfolding openings_of row_after
  all_found es finds j small = (found es).idle (start s) 0 finds refl j j (omega arith) small
