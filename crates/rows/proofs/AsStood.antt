-- How a bank stands by pins alone is how it stands in the reading's part.
use Prim.Native.Nat.{ℕ, suc}
use mathlib.Core.Bool.{Bool, true, false, cond, ◌&&◌, ◌||◌}
use mathlib.Core.List.{List, [], ◌∷◌}
use mathlib.Core.Option.{some}
use mathlib.Core.Path.{◌≡◌, refl, ap, ◌∙◌, sym, subst}
use lib.Dec.{eqb}
use Rattle.reading.specs.Settings.{Settings}
use Rattle.reading.specs.Capture.{Event}
use Rattle.reading.specs.Commands.{Command, command_of}
use Rattle.reading.specs.Part.{Part, Bank, open_on, idle_from, auto_precharge, start, step, run}
use Rattle.reading.specs.Openings.{row_of, opens}
use Rattle.pins.specs.Pins.{code_of, bank_of, address_of, ten_of, gives}
use Rattle.pins.proofs.Commands.{active-is, precharge-is}
use Rattle.beats.specs.Kept.{names_bank}
use Rattle.pins.proofs.Commands.{gives-is}
use Rattle.std.specs.Prelude.{Some, None}
use Rattle.rows.specs.Walks.{Standing, idle, open_row, opens_bank, stood_of, stand_of, stand_after, row_stood}

-- a bank of the reading that stands so
abbrev pub As : Standing → Bank → Type 0
As None k = k.opened ≡ false
As (Some x) k = (k.opened ≡ true) × (k.row ≡ x.row)

pub row_as : (x : Standing) (k : Bank) → As x k → row_of k ≡ row_stood x
row_as None k a = rw a
row_as (Some x) k a = rw a.0 (ap some a.1)

pub opens-is : (b w : ℕ) → opens (command_of w) b ≡ opens_bank b w
opens-is b w = ap (λ (y : Bool). y && eqb b (bank_of w)) (active-is w)

-- ---- one command: whether it opens the bank, closes it by auto precharge, is a PRECHARGE, names it

abbrev after : Bool → Bool → Bool → Bool → ℕ → ℕ → ℕ → Bank → Bank
after o a q m row t u k = cond o (open_on row t k) (cond a (idle_from u k) (cond (q && (k.opened && m)) (idle_from t k) k))

idle-on : (o a q m : Bool) (row t u i : ℕ) (k : Bank) → k.opened ≡ false → As (cond o (open_row row i) (cond ((q && m) || a) idle idle)) (after o a q m row t u k)
idle-on true a q m row t u i k e = (refl, refl)
idle-on false a q m row t u i k e = subst (λ (x : Standing). As x (after false a q m row t u k)) (sym (either ((q && m) || a))) (go a q)
  where
    either : (y : Bool) → cond y idle idle ≡ idle
    either true = refl
    either false = refl

    go : (a q : Bool) → (after false a q m row t u k).opened ≡ false
    go true q = refl
    go false true = ap (λ (y : Bool). (cond (y && m) (idle_from t k) k).opened) e ∙ e
    go false false = e

open-on : (o a q m : Bool) (row t u i r f : ℕ) (k : Bank) → k.opened ≡ true → k.row ≡ r →
    As (cond o (open_row row i) (cond ((q && m) || a) idle (open_row r f))) (after o a q m row t u k)
open-on true a q m row t u i r f k e g = (refl, refl)
open-on false true true true row t u i r f k e g = refl
open-on false true true false row t u i r f k e g = refl
open-on false true false m row t u i r f k e g = refl
open-on false false true true row t u i r f k e g = ap (λ (y : Bool). (cond (y && true) (idle_from t k) k).opened) e
open-on false false true false row t u i r f k e g =
    subst (λ (y : Bool). ((cond (y && false) (idle_from t k) k).opened ≡ true) × ((cond (y && false) (idle_from t k) k).row ≡ r)) (sym e) (e, g)
open-on false false false m row t u i r f k e g = (e, g)

-- by its pins
module _ (s : Settings) (b i : ℕ) (p : Part) (e : Event) where
  abbrev c : Command
  c = command_of e.pins

  abbrev w : ℕ
  w = e.pins

  abbrev k : Bank
  k = p.banks b

  abbrev late : ℕ
  late = auto_precharge s p.mode e.cycle c k

  is-after : (step s p e).banks b ≡
      after (opens_bank b w) (gives w && (eqb b (bank_of w) && ten_of w)) (eqb (code_of w) 4) (names_bank b w) (address_of w) e.cycle late k
  is-after = rw (active-is w, gives-is w, precharge-is w)

  pub stands_on : (x : Standing) → As x k → As (stood_of b x i w) ((step s p e).banks b)
  stands_on None a =
      subst (As (stood_of b idle i w)) (sym is-after)
      (idle-on (opens_bank b w) (gives w && (eqb b (bank_of w) && ten_of w)) (eqb (code_of w) 4) (names_bank b w) (address_of w) e.cycle late i k a)
  stands_on (Some x) a =
      subst (As (stood_of b (Some x) i w)) (sym is-after)
      (open-on (opens_bank b w) (gives w && (eqb b (bank_of w) && ten_of w)) (eqb (code_of w) 4) (names_bank b w) (address_of w) e.cycle late i x.row x.first k a.0 a.1)

-- ---- all of them

stands-through : (s : Settings) (b i : ℕ) (p : Part) (x : Standing) (es : List Event) → As x (p.banks b) → As (stand_of b x i es) ((run s p es).banks b)
stands-through s b i p x [] a = a
stands-through s b i p x (e ∷ es) a = stands-through s b (suc i) (step s p e) (stood_of b x i e.pins) es (stands_on s b i p e x a)

pub row-stood : (s : Settings) (b : ℕ) (es : List Event) → row_of ((run s (start s) es).banks b) ≡ row_stood (stand_after b es)
row-stood s b es = row_as (stand_after b es) ((run s (start s) es).banks b) (stands-through s b 0 (start s) idle es refl)
