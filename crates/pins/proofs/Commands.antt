-- Which command a pin word carries, by the number of its command pins.
use Prim.Native.Nat.{ℕ}
use mathlib.Core.Bool.{Bool, true, false, not, ◌||◌, or-false, false≢true}
use mathlib.Core.List.{[], ◌∷◌}
use mathlib.Core.Option.{none}
use mathlib.Core.Path.{◌≡◌, refl, sym, ap, ◌∙◌}
use native.Mathlib.Omega.{arith}
use borrow.Author.Tests.{not-false}
use lib.Dec.{eqb}
use Rattle.reading.specs.Search.{lowest}
use Rattle.reading.specs.Commands.{Op, ACTIVE, READ, WRITE, BURST-TERMINATE, PRECHARGE, AUTO-REFRESH, MODE-REGISTER-SET, NOP, DESELECT, code, op_of, command_of, is, among}
use Rattle.words.proofs.Search.{none_below}
use Rattle.pins.specs.Pins.{code_of, quiet_code, gives}
use Rattle.pins.proofs.Pins.{turned, op-is}

same : Bool → Bool → Bool
same true b = b
same false b = not b

same-is : (a b : Bool) → same a b ≡ true → a ≡ b
unfolding same
same-is true b e = sym e
same-is false true e = e
same-is false false e = refl

-- an op and its number agree at each of the sixteen
agrees : Op → ℕ → ℕ → Bool
agrees o k q = same (eqb (code o) (code (op_of (turned q)))) (eqb q k)

agreed : (o : Op) (k : ℕ) → lowest (λ q. not (agrees o k q)) 16 ≡ none → (w : ℕ) → is o (command_of w) ≡ eqb (code_of w) k
unfolding agrees
agreed o k e w =
    ap (λ (x : Op). eqb (code o) (code x)) (op-is w)
    ∙ same-is _ _ (not-false _ (none_below (λ q. not (agrees o k q)) 16 e (code_of w) (omega arith)))

module _ (w : ℕ) where
  pub active-is : is ACTIVE (command_of w) ≡ eqb (code_of w) 12
  unfolding agrees same
  active-is = agreed ACTIVE 12 refl w

  pub read_is : is READ (command_of w) ≡ eqb (code_of w) 10
  unfolding agrees same
  read_is = agreed READ 10 refl w

  pub write-is : is WRITE (command_of w) ≡ eqb (code_of w) 2
  unfolding agrees same
  write-is = agreed WRITE 2 refl w

  pub terminate-is : is BURST-TERMINATE (command_of w) ≡ eqb (code_of w) 6
  unfolding agrees same
  terminate-is = agreed BURST-TERMINATE 6 refl w

  pub precharge-is : is PRECHARGE (command_of w) ≡ eqb (code_of w) 4
  unfolding agrees same
  precharge-is = agreed PRECHARGE 4 refl w

  pub mode-set-is : is MODE-REGISTER-SET (command_of w) ≡ eqb (code_of w) 0
  unfolding agrees same
  mode-set-is = agreed MODE-REGISTER-SET 0 refl w

  pub gives-is : among (READ ∷ WRITE ∷ []) (command_of w) ≡ gives w
  gives-is = λ i. read_is i || (or-false (is WRITE (command_of w)) ∙ write-is) i

-- ---- NOP and DESELECT

quiet_op : Op → Bool
quiet_op o = eqb (code NOP) (code o) || (eqb (code DESELECT) (code o) || false)

pub data Quietly : Op → Type 0 where
  nop : Quietly NOP
  deselect : Quietly DESELECT

quietly : (o : Op) → quiet_op o ≡ true → Quietly o
unfolding quiet_op
quietly NOP e = nop
quietly DESELECT e = deselect
quietly ACTIVE e = absurd (false≢true e)
quietly READ e = absurd (false≢true e)
quietly WRITE e = absurd (false≢true e)
quietly BURST-TERMINATE e = absurd (false≢true e)
quietly PRECHARGE e = absurd (false≢true e)
quietly AUTO-REFRESH e = absurd (false≢true e)
quietly MODE-REGISTER-SET e = absurd (false≢true e)

-- the command pins of none of the seven ask for one of the two
pub asks-quietly : (w : ℕ) → quiet_code (code_of w) ≡ true → Quietly (command_of w).op
unfolding same quiet_op
asks-quietly w e =
    quietly (command_of w).op
    (ap quiet_op (op-is w)
    ∙ same-is _ _ (not-false _ (none_below (λ q. not (same (quiet_op (op_of (turned q))) (quiet_code q))) 16 refl (code_of w) (omega arith)))
    ∙ e)
