-- A rule that asks about each bank is one test of all of them; it asks nothing of a bank that it names.
use Prim.Native.Nat.{ℕ}
use mathlib.Core.Bool.{Bool, true, false, cond, ◌&&◌, ◌||◌}
use mathlib.Core.List.{List}
use mathlib.Core.Path.{◌≡◌, refl, sym, ap, ◌∙◌}
use lib.Dec.{leb, leb-zero}
use Rattle.reading.specs.Rules.{every_bank}
use Rattle.deadlines.specs.Deadlines.{rule_unless, Wait, asks_each, unmet}

pub both : (a b : Bool) (rule rest : ℕ) → rule_unless (a && b) rule rest ≡ rule_unless a rule (rule_unless b rule rest)
both true b rule rest = refl
both false b rule rest = refl

pub each-is : (rule : ℕ) (till : ℕ → ℕ) (ws : List Wait) (t rest : ℕ) →
    rule_unless (every_bank (λ i. leb (till i) t)) rule (unmet ws t rest) ≡ unmet (asks_each rule till ws) t rest
unfolding unmet
each-is rule till ws t rest = simp both

module _ (rule : ℕ) (till : ℕ → ℕ) (ws : List Wait) (t rest : ℕ) where
  pub each_over : every_bank (λ i. leb (till i) t) ≡ true → unmet (asks_each rule till ws) t rest ≡ unmet ws t rest
  each_over e = sym (each-is rule till ws t rest) ∙ ap (λ (v : Bool). rule_unless v rule (unmet ws t rest)) e

  pub each-waits : every_bank (λ i. leb (till i) t) ≡ false → unmet (asks_each rule till ws) t rest ≡ rule
  each-waits e = sym (each-is rule till ws t rest) ∙ ap (λ (v : Bool). rule_unless v rule (unmet ws t rest)) e

-- a bank that is not asked
pub unasked : (own : Bool) (c t : ℕ) → leb (cond own 0 c) t ≡ (own || leb c t)
unasked true c t = leb-zero t
unasked false c t = refl
