-- In a clean capture every ACTIVE finds its bank idle, so its openings are in order and answer every question.
use Prim.Native.Nat.{ℕ, suc, ◌<◌}
use mathlib.Core.Path.{◌≡◌, refl, sym, ap, subst}
use mathlib.Core.Bool.{Bool, true, false, cond, not, false≢true, and-eq-true_iff}
use mathlib.Core.List.{List, [], ◌∷◌, Memᴰ}
use mathlib.Core.Option.{Option, none, some}
use lib.ListN.{length}
use lib.Dec.{eqb}
use borrow.Author.Tests.{eqb-true, not-true}
use Rattle.reading.specs.Settings.{Settings}
use Rattle.reading.specs.Capture.{Event}
use Rattle.reading.specs.Commands.{Command, ACTIVE, is, command_of}
use Rattle.reading.specs.Part.{Part, start, step}
use Rattle.reading.specs.Rules.{rules, rule3, broken_by}
use Rattle.reading.specs.Verdict.{Verdict, clean, broken, broken_or, judge_from, judge_by, verdict_of, verdict_by}
use Rattle.reading.proofs.Meaning.{none-broken}
use Rattle.reading.specs.Openings.{opens, openings_of, row_after}
use Rattle.reading.proofs.Ordered.{InOrder, FindsIdle, found_in, ordered}
use Rattle.reading.proofs.OpenRows.{all_found}

third : Memᴰ 3 rules
third = Memᴰ.tail (Memᴰ.tail (Memᴰ.head refl))

abbrev is_clean : Verdict → Bool
is_clean clean = true
is_clean (broken r i t) = false

first-clean : (o : Option ℕ) (i t : ℕ) (v : Verdict) → broken_or o i t v ≡ clean → o ≡ none
first-clean none i t v e = refl
first-clean (some r) i t v e = absurd (false≢true (ap is_clean e))

rest-clean : (o : Option ℕ) (i t : ℕ) (v : Verdict) → broken_or o i t v ≡ clean → v ≡ clean
rest-clean none i t v e = e
rest-clean (some r) i t v e = absurd (false≢true (ap is_clean e))

asked : (y u w : Bool) → y ≡ true → cond y u w ≡ true → u ≡ true
asked true u w e k = k
asked false u w e k = absurd (false≢true e)

idle-by-rule-3 : (s : Settings) (p : Part) (t : ℕ) (c : Command) (b : ℕ) → rule3 s p t c ≡ true → opens c b ≡ true → (p.banks b).opened ≡ false
idle-by-rule-3 s p t c b kept o =
    let both = (and-eq-true_iff (is ACTIVE c) (eqb b c.bank)).0 o in
    subst (λ (k : ℕ). (p.banks k).opened ≡ false) (sym (eqb-true b c.bank both.1))
    (not-true (p.banks c.bank).opened (asked (is ACTIVE c) (not (p.banks c.bank).opened) _ both.0 kept))

module _ (s : Settings) (b : ℕ) where
  idle-from : (p : Part) (i : ℕ) (es : List Event) → judge_from s p i es ≡ clean → FindsIdle s b p es
  unfolding judge_by
  idle-from p i [] e = tt
  idle-from p i (x ∷ es) e =
      let rest = judge_from s (step s p x) (suc i) es in
      let none-broke = first-clean (broken_by s p x) i x.cycle rest e in (
        idle-by-rule-3 s p x.cycle (command_of x.pins) b ((none-broken s p x).0 none-broke 3 third),
        idle-from (step s p x) (suc i) es (rest-clean (broken_by s p x) i x.cycle rest e),
      )

  module _ (es : List Event) (e : verdict_of s es ≡ clean) where
    pub finds-idle : FindsIdle s b (start s) es
    unfolding verdict_by
    finds-idle = idle-from (start s) 0 es e

    pub clean-in-order : InOrder 0 (openings_of s es b)
    unfolding openings_of
    clean-in-order = (ordered s b es).all (start s) 0 finds-idle

    pub clean-answers : (j : ℕ) → j < length es → found_in (openings_of s es b) j ≡ row_after s es b j
    clean-answers = all_found s b es finds-idle
