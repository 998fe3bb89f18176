-- With CKE low: the lowest broken rule of a part is the one that its deadlines show.
use Prim.Native.Nat.{ℕ, ◌+◌, ◌≤◌}
use mathlib.Core.Bool.{Bool, true, false, cond, not, ◌&&◌, ◌||◌, or-true}
use mathlib.Core.List.{List, [], ◌∷◌, ◌++◌}
use mathlib.Core.Option.{Option, none, some}
use mathlib.Core.Path.{◌≡◌, refl, sym, ap, ◌∙◌}
use native.Mathlib.Nat.{suc-mul}
use native.Mathlib.Omega.{arith}
use lib.Dec.{leb, ltb, eqb}
use borrow.Author.Tests.{lt-ltb, ne_eqb, not-true}
use Rattle.reading.specs.Search.{implies, ever, find, after, or_else}
use Rattle.reading.specs.Settings.{Settings}
use Rattle.reading.specs.RefreshClock.{Clock, in_time}
use Rattle.reading.specs.Commands.{Op, AUTO-REFRESH, Command, is, quiet}
use Rattle.reading.specs.Bursts.{read_end, data_end}
use Rattle.reading.specs.Sleep.{rested}
use Rattle.reading.specs.Part.{Part, last_read, last_write}
use Rattle.reading.specs.Rules.{keeps_rule, rule15, placing, rules, lowest_broken}
use Rattle.reading.proofs.Laws.{either_way}
use Rattle.reading.proofs.Found.{found-as-all, find-append, same-found, listed}
use Rattle.reading.proofs.Meaning.{each-kept}
use Rattle.reading.proofs.Cuts.{All}
use Rattle.pins.proofs.Commands.{Quietly}
use Rattle.deadlines.specs.Deadlines.{FAR, rule_unless, taken, enter_breaks, low_breaks, self_breaks}
use Rattle.steps.specs.Steps.{unless_lower}
use Rattle.bridge.specs.Summary.{SleepHeld, Timed, laid, summary, sleep_held, overdue_by}
use Rattle.bridge.proofs.Tests.{num, num-cond, after_is, cleared-is, leb-later}
use Rattle.bridge.proofs.Rules.{does, does_low, says, as-nop, refresh-agrees}
use Rattle.bridge.proofs.Sleeping.{never, sleep_of}
use Rattle.bridge.proofs.Clock.{in-time-is}
use Rattle.bridge.proofs.Bursts.{Given, Late, last-over}
use Rattle.bridge.proofs.LastWrite.{LastStays, taken_is}

-- ---- rule 15 comes behind all others

before15 : List ℕ
before15 = placing ++ (14 ∷ [])

-- what a rule, if there is one, is followed by
abbrev sealed : ℕ → ℕ → ℕ
sealed rule rest = cond (eqb rule 0) rest rule

-- no rule has the number 0
numbered : (f : ℕ → Bool) (r : ℕ) → find f before15 ≡ some r → eqb r 0 ≡ false
unfolding before15
numbered f r e = not-true (eqb r 0) (found-as-all f (λ q. not (eqb q 0)) before15 refl r e)

-- ---- a command that may not come

module _ (s : Settings) (p : Part) (t : ℕ) where
  -- the lowest rule before 15 that is broken, 0 for none
  abbrev earlier : Command → ℕ
  earlier c = num (lowest_broken before15 s p t c)

  last-is : (c : Command) → num (lowest_broken rules s p t c) ≡ sealed (earlier c) (rule_unless (rule15 s p t c) 15 0)
  unfolding before15
  last-is c = ap num (find-append breaks before15 (15 ∷ [])) ∙ go (find breaks before15) refl
    where
      breaks : ℕ → Bool
      breaks r = not (keeps_rule r s p t c)

      go : (o : Option ℕ) → find breaks before15 ≡ o →
          num (or_else o (cond (not (rule15 s p t c)) (some 15) none)) ≡ sealed (num o) (rule_unless (rule15 s p t c) 15 0)
      go none e = num-cond (rule15 s p t c) none 15
      go (some r) e = rw (numbered breaks r e)

  -- rule 4 is asked of it as with CKE high; the others before 15 do not look at CKE
  same-earlier : (o : Op) (b a : ℕ) (ten : Bool) → quiet (does o b a ten) ≡ false → earlier (does_low o b a ten) ≡ earlier (does o b a ten)
  unfolding before15
  same-earlier o b a ten n =
      ap num
      (same-found (λ r. not (keeps_rule r s p t (does_low o b a ten))) (λ r. not (keeps_rule r s p t (does o b a ten))) (λ r. not (eqb r 15))
      (λ r e. rw (not-true (eqb r 15) e, n, or-true (not p.sleep.asleep))) before15 refl)

  pub command-agrees : (o : Op) (b a : ℕ) (ten : Bool) → quiet (does o b a ten) ≡ false → is AUTO-REFRESH (does o b a ten) ≡ false →
      num (lowest_broken rules s p t (does_low o b a ten)) ≡ unless_lower (says s p t o b a ten)
  command-agrees o b a ten n r =
      let c = does o b a ten in
      let low : rule15 s p t (does_low o b a ten) ≡ false = rw (n, r) (either_way p.sleep.asleep false) in
      last-is (does_low o b a ten) ∙ (λ i. sealed (same-earlier o b a ten n i) (rule_unless (low i) 15 0))
      ∙ twice (earlier c) (rule15 s p t c)
      ∙ ap (λ (v : ℕ). sealed v 15) (sym (last-is c))
    where
      twice : (x : ℕ) (v : Bool) → sealed x 15 ≡ sealed (sealed x (rule_unless v 15 0)) 15
      twice x v = go (eqb x 0) refl v
        where
          go : (z : Bool) → eqb x 0 ≡ z → (v : Bool) → cond z 15 x ≡ sealed (cond z (rule_unless v 15 0) x) 15
          go true e true = refl
          go true e false = refl
          go false e v = sym (rw e)

-- ---- NOP and DESELECT

module _ (s : Settings) (k : Clock) (t : ℕ) (timed : Timed s t) where
  abbrev entered : SleepHeld → Bool → Bool → Bool → ℕ
  entered h busy bus end =
      rule_unless busy 4 (rule_unless (ltb t h.overdue) 14 (rule_unless bus 15 (rule_unless end 15 (rule_unless (leb h.wake t) 15 0))))

  due-some : eqb (overdue_by s k) 0 ≡ false
  due-some = ne_eqb (overdue_by s k) 0 (λ e. omega (arith, timed.ticks, suc-mul (8 + k.paid) s.t_refi))

  -- asleep they are asked for rule 14 alone; awake they enter
  low-is : (a v : Bool) (left : Option ℕ) (busy bus end : Bool) →
      rule_unless (implies (not a || false) busy) 4
      (rule_unless (implies (not (a && v)) (in_time s k t)) 14
      (rule_unless (cond a true ((bus && end) && after (cond v s.t_xsr s.t_xp) left t)) 15 0)) ≡
      cond (ltb t (sleep_held s k (sleep_of a v left)).asleep) 0
      (cond (eqb (sleep_held s k (sleep_of a v left)).overdue 0) 14 (entered (sleep_held s k (sleep_of a v left)) busy bus end))
  low-is true true left busy bus end = rw (lt-ltb t FAR timed.early)
  low-is true false left busy bus end = rw (in-time-is s timed.ticks k t) (go (ltb t (overdue_by s k)))
    where
      go : (v : Bool) → rule_unless v 14 0 ≡ cond v 0 14
      go true = refl
      go false = refl
  low-is false v left busy bus end =
      rw (never t, in-time-is s timed.ticks k t, due-some, after_is (cond v s.t_xsr s.t_xp) left t)
      (go busy (ltb t (overdue_by s k)) bus end _)
    where
      go : (b i u e w : Bool) → rule_unless b 4 (rule_unless i 14 (rule_unless ((u && e) && w) 15 0)) ≡ rule_unless b 4 (rule_unless i 14 (rule_unless u 15 (rule_unless e 15 (rule_unless w 15 0))))
      go false i u e w = refl
      go true false u e w = refl
      go true true false e w = refl
      go true true true false w = refl
      go true true true true w = refl

module _ (s : Settings) (p : Part) (t : ℕ) (timed : Timed s t) (from : ℕ) (l : from ≤ t) (given : All (Given from) p.bursts)
    (late : Late from p.bursts) (standing : LastStays from p) where
  -- the data of the last write are over
  over : Bool
  over = ever (last_write p) (λ x. leb (data_end x) t)

  over-is : over ≡ taken (laid (summary s p)) t
  unfolding over
  over-is = last-over t l late ∙ sym (taken_is s p from t l given standing)

  pub low-agrees : {o : Op} → Quietly o → (b a : ℕ) (ten : Bool) →
      num (lowest_broken rules s p t (does_low o b a ten)) ≡ low_breaks (laid (summary s p)) t
  unfolding low_breaks enter_breaks over
  low-agrees q b a ten =
      as-nop (λ o. num (lowest_broken rules s p t (does_low o b a ten))) q refl
      ∙ simp num-cond (rw (low-is s p.clock t timed p.sleep.asleep p.sleep.self p.sleep.left, over-is)
      (simp (leb-later, after_is, cleared-is)))

  -- ---- AUTO REFRESH

  -- rule 12 asked for the read's end before rule 15 does
  read-over : (b a : ℕ) (ten : Bool) → lowest_broken before15 s p t (does AUTO-REFRESH b a ten) ≡ none → ever (last_read p) (λ x. leb (read_end x) t) ≡ true
  unfolding before15
  read-over b a ten e = each-kept before15 s p t (does AUTO-REFRESH b a ten) e 12 (listed 12 before15 refl)

  self-last : (u e a w : Bool) → u ≡ true →
      rule_unless (cond a false ((u && e) && w)) 15 0 ≡ sealed (rule_unless (cond a false w) 15 0) (rule_unless e 15 0)
  self-last u e a w k = rw k (go e a w)
    where
      go : (e a w : Bool) → rule_unless (cond a false (e && w)) 15 0 ≡ sealed (rule_unless (cond a false w) 15 0) (rule_unless e 15 0)
      go e true w = refl
      go true false true = refl
      go true false false = refl
      go false false true = refl
      go false false false = refl

  pub self-agrees : (b a : ℕ) (ten : Bool) → num (lowest_broken rules s p t (does_low AUTO-REFRESH b a ten)) ≡ self_breaks (laid (summary s p)) t
  unfolding self_breaks over
  self-agrees b a ten =
      let c = does AUTO-REFRESH b a ten in
      last-is s p t (does_low AUTO-REFRESH b a ten)
      ∙ ap (λ (v : ℕ). sealed v (rule_unless (rule15 s p t (does_low AUTO-REFRESH b a ten)) 15 0)) (same-earlier s p t AUTO-REFRESH b a ten refl)
      ∙ go (lowest_broken before15 s p t c) refl
      ∙ (λ i. sealed ((sym (last-is s p t c) ∙ refresh-agrees s p t timed b a ten) i) (rule_unless (over-is i) 15 0))
    where
      c : Command
      c = does AUTO-REFRESH b a ten

      go : (o : Option ℕ) → lowest_broken before15 s p t c ≡ o →
          sealed (num o) (rule_unless (rule15 s p t (does_low AUTO-REFRESH b a ten)) 15 0) ≡
          sealed (sealed (num o) (rule_unless (rule15 s p t c) 15 0)) (rule_unless over 15 0)
      go none e = self-last _ over p.sleep.asleep (rested s p.sleep t) (read-over b a ten e)
      go (some r) e = let k = numbered (λ q. not (keeps_rule q s p t c)) r e in rw (k, k)
