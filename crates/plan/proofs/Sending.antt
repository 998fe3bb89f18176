-- One command sent behind a list of events: where it goes, and what holds after it.
use Prim.Native.Nat.{ℕ, suc, ◌+◌, ◌≤◌}
use mathlib.Core.Bool.{Bool, true, false, cond, not, ◌&&◌}
use mathlib.Core.List.{List, [], ◌∷◌, ◌++◌}
use mathlib.Core.Option.{Option, none, some}
use mathlib.Core.Path.{◌≡◌, refl, ◌∙◌}
use native.Mathlib.Nat.{le_refl}
use native.Mathlib.Omega.{arith}
use lib.Dec.{leb}
use lib.ListN.{length, length-append}
use borrow.Author.Tests.{leb-true, leb-false, le-leb, lt-leb}
use Rattle.reading.specs.Search.{every, find, later}
use Rattle.reading.specs.Settings.{Settings}
use Rattle.reading.specs.Capture.{Event, last_cycle}
use Rattle.reading.specs.Commands.{command_of}
use Rattle.reading.specs.Part.{Part, start, part_after, step, run}
use Rattle.reading.specs.Rules.{keeps_rule, rule14, rule15, placing, broken_by}
use Rattle.reading.specs.Verdict.{clean, broken_or, judge_from, verdict_of, judge_by, verdict_by}
use Rattle.reading.specs.Schedule.{cuts_nothing, passes, goes, earliest, free_from, last_from, placed, send}
use Rattle.reading.proofs.Laws.{both, later_first, later_second}
use Rattle.reading.proofs.Found.{earliest-is}
use Rattle.memory.proofs.Part.{run_more}
use Rattle.plan.specs.Behind.{part_of}
use Rattle.plan.specs.Margin.{wait_of}
use Rattle.plan.proofs.Near.{longest, later-most}

-- ---- the earliest cycle of a test that holds from m on

earliest-from : (f : ℕ → Bool) (m from n : ℕ) → ((t : ℕ) → from ≤ t → f t ≡ leb m t) → m ≤ from + n → earliest f from n ≡ later from m
earliest-from f m from n is l = go (leb from m) refl
  where
    go : (v : Bool) → leb from m ≡ v → earliest f from n ≡ cond v m from
    go true e =
        earliest-is f from n m (leb-true from m e) l (is m (leb-true from m e) ∙ le-leb m m (le_refl m)) (λ u k j. is u k ∙ lt-leb m u j)
    go false e =
        earliest-is f from n from (le_refl from) (omega arith) (is from (le_refl from) ∙ le-leb m from (omega (arith, leb-false from m e)))
        (λ u k j. absurd (omega arith))

-- ---- one more event

free_more : (from : ℕ) (es : List Event) (e : Event) → free_from from (es ++ (e ∷ [])) ≡ suc e.cycle
unfolding free_from
free_more from [] e = refl
free_more from (x ∷ es) e = free_more (suc x.cycle) es e

last_more : (t : ℕ) (es : List Event) (e : Event) → last_from t (es ++ (e ∷ [])) ≡ e.cycle
unfolding last_from
last_more t [] e = refl
last_more t (x ∷ es) e = last_more x.cycle es e

clean-more : (s : Settings) (p : Part) (i : ℕ) (es : List Event) (e : Event) → judge_from s p i es ≡ clean → broken_by s (run s p es) e ≡ none →
    judge_from s p i (es ++ (e ∷ [])) ≡ clean
unfolding judge_by
clean-more s p i [] e c n = rw n
clean-more s p i (x ∷ es) e c n = go (broken_by s p x) c (λ k. clean-more s (step s p x) (suc i) es e k n)
  where
    go : (o : Option ℕ) → broken_or o i x.cycle (judge_from s (step s p x) (suc i) es) ≡ clean →
        (judge_from s (step s p x) (suc i) es ≡ clean → judge_from s (step s p x) (suc i) (es ++ (e ∷ [])) ≡ clean) →
        broken_or o i x.cycle (judge_from s (step s p x) (suc i) (es ++ (e ∷ []))) ≡ clean
    go none k ih = ih k
    go (some r) k ih = let z : ◌≡◌ {A = ℕ} 0 1 = cc in absurd (omega arith)

-- a list of rules that pass, and others
none-with : (f : ℕ → Bool) (others : List ℕ) → find (λ r. not (f r)) others ≡ none → (rs : List ℕ) → every f rs ≡ true →
    find (λ r. not (f r)) (rs ++ others) ≡ none
none-with f others a [] k = a
none-with f others a (r ∷ rs) k = go (f r) k (none-with f others a rs)
  where
    go : (v : Bool) → (v && every f rs) ≡ true → (every f rs ≡ true → find (λ x. not (f x)) (rs ++ others) ≡ none) →
        cond (not v) (some r) (find (λ x. not (f x)) (rs ++ others)) ≡ none
    go true k ih = ih k
    go false k ih = let z : ◌≡◌ {A = ℕ} 0 1 = cc in absurd (omega arith)

-- ---- a command behind a list of events

module _ (s : Settings) (es : List Event) (pins : ℕ) where
  abbrev event : Event
  event = record { cycle = placed placing s es pins; pins = pins }

  pub free-sent : free_from 0 (send placing s es pins) ≡ suc (placed placing s es pins)
  unfolding send
  free-sent = free_more 0 es event

  pub last-sent : last_from 0 (send placing s es pins) ≡ placed placing s es pins
  unfolding send
  last-sent = last_more 0 es event

  pub length-sent : length (send placing s es pins) ≡ suc (length es)
  unfolding send
  length-sent = omega (arith, length-append es (event ∷ []))

  pub part-sent : part_of s (send placing s es pins) ≡ part_after s (part_of s es) (placed placing s es pins) (command_of pins)
  unfolding send
  part-sent = run_more s (start s) es event

  abbrev keeps : ℕ → Bool
  keeps r = keeps_rule r s (part_of s es) (placed placing s es pins) (command_of pins)

  -- where rules 1 to 13 pass it, and 14 and 15 too, it is judged clean
  pub clean-sent : verdict_of s es ≡ clean → passes placing s (part_of s es) pins (placed placing s es pins) ≡ true →
      rule14 s (part_of s es) (placed placing s es pins) (command_of pins) ≡ true →
      rule15 s (part_of s es) (placed placing s es pins) (command_of pins) ≡ true → verdict_of s (send placing s es pins) ≡ clean
  unfolding verdict_by send passes
  clean-sent c k l m = clean-more s (start s) 0 es event c (none-with keeps (14 ∷ 15 ∷ []) (rw (l, m)) placing k)

-- from the cycle `soonest` on, which is not far, rules 1 to 13 pass it and it cuts nothing
pub record Goes (s : Settings) (es : List Event) (pins soonest : ℕ) : Type 0 where
  pub going : (t : ℕ) → free_from 0 es ≤ t → goes placing s (part_of s es) pins t ≡ leb soonest t
  pub soon : soonest ≤ free_from 0 es + wait_of s
  pub short : wait_of s ≤ longest

module _ {s : Settings} {es : List Event} {pins soonest : ℕ} (w : Goes s es pins soonest) where
  pub goes_at : placed placing s es pins ≡ later (free_from 0 es) soonest
  unfolding placed
  goes_at = earliest-from (goes placing s (part_of s es) pins) soonest (free_from 0 es) last_cycle w.going (omega (arith, w.soon, w.short))

  pub goes-free : free_from 0 es ≤ placed placing s es pins
  goes-free = rw goes_at (later_first (free_from 0 es) soonest)

  pub goes-soonest : soonest ≤ placed placing s es pins
  goes-soonest = rw goes_at (later_second (free_from 0 es) soonest)

  pub goes-soon : placed placing s es pins ≤ free_from 0 es + wait_of s
  goes-soon = rw goes_at (later-most (free_from 0 es) soonest (free_from 0 es + wait_of s) (omega arith) w.soon)

  -- the search ends where it should: at a cycle that rules 1 to 13 pass, and where nothing is cut
  pub goes-there : (passes placing s (part_of s es) pins (placed placing s es pins) ≡ true)
      × (cuts_nothing s (part_of s es) (placed placing s es pins) (command_of pins) ≡ true)
  unfolding goes
  goes-there =
      both (passes placing s (part_of s es) pins (placed placing s es pins)) _
      (w.going (placed placing s es pins) goes-free ∙ le-leb soonest (placed placing s es pins) goes-soonest)
