-- What holds behind the events that a schedule sends, whether or not they come in time for rule 14.
use Prim.Native.Nat.{ℕ, suc, ◌+◌, ◌*◌, ◌^◌, ◌≤◌, ◌<◌}
use mathlib.Core.Bool.{true, false}
use mathlib.Core.List.{List, [], ◌∷◌, map}
use mathlib.Core.Path.{◌≡◌, refl, sym, ap, ◌∙◌, subst}
use native.Mathlib.Omega.{arith}
use lib.ListN.{length, get_or, set}
use Rattle.reading.specs.Search.{later}
use Rattle.reading.specs.Settings.{Settings}
use Rattle.reading.specs.Capture.{Event}
use Rattle.reading.specs.Commands.{READ, WRITE, MODE-REGISTER-SET, Command, is, among, command_of}
use Rattle.reading.specs.Part.{Part, part_after, cut_by, last_read, last_write}
use Rattle.reading.specs.Rules.{keeps_rule, placing}
use Rattle.reading.specs.Schedule.{cuts_nothing, passes, free_from, placed, send}
use Rattle.reading.proofs.Six.{Rest, start-rest, next-rest}
use Rattle.words.proofs.Search.{every-at}
use Rattle.capture.proofs.Rising.{Rises, Low, rises-more, low-more}
use Rattle.bridge.specs.Summary.{laid, summary}
use Rattle.bridge.proofs.Next.{Sound}
use Rattle.bridge.proofs.Kept.{kept-plain}
use Rattle.bridge.proofs.Turn.{start-laid, start-sound}
use Rattle.memory.specs.Serving.{nil}
use Rattle.memory.proofs.Part.{Serving}
use Rattle.plan.specs.Behind.{part_of, deadlines_of, FREE, EVENTS, cut_end, stood, standing_of}
use Rattle.plan.specs.Margin.{wait_of}
use Rattle.plan.proofs.Near.{Near, longest, near-start}
use Rattle.plan.proofs.Sending.{free-sent, length-sent, part-sent, Goes, goes_at, goes-free, goes-soon, goes-there}
use Rattle.plan.proofs.Uncut.{all_stay}

-- the bursts are those of some requests, the latest first, each with all its pairs
pub record Reached (s : Settings) (asked : List ℕ) (es : List Event) : Type 0 where
  pub serving : Serving s (part_of s es) asked
  pub rest : Rest s (part_of s es)
  pub sound : Sound (free_from 0 es) (part_of s es)
  pub near : Near s (free_from 0 es) (deadlines_of s es)
  pub rises : Rises 0 es
  -- no bit above the pins
  pub low : Low (2 ^ 20) es
  pub early : free_from 0 es ≤ suc longest * length es

pub start-reached : (s : Settings) → Reached s [] []
unfolding deadlines_of free_from
start-reached s =
    record {
      serving = record { mode = refl; bursts = nil };
      rest = start-rest s;
      sound = start-sound s;
      near = subst (λ d. Near s 0 d) (start-laid s) (near-start s);
      rises = tt;
      low = tt;
      early = omega arith;
    }

-- what passes keeps rule 3, rule 9 and rule 10
held : (s : Settings) (p : Part) (pins t : ℕ) → passes placing s p pins t ≡ true → (i : ℕ) → keeps_rule (get_or placing i 0) s p t (command_of pins) ≡ true
unfolding passes
held s p pins t e i = every-at (λ r. keeps_rule r s p t (command_of pins)) 0 refl placing e i

-- what holds of a command that was sent: where it went, and the deadlines d and the rest k that it leaves, by its cycle
pub record Sent (s : Settings) (asked : List ℕ) (es : List Event) (pins soonest : ℕ) (d k : ℕ → List ℕ) : Type 0 where
  pub cycle : placed placing s es pins ≡ later (free_from 0 es) soonest
  pub not-before : free_from 0 es ≤ placed placing s es pins
  pub soon : placed placing s es pins ≤ free_from 0 es + wait_of s
  pub short : wait_of s ≤ longest
  pub small : pins < 2 ^ 20
  pub passed : passes placing s (part_of s es) pins (placed placing s es pins) ≡ true
  pub leaves : deadlines_of s (send placing s es pins) ≡ d (placed placing s es pins)
  pub stands : standing_of s (send placing s es pins) ≡ set (set (k (placed placing s es pins)) FREE (suc (placed placing s es pins))) EVENTS (suc (length es))
  pub reached : Reached s asked (send placing s es pins)

module _ {s : Settings} {asked : List ℕ} {es : List Event} (r : Reached s asked es) (pins : ℕ) (c : Command) (carried : command_of pins ≡ c) where
  abbrev next : Part
  next = part_after s (part_of s es) (placed placing s es pins) c

  pub part-is : part_of s (send placing s es pins) ≡ next
  part-is = part-sent s es pins ∙ ap (part_after s (part_of s es) (placed placing s es pins)) carried

  pub stays : {soonest : ℕ} → Goes s es pins soonest → map (cut_by s (part_of s es) (placed placing s es pins) c) (part_of s es).bursts ≡ (part_of s es).bursts
  stays w =
      all_stay s (part_of s es) (placed placing s es pins) c
      (ap (cuts_nothing s (part_of s es) (placed placing s es pins)) (sym carried) ∙ (goes-there w).1)

  -- a command that gives no burst and leaves the mode leaves a sound part
  pub plain-sound : {soonest : ℕ} → Goes s es pins soonest → among (READ ∷ WRITE ∷ []) c ≡ false → is MODE-REGISTER-SET c ≡ false →
      Sound (suc (placed placing s es pins)) next
  plain-sound w e m =
      let t = placed placing s es pins in
      let passed = held s (part_of s es) pins t (goes-there w).0 in
      kept-plain s (part_of s es) (free_from 0 es) t (goes-free w) r.sound c e m (rw (← carried) (passed 2)) (rw (← carried) (passed 8))

  pub sent : {soonest : ℕ} → Goes s es pins soonest → pins < 2 ^ 20 → {now : List ℕ} → Serving s next now →
      Sound (suc (placed placing s es pins)) next → {d : ℕ → List ℕ} → laid (summary s next) ≡ d (placed placing s es pins) →
      Near s (suc (placed placing s es pins)) (d (placed placing s es pins)) →
      {k : ℕ → List ℕ} →
      stood (λ b. (next.banks b).row) (cut_end (last_read next)) (cut_end (last_write next)) (suc (placed placing s es pins)) (suc (length es)) ≡
      set (set (k (placed placing s es pins)) FREE (suc (placed placing s es pins))) EVENTS (suc (length es)) →
      Sent s now es pins soonest d k
  unfolding deadlines_of standing_of send
  sent w small serving sound {d} leaves near {k} stands =
      let t = placed placing s es pins in
      let left : laid (summary s (part_of s (send placing s es pins))) ≡ d t = ap (λ (q : Part). laid (summary s q)) part-is ∙ leaves in
      record {
        cycle = goes_at w;
        not-before = goes-free w;
        soon = goes-soon w;
        short = w.short;
        small = small;
        passed = (goes-there w).0;
        leaves = left;
        stands =
            (λ i. stood (λ b. ((part-is i).banks b).row) (cut_end (last_read (part-is i))) (cut_end (last_write (part-is i))) (free-sent s es pins i) (length-sent s es pins i))
            ∙ stands;
        reached =
            record {
              serving = rw part-is serving;
              rest = rw part-is (next-rest s (part_of s es) t c (rw (← carried) (held s (part_of s es) pins t (goes-there w).0 7)) r.rest);
              sound = rw (free-sent s es pins, part-is) sound;
              near = rw (free-sent s es pins, left) near;
              rises = rises-more 0 es (record { cycle = t; pins = pins }) r.rises (goes-free w);
              low = low-more (2 ^ 20) es (record { cycle = t; pins = pins }) r.low small;
              early = omega (arith, free-sent s es pins, length-sent s es pins, goes-soon w, w.short, r.early);
            };
      }
