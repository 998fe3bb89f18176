-- A clean capture, event by event: the part before each is sound, and the event breaks no rule.
use Prim.Native.Nat.{ℕ, zero, suc, ◌≤◌, ◌<◌}
use mathlib.Core.List.{List}
use mathlib.Core.Option.{Option, none, some}
use mathlib.Core.Path.{◌≡◌, refl, sym, ap, ◌∙◌, subst}
use native.Mathlib.Numerals.{add-one}
use native.Mathlib.Omega.{arith}
use Rattle.reading.specs.Settings.{Settings, settings_of}
use Rattle.reading.specs.Capture.{event_at}
use Rattle.reading.specs.Part.{Part}
use Rattle.reading.specs.Rules.{broken_by}
use Rattle.reading.specs.Verdict.{Verdict, clean, broken_or, verdict_of}
use Rattle.deadlines.specs.Deadlines.{start_of, pace_of}
use Rattle.steps.specs.Steps.{step_after, pace_after}
use Rattle.bridge.proofs.Tests.{num}
use Rattle.bridge.proofs.Next.{Sound}
use Rattle.judge.specs.Meaning.{Fit, events_in, part_at}
use Rattle.judge.proofs.Walking.{Before, begins, breaks-is, unfolds, goes_on}

none-broken : (o : Option ℕ) (i t : ℕ) (x : Verdict) → broken_or o i t x ≡ clean → o ≡ none
none-broken none i t x e = refl
none-broken (some r) i t x e = let z : ◌≡◌ {A = ℕ} 0 1 = cc in absurd (omega arith)

module _ (settings bytes : List ℕ) (n : ℕ) where
  abbrev s : Settings
  s = settings_of settings

  -- before event i of a clean capture
  pub record Sounds (i : ℕ) : Type 0 where
    pub from : ℕ
    pub sound : Sound from (part_at s bytes i)
    pub above : from ≤ (event_at bytes i).cycle
    pub kept : broken_by s (part_at s bytes i) (event_at bytes i) ≡ none

  -- the walk comes to every event
  record Comes (i : ℕ) : Type 0 where
    pub d : List ℕ
    pub pace : List ℕ
    pub before : Before settings bytes n d pace i

  module _ (fit : Fit settings bytes n) (k : verdict_of s (events_in bytes n) ≡ clean) where
    none_here : {d pace : List ℕ} {i : ℕ} (b : Before settings bytes n d pace i) → i < n → broken_by s b.reached (event_at bytes i) ≡ none
    none_here {d} {pace} {i} b l = none-broken _ i _ _ (sym (unfolds settings bytes n fit d pace i b l) ∙ k)

    comes : (i : ℕ) → i ≤ n → Comes i
    comes zero l = record { d = start_of s; pace = pace_of s.mode; before = begins settings bytes n (record { deadlines = refl; paced = refl }) }
    comes (suc i) l =
        let c = comes i (omega arith) in
        let b = c.before in
        let m : i < n = omega arith in
        record {
          d = step_after s c.d c.pace (event_at bytes i).cycle (event_at bytes i).pins;
          pace = pace_after c.pace (event_at bytes i).pins;
          before =
              subst (Before settings bytes n _ _) (add-one i)
              (goes_on settings bytes n fit c.d c.pace i b m (breaks-is settings bytes n fit c.d c.pace i b m ∙ ap num (none_here b m)));
        }

    pub clean-sound : (i : ℕ) → i < n → Sounds i
    clean-sound i l =
        let b = (comes i (omega arith)).before in
        record {
          from = b.from;
          sound = subst (Sound b.from) b.after b.sound;
          above = b.above l;
          kept = ap (λ (p : Part). broken_by s p (event_at bytes i)) (sym b.after) ∙ none_here b l;
        }
