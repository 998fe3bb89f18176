-- A schedule never sleeps: CKE stays high, and the part behind it is awake as at the start.
use Prim.Native.Nat.{ℕ, ◌^◌, ◌<◌}
use mathlib.Core.Bool.{Bool, true, false, cond, not, ◌&&◌, ◌||◌, or-true}
use mathlib.Core.List.{List, [], ◌∷◌}
use mathlib.Core.Option.{none}
use mathlib.Core.Path.{◌≡◌, refl, ap, ◌∙◌}
use native.Mathlib.Omega.{arith}
use lib.Dec.{eqb}
use Rattle.reading.specs.Search.{implies, every}
use Rattle.reading.specs.Words.{bit}
use Rattle.reading.specs.Settings.{Settings}
use Rattle.reading.specs.RefreshClock.{in_time}
use Rattle.reading.specs.Capture.{Event}
use Rattle.reading.specs.Commands.{Command, AUTO-REFRESH, is, quiet, command_of}
use Rattle.reading.specs.Sleep.{Sleep, sleep_at_start, in_self_refresh, sleep_after, sleep_allows}
use Rattle.reading.specs.Part.{Part, start, step, run, clock_after}
use Rattle.reading.specs.Rules.{rule14, rule15, data_over}
use Rattle.capture.proofs.Rising.{Low}
use Rattle.plan.specs.Behind.{part_of}
use Rattle.plan.proofs.Reached.{Reached}

-- bit 20 is above the pins of a schedule
pub cke-high : (pins : ℕ) → pins < 2 ^ 20 → (command_of pins).low ≡ false
cke-high pins l = let z : bit 20 pins ≡ 0 = omega arith in ap (λ (b : ℕ). eqb b 1) z

pub all-high : (es : List Event) → Low (2 ^ 20) es → every (λ e. not (command_of e.pins).low) es ≡ true
all-high [] r = refl
all-high (e ∷ es) r = rw (cke-high e.pins r.0) (all-high es r.1)

-- a command with CKE high, of a part that never slept
module _ (s : Settings) (p : Part) (e : p.sleep ≡ sleep_at_start) (t : ℕ) (c : Command) where
  pub awake-asked : rule14 s p t c ≡ in_time s p.clock t
  awake-asked = ap (λ (x : Sleep). implies (not (in_self_refresh x)) (in_time s p.clock t)) e

  pub awake-clock : clock_after s t c p.sleep p.clock ≡ clock_after s t c sleep_at_start p.clock
  awake-clock = ap (λ (x : Sleep). clock_after s t c x p.clock) e

  module _ (high : c.low ≡ false) where
    pub awake-allowed : rule15 s p t c ≡ true
    awake-allowed =
        ap (λ (x : Sleep). sleep_allows s x (data_over p t) t c) e
        ∙ ap (λ (low : Bool). cond low ((quiet c || is AUTO-REFRESH c) && (data_over p t && true)) (quiet c || true)) high
        ∙ or-true (quiet c)

    pub awake-stays : sleep_after t c p.sleep ≡ sleep_at_start
    awake-stays = ap (sleep_after t c) e ∙ go c.low high
      where
        go : (low : Bool) → low ≡ false →
            ◌≡◌ {A = Sleep} (record { asleep = low; self = cond (low && true) (is AUTO-REFRESH c) false; left = cond (low && true) none none }) sleep_at_start
        go true k = let z : ◌≡◌ {A = ℕ} 0 1 = cc in absurd (omega arith)
        go false k = refl

awake-on : (s : Settings) (p : Part) → p.sleep ≡ sleep_at_start → (es : List Event) → Low (2 ^ 20) es → (run s p es).sleep ≡ sleep_at_start
awake-on s p e [] r = e
awake-on s p e (x ∷ es) r =
    awake-on s (step s p x) (awake-stays s p e x.cycle (command_of x.pins) (cke-high x.pins r.0)) es r.1

pub awake : {s : Settings} {asked : List ℕ} {es : List Event} → Reached s asked es → (part_of s es).sleep ≡ sleep_at_start
awake {s} {es = es} r = awake-on s (start s) refl es r.low

pub awake-now : {s : Settings} {asked : List ℕ} {es : List Event} → Reached s asked es → (part_of s es).sleep.asleep ≡ false
awake-now r = ap (λ (x : Sleep). x.asleep) (awake r)

-- no command has CKE low, and the part has neither entered sleep nor left it
pub record Sleepless (s : Settings) (es : List Event) : Type 0 where
  pub high : every (λ e. not (command_of e.pins).low) es ≡ true
  pub part : (part_of s es).sleep ≡ sleep_at_start

pub sleepless : {s : Settings} {asked : List ℕ} {es : List Event} → Reached s asked es → Sleepless s es
sleepless {s} {es = es} r = record { high = all-high es r.low; part = awake r }
