-- Rules 14 and 15 of the part are comparisons with the places of sleep.
use Prim.Native.Nat.{ℕ, ◌<◌}
use mathlib.Core.Bool.{Bool, true, false, cond, not, ◌&&◌, ◌||◌, or-false}
use mathlib.Core.Option.{Option, none, some}
use mathlib.Core.Path.{◌≡◌, refl, sym, ap, ◌∙◌}
use native.Mathlib.Omega.{arith}
use lib.Dec.{leb, ltb}
use borrow.Author.Tests.{lt-ltb, le-ltb}
use Rattle.reading.specs.Search.{implies}
use Rattle.reading.specs.Settings.{Settings}
use Rattle.reading.specs.RefreshClock.{Clock, clock_after_refresh, clock_after_sleep, in_time}
use Rattle.reading.specs.Sleep.{Sleep, rested}
use Rattle.deadlines.specs.Deadlines.{FAR, rule_unless, overdue_after, quiet_after, leave_after, power_up_after, wake_after, low_after, enter_after, self_after}
use Rattle.bridge.specs.Summary.{SleepHeld, Held, Timed, laid, overdue_by, sleep_held}
use Rattle.bridge.proofs.Laid.{timed as at-times}
use Rattle.bridge.proofs.Clock.{in-time-is, refreshed-is}
use Rattle.bridge.proofs.Tests.{after_is}

pub never : (t : ℕ) → ltb t 0 ≡ false
never t = le-ltb t 0 (omega arith)

-- rules 14 and 15 by the places
abbrev timely_by : SleepHeld → ℕ → Bool
timely_by h t = ltb t h.overdue || ltb t h.asleep

module _ (s : Settings) (k : Clock) (x : Sleep) (t : ℕ) (timed : Timed s t) where
  abbrev h : SleepHeld
  h = sleep_held s k x

  abbrev asked : Bool
  asked = implies (not (x.asleep && x.self)) (in_time s k t)

  timely-is : asked ≡ timely_by h t
  timely-is = go x.asleep x.self
    where
      go : (a v : Bool) →
          implies (not (a && v)) (in_time s k t) ≡
          (ltb t (cond a 0 (overdue_by s k)) || ltb t (cond a (cond v FAR (overdue_by s k)) 0))
      go true true = rw (never t, lt-ltb t FAR timed.early)
      go true false = rw (never t) (in-time-is s timed.ticks k t)
      go false v = rw (never t) (in-time-is s timed.ticks k t ∙ sym (or-false (ltb t (overdue_by s k))))

  pub quiet_is : rule_unless asked 14 (rule_unless (cond x.asleep true true) 15 0) ≡ rule_unless (timely_by h t) 14 0
  quiet_is = rw timely-is (ap (λ (v : Bool). rule_unless (timely_by h t) 14 (rule_unless v 15 0)) (go x.asleep))
    where
      go : (a : Bool) → cond a true true ≡ true
      go true = refl
      go false = refl

  -- of a command that waits
  pub last-is : rule_unless asked 14 (rule_unless (cond x.asleep false (rested s x t)) 15 0) ≡
      rule_unless (timely_by h t) 14 (rule_unless (ltb t h.overdue && leb h.wake t) 15 0)
  last-is = rw (timely-is, after_is (cond x.self s.t_xsr s.t_xp) x.left t) (go x.asleep (cond x.self FAR (overdue_by s k)) (leb h.wake t))
    where
      go : (a : Bool) (far : ℕ) (w : Bool) →
          rule_unless (ltb t (cond a 0 (overdue_by s k)) || ltb t (cond a far 0)) 14 (rule_unless (cond a false w) 15 0) ≡
          rule_unless (ltb t (cond a 0 (overdue_by s k)) || ltb t (cond a far 0)) 14 (rule_unless (ltb t (cond a 0 (overdue_by s k)) && w) 15 0)
      go true far w = rw (never t)
      go false far w = rw (never t) (awake (ltb t (overdue_by s k)) w)
        where
          awake : (v w : Bool) → rule_unless (v || false) 14 (rule_unless w 15 0) ≡ rule_unless (v || false) 14 (rule_unless (v && w) 15 0)
          awake true w = refl
          awake false w = refl

-- ---- what sleep leaves in the places

abbrev pub slept : SleepHeld → Held → Held
slept h x = at-times x.busy h x

abbrev pub sleep_of : Bool → Bool → Option ℕ → Sleep
sleep_of a v left = record { asleep = a; self = v; left = left }

module _ (s : Settings) (t : ℕ) (k : Clock) where
  -- after an event with CKE high
  abbrev risen : Bool → Bool → Option ℕ → SleepHeld
  risen a v left = sleep_held s (cond ((a && true) && v) (clock_after_sleep s t) k) (sleep_of false v (cond (a && true) (some t) left))

  -- awake nothing changes
  pub stays-laid : (a v : Bool) (left : Option ℕ) → a ≡ false → risen a v left ≡ sleep_held s k (sleep_of a v left)
  stays-laid true v left e = let z : ◌≡◌ {A = ℕ} 0 1 = cc in absurd (omega arith)
  stays-laid false v left e = refl

  -- but for the refresh clock at an AUTO REFRESH
  pub refresh-laid : 0 < s.t_refi → (a v : Bool) (left : Option ℕ) → a ≡ false →
      sleep_held s (cond ((a && true) && v) (clock_after_sleep s t) (clock_after_refresh s t k)) (sleep_of false v (cond (a && true) (some t) left)) ≡
      record {
        overdue = overdue_after s t (sleep_held s k (sleep_of a v left)).overdue;
        wake = (sleep_held s k (sleep_of a v left)).wake;
        asleep = (sleep_held s k (sleep_of a v left)).asleep;
        self = (sleep_held s k (sleep_of a v left)).self;
      }
  refresh-laid ticks true v left e = let z : ◌≡◌ {A = ℕ} 0 1 = cc in absurd (omega arith)
  refresh-laid ticks false v left e =
      let h = sleep_held s k (sleep_of false v left) in
      ap (λ (due : ℕ). record { overdue = due; wake = h.wake; asleep = h.asleep; self = h.self }) (refreshed-is s ticks k t)

  pub quiet-laid : Timed s t → (a v : Bool) (left : Option ℕ) (x : Held) → implies (not (a && v)) (in_time s k t) ≡ true →
      laid (slept (risen a v left) x) ≡ quiet_after s (laid (slept (sleep_held s k (sleep_of a v left)) x)) t
  unfolding quiet_after leave_after power_up_after wake_after
  quiet-laid timed true true left x e = rw (never t)
  quiet-laid timed true false left x e = rw (never t)
  quiet-laid timed false v left x e = rw (sym (in-time-is s timed.ticks k t) ∙ e)

  -- after an event with CKE low
  abbrev fallen : Bool → Bool → Option ℕ → Bool → SleepHeld
  fallen a v left refresh =
      sleep_held s (cond ((a && false) && v) (clock_after_sleep s t) k)
      (sleep_of true (cond (not a) refresh v) (cond (not a) none (cond (a && false) (some t) left)))

  pub low-laid : Timed s t → (a v : Bool) (left : Option ℕ) (x : Held) → implies (not (a && v)) (in_time s k t) ≡ true →
      laid (slept (fallen a v left false) x) ≡ low_after (laid (slept (sleep_held s k (sleep_of a v left)) x)) t
  unfolding low_after enter_after
  low-laid timed true true left x e = rw (lt-ltb t FAR timed.early)
  low-laid timed true false left x e = rw (sym (in-time-is s timed.ticks k t) ∙ e)
  low-laid timed false v left x e = rw (never t)

  pub self-laid : (a v : Bool) (left : Option ℕ) (x : Held) → a ≡ false →
      laid (slept (fallen a v left true) x) ≡ self_after (laid (slept (sleep_held s k (sleep_of a v left)) x))
  unfolding self_after
  self-laid true v left x e = let z : ◌≡◌ {A = ℕ} 0 1 = cc in absurd (omega arith)
  self-laid false v left x e = refl
