-- The refresh clock is a deadline: an event is in time exactly before the first cycle at which nine are owed, and an AUTO
-- REFRESH puts that off by tREFI if one is owed.
use Prim.Native.Nat.{ℕ, suc, ◌+◌, ◌-◌, ◌*◌, ◌/◌, ◌≤◌, ◌<◌}
use mathlib.Core.Bool.{Bool, true, false, cond}
use mathlib.Core.Path.{◌≡◌, refl, sym, ap, ◌∙◌}
use native.Mathlib.Nat.{add-mul, suc-mul, div-lt_iff_lt-mul, le-div_iff_mul-le}
use native.Mathlib.Omega.{arith}
use lib.Dec.{leb, ltb}
use borrow.Author.Tests.{leb-true, leb-false, le-leb, lt-leb, lt-ltb, le-ltb}
use Rattle.reading.specs.Settings.{Settings}
use Rattle.reading.specs.RefreshClock.{Clock, owed, clock_after_refresh, in_time}
use Rattle.deadlines.specs.Deadlines.{overdue_after}
use Rattle.bridge.specs.Summary.{overdue_by}

module _ (s : Settings) (ticks : 0 < s.t_refi) (k : Clock) (t : ℕ) where
  abbrev R : ℕ
  R = s.t_refi

  -- the multiples that have passed
  abbrev passed : ℕ
  passed = (t - k.origin) / R

  -- fewer than n + 1 before the cycle of that multiple, and as many from it on
  fewer : (n : ℕ) → passed < suc n → t < k.origin + suc n * R
  fewer n l = omega (arith, suc-mul n R, ticks, (div-lt_iff_lt-mul ticks).0 l)

  as_many : (n : ℕ) → suc n ≤ passed → k.origin + suc n * R ≤ t
  as_many n l = omega (arith, suc-mul n R, ticks, (le-div_iff_mul-le ticks).0 l)

  ninth : (9 + k.paid) * R ≡ suc (8 + k.paid) * R
  ninth = ap (λ (n : ℕ). n * R) (omega arith)

  pub in-time-is : in_time s k t ≡ ltb t (overdue_by s k)
  in-time-is = go (leb (owed s k t) 8) refl
    where
      go : (v : Bool) → leb (owed s k t) 8 ≡ v → v ≡ ltb t (overdue_by s k)
      go true e = sym (lt-ltb t (overdue_by s k) (omega (arith, ninth, fewer (8 + k.paid) (omega (arith, leb-true (owed s k t) 8 e)))))
      go false e = sym (le-ltb t (overdue_by s k) (omega (arith, ninth, as_many (8 + k.paid) (omega (arith, leb-false (owed s k t) 8 e)))))

  -- by how much the deadline is above the cycle at which the next one is owed
  eight : (9 + k.paid) * R ≡ suc k.paid * R + 8 * R
  eight = omega (arith, ninth, suc-mul (8 + k.paid) R, suc-mul k.paid R, add-mul 8 k.paid R)

  tenth : (9 + (k.paid + 1)) * R ≡ (9 + k.paid) * R + R
  tenth = ap (λ (n : ℕ). n * R) (omega arith) ∙ suc-mul (9 + k.paid) R

  pub refreshed-is : overdue_by s (clock_after_refresh s t k) ≡ overdue_after s t (overdue_by s k)
  refreshed-is = go (leb 1 (owed s k t)) refl
    where
      go : (v : Bool) → leb 1 (owed s k t) ≡ v →
          k.origin + (9 + (k.paid + cond v 1 (owed s k t))) * R ≡ overdue_after s t (overdue_by s k)
      go true e =
          let due : overdue_by s k ≤ t + 8 * R = omega (arith, eight, as_many k.paid (omega (arith, leb-true 1 (owed s k t) e))) in
          rw (le-leb (overdue_by s k) (t + 8 * R) due) (omega (arith, tenth))
      go false e =
          let none : owed s k t ≡ 0 = omega (arith, leb-false 1 (owed s k t) e) in
          let due : t + 8 * R < overdue_by s k = omega (arith, eight, fewer k.paid (omega (arith, none))) in
          let same : (9 + (k.paid + owed s k t)) * R ≡ (9 + k.paid) * R = ap (λ (n : ℕ). (9 + n) * R) (omega (arith, none)) in
          rw (lt-leb (overdue_by s k) (t + 8 * R) due) (omega (arith, same))
