-- The lowest broken rule of a part is the one that its deadlines show.
use Prim.Native.Nat.{ℕ, zero, suc, ◌+◌, ◌≤◌, ◌<◌}
use mathlib.Core.Bool.{Bool, true, false, cond, not, ◌&&◌, ◌||◌, or-false, and-false, and-true}
use mathlib.Core.Path.{◌≡◌, refl, ◌∙◌}
use native.Mathlib.Nat.{mod-eq_of_lt}
use native.Mathlib.Omega.{arith}
use lib.Dec.{leb, eqb}
use borrow.Author.Tests.{eqb-true}
use Rattle.reading.specs.Search.{implies, ever, find, after}
use Rattle.reading.specs.Settings.{Settings}
use Rattle.reading.specs.Commands.{Op, ACTIVE, READ, WRITE, BURST-TERMINATE, PRECHARGE, AUTO-REFRESH, MODE-REGISTER-SET, NOP, DESELECT, Command}
use Rattle.reading.specs.Bursts.{reads, rests_from}
use Rattle.reading.specs.Part.{Part, bank_write}
use Rattle.reading.specs.Rules.{every_bank, rules, lowest_broken}
use Rattle.reading.proofs.Cuts.{All}
use Rattle.deadlines.specs.Deadlines.{unmet, quiet_breaks, active_breaks, read_breaks, write_breaks, terminate_breaks, close_breaks, close_all_breaks, refresh_breaks, mode_breaks}
use Rattle.deadlines.proofs.Waits.{both, unasked}
use Rattle.pins.proofs.Commands.{Quietly, nop, deselect}
use Rattle.bridge.specs.Summary.{Timed, held_by, laid, summary}
use Rattle.bridge.proofs.Laid.{stands}
use Rattle.bridge.proofs.Tests.{num, num-cond, after_is, ended_is, cleared-is, leb-later, held-is, open_is, shut-is, closing-is}
use Rattle.bridge.proofs.Bursts.{Given, Late, terminate-is}
use Rattle.bridge.proofs.LastWrite.{LastStays, taken_is}
use Rattle.bridge.proofs.Sleeping.{quiet_is, last-is}

-- the banks that a PRECHARGE names
named-is : (o k : Bool) → implies (o && true) k ≡ (k || not o)
named-is o k = closing-is o true k refl

pub one-is : (o k : ℕ → Bool) (b : ℕ) → b < 4 → every_bank (λ i. implies (o i && eqb i b) (k i)) ≡ (k b || not (o b))
one-is o k zero l = simp and-false (rw (named-is (o 0) (k 0)) (and-true (k 0 || not (o 0))))
one-is o k (suc zero) l = simp and-false (rw (named-is (o 1) (k 1)) (and-true (k 1 || not (o 1))))
one-is o k (suc (suc zero)) l = simp and-false (rw (named-is (o 2) (k 2)) (and-true (k 2 || not (o 2))))
one-is o k (suc (suc (suc zero))) l = simp and-false (named-is (o 3) (k 3))
one-is o k (suc (suc (suc (suc b)))) l = absurd (omega arith)

register-is : (b : ℕ) (m : Bool) → ((eqb b 0 && m) || eqb b 2) ≡ cond (eqb b 0) m (eqb b 2)
register-is b m = go (eqb b 0) refl
  where
    go : (v : Bool) → eqb b 0 ≡ v → ((v && m) || eqb b 2) ≡ cond v m (eqb b 2)
    go true e = rw (eqb-true b 0 e) (or-false m)
    go false e = refl

-- with CKE high, and low
abbrev pub does : Op → ℕ → ℕ → Bool → Command
does o b a ten = record { op = o; bank = b; address = a; A10 = ten; low = false }

abbrev pub does_low : Op → ℕ → ℕ → Bool → Command
does_low o b a ten = record { op = o; bank = b; address = a; A10 = ten; low = true }

-- the number of the lowest broken rule, 0 for none
abbrev pub says : Settings → Part → ℕ → Op → ℕ → ℕ → Bool → ℕ
says s p t o b a ten = num (lowest_broken rules s p t (does o b a ten))

-- what is worked out alike of DESELECT and of NOP needs a proof for NOP alone
pub as-nop : {A : Type 0} (f : Op → A) {o : Op} → Quietly o → f DESELECT ≡ f NOP → f o ≡ f NOP
as-nop f nop e = refl
as-nop f deselect e = e

module _ (s : Settings) (p : Part) (t : ℕ) (timed : Timed s t) where
  pub quiet-agrees : {o : Op} → Quietly o → (b a : ℕ) (ten : Bool) → says s p t o b a ten ≡ quiet_breaks (laid (summary s p)) t
  quiet-agrees {o} q b a ten = as-nop (λ y. says s p t y b a ten) q refl ∙ simp num-cond (quiet_is s p.clock p.sleep t timed)

  pub read-agrees : (b a : ℕ) (ten : Bool) → b < 4 → says s p t READ b a ten ≡ read_breaks (laid (summary s p)) t b
  unfolding read_breaks unmet
  read-agrees b a ten l =
      simp num-cond (rw (last-is s p.clock p.sleep t timed, (stands (summary s p) b l).opened, (stands (summary s p) b l).column, shut-is (p.banks b).opened)
      (simp (leb-later, after_is, ended_is, held-is)))

  pub write-agrees : (b a : ℕ) (ten : Bool) → b < 4 → says s p t WRITE b a ten ≡ write_breaks (laid (summary s p)) t b
  unfolding write_breaks unmet
  write-agrees b a ten l =
      simp num-cond (rw (last-is s p.clock p.sleep t timed, (stands (summary s p) b l).opened, (stands (summary s p) b l).column, shut-is (p.banks b).opened)
      (simp (leb-later, after_is, cleared-is, held-is)))

  pub active-agrees : (b a : ℕ) (ten : Bool) → b < 4 → s.row_bits < 32 → says s p t ACTIVE b a ten ≡ active_breaks s (laid (summary s p)) t b a
  unfolding active_breaks unmet
  active-agrees b a ten l w =
      let at-bank = stands (summary s p) b l in
      simp num-cond
      (rw (last-is s p.clock p.sleep t timed, at-bank.opened, at-bank.rest, open_is (p.banks b).opened, mod-eq_of_lt w)
      (simp (leb-later, after_is, unasked, both)))

  pub terminate-agrees : (b a : ℕ) (ten : Bool) (from : ℕ) → from ≤ t → All (Given from) p.bursts → Late from p.bursts → LastStays from p →
      says s p t BURST-TERMINATE b a ten ≡ terminate_breaks (laid (summary s p)) t
  unfolding terminate_breaks
  terminate-agrees b a ten from l g e y =
      simp num-cond
      (rw (last-is s p.clock p.sleep t timed, terminate-is from t l g e, ← taken_is s p from t l g y, both (leb (held_by reads p.bursts) t))
      (simp (leb-later, after_is)))

  pub close-agrees : (b a : ℕ) → b < 4 → says s p t PRECHARGE b a false ≡ close_breaks (laid (summary s p)) t b
  unfolding close_breaks
  close-agrees b a l =
      simp num-cond
      (rw (
        last-is s p.clock p.sleep t timed,
        one-is (λ i. (p.banks i).opened) (λ i. after s.t_ras (p.banks i).last_active t) b l,
        one-is (λ i. (p.banks i).opened) (λ i. ever (find (bank_write p i) p.bursts) (λ x. leb (rests_from s x + s.t_wr) t)) b l,
        (stands (summary s p) b l).opened,
        (stands (summary s p) b l).close,
        (stands (summary s p) b l).written,
        open_is (p.banks b).opened,
      )
      (simp (leb-later, after_is, ended_is)))

  pub close-all-agrees : (b a : ℕ) → says s p t PRECHARGE b a true ≡ close_all_breaks (laid (summary s p)) t
  unfolding close_all_breaks
  close-all-agrees b a = simp num-cond (rw (last-is s p.clock p.sleep t timed) (simp (leb-later, after_is, ended_is, open_is, named-is)))

  pub refresh-agrees : (b a : ℕ) (ten : Bool) → says s p t AUTO-REFRESH b a ten ≡ refresh_breaks (laid (summary s p)) t
  unfolding refresh_breaks unmet
  refresh-agrees b a ten = simp num-cond (rw (last-is s p.clock p.sleep t timed) (simp (leb-later, after_is, cleared-is, open_is, both)))

  pub mode-agrees : (b a : ℕ) (ten : Bool) → says s p t MODE-REGISTER-SET b a ten ≡ mode_breaks (laid (summary s p)) t b a
  unfolding mode_breaks refresh_breaks unmet
  mode-agrees b a ten = simp num-cond (rw (last-is s p.clock p.sleep t timed) (simp (leb-later, after_is, cleared-is, open_is, register-is, both)))
