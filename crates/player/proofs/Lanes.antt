-- Lanes of a word, one after another.
use Prim.Native.Nat.{ℕ, zero, suc, ◌+◌, ◌*◌, ◌/◌, ◌%◌, ◌^◌, ◌<◌}
use mathlib.Core.Path.{◌≡◌, sym, ap, ◌∙◌}
use native.Mathlib.Nat.{mod-eq_of_lt}
use native.Mathlib.Omega.{arith}
use borrow.Author.Tests.{eq-eqb, ne_eqb}
use Rattle.reading.specs.Words.{bit}
use Rattle.reading.specs.Memory.{lane_of, with_lane, merged}
use Rattle.settings.proofs.Shifts.{one_shifted}
use Rattle.player.specs.Playing.{datum, laned, lanes_by}

module _ (i old word mask : ℕ) where
  lane-kept : (bit i mask ≡ 0 → ⊥) → old ≡ laned i old word mask
  lane-kept n = sym (rw (ne_eqb (bit i mask) 0 n))

  lane-new : {r : ℕ} → bit i mask ≡ 0 → r ≡ with_lane i (lane_of i word) old → r ≡ laned i old word mask
  lane-new e f = f ∙ sym (rw (eq-eqb (bit i mask) 0 e))

-- as the code does it, where lane 0 counts ones of `unit`
lane-put : (k old word : ℕ) → k < 4 → {unit : ℕ} → unit ≡ 2 ^ (8 * k) →
    (old / unit / 256 * 256 + word / unit % 256) * unit + old % unit ≡ with_lane k (lane_of k word) old
lane-put zero old word l e = rw e (omega arith)
lane-put (suc zero) old word l e = rw e (omega arith)
lane-put (suc (suc zero)) old word l e = rw e (omega arith)
lane-put (suc (suc (suc zero))) old word l e = rw e (omega arith)
lane-put (suc (suc (suc (suc k)))) old word l e = absurd (omega (arith, l))

lane-fits : (k old word : ℕ) → k < 4 → old < 2 ^ 32 → {unit : ℕ} → unit ≡ 2 ^ (8 * k) →
    (old / unit / 256 * 256 + word / unit % 256) * unit + old % unit < 2 ^ 32
lane-fits zero old word l m e = rw e (omega arith)
lane-fits (suc zero) old word l m e = rw e (omega arith)
lane-fits (suc (suc zero)) old word l m e = rw e (omega arith)
lane-fits (suc (suc (suc zero))) old word l m e = rw e (omega arith)
lane-fits (suc (suc (suc (suc k)))) old word l m e = absurd (omega (arith, l))

module _ (k old word mask : ℕ) (l : k < 4) where
  abbrev unit : ℕ
  unit = 1 * 2 ^ (8 * k) % 2 ^ 32

  unit-is : unit ≡ 2 ^ (8 * k)
  unit-is = one_shifted (8 * k) (omega arith)

  bit-is : mask / (1 * 2 ^ k % 2 ^ 32) % 2 ≡ bit k mask
  bit-is = ap (λ (v : ℕ). mask / v % 2) (one_shifted k (omega arith))

  pub stays : (mask / (1 * 2 ^ k % 2 ^ 32) % 2 ≡ 0 → ⊥) → old ≡ laned k old word mask
  stays n = lane-kept k old word mask (λ e. n (bit-is ∙ e))

  pub fits : old < 2 ^ 32 → (old / unit / 256 * 256 + word / unit % 256) * unit + old % unit < 2 ^ 32
  fits m = lane-fits k old word l m unit-is

  pub stored : mask / (1 * 2 ^ k % 2 ^ 32) % 2 ≡ 0 → (old / unit / 256 * 256 + word / unit % 256) * unit + old % unit ≡ laned k old word mask
  stored e = lane-new k old word mask (sym bit-is ∙ e) (lane-put k old word l unit-is)

module _ (lane old word mask : ℕ) {a b : ℕ} (ea : a ≡ laned 0 old word mask) (eb : b ≡ laned 1 a word mask) where
  low : b ≡ merged 2 (datum word mask) old
  unfolding merged
  low = eb ∙ ap (λ (k : ℕ). laned 1 k word mask) ea

  pub two_lanes : lane ≡ 1 → b ≡ merged (lanes_by lane) (datum word mask) old
  two_lanes e = low ∙ sym (rw (eq-eqb lane 1 e))

  pub four_lanes : {c d : ℕ} → (lane ≡ 1 → ⊥) → c ≡ laned 2 b word mask → d ≡ laned 3 c word mask → d ≡ merged (lanes_by lane) (datum word mask) old
  unfolding merged
  four_lanes n ec ed =
      ed ∙ ap (λ (k : ℕ). laned 3 k word mask) ec ∙ ap (λ (k : ℕ). laned 3 (laned 2 k word mask) word mask) low ∙ sym (rw (ne_eqb lane 1 n))

-- what is read of a word
pub two-shown : (lane word : ℕ) → lane ≡ 1 → word % 65536 ≡ word % 2 ^ (8 * lanes_by lane)
two-shown lane word e = sym (rw (eq-eqb lane 1 e))

pub four-shown : (lane word : ℕ) → word < 2 ^ 32 → (lane ≡ 1 → ⊥) → word ≡ word % 2 ^ (8 * lanes_by lane)
four-shown lane word l n = sym (mod-eq_of_lt l) ∙ sym (rw (ne_eqb lane 1 n))
