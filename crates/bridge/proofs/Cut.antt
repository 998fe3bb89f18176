-- What a cut makes of the cycle at which a write's data ends, and at which the bus is free of a read.
use Prim.Native.Nat.{ℕ, ◌+◌, ◌-◌, ◌≤◌}
use mathlib.Core.Bool.{Bool, true, false, cond}
use mathlib.Core.List.{List, [], ◌∷◌, map}
use mathlib.Core.Logic.{◌⊎◌, inl, inr}
use mathlib.Core.Option.{Option, none, some}
use mathlib.Core.Path.{◌≡◌, refl, sym, ap, ◌∙◌}
use native.Mathlib.Omega.{arith}
use lib.Dec.{leb, ltb}
use borrow.Author.Tests.{leb-true, leb-false, ltb-false}
use Rattle.reading.specs.Search.{lesser}
use Rattle.reading.specs.Mode.{h, CL}
use Rattle.reading.specs.Settings.{Settings}
use Rattle.reading.specs.Commands.{Command, READ, is}
use Rattle.reading.specs.Bursts.{Burst, data_end, with_pairs}
use Rattle.reading.specs.Part.{Part, cuts, interrupts, interrupted_to, at_most, cut_by}
use Rattle.reading.proofs.Laws.{lesser-low, lesser-high, lesser-second}
use Rattle.bridge.specs.Summary.{last_of}
use Rattle.bridge.proofs.Bursts.{Given}

-- the last pair of a burst that c cuts, c more cycles counted: the lesser of what it was and t
cut-pairs : (c : ℕ) (k n t : ℕ) → k ≤ t → k + c + lesser n (t - k) ≡ lesser (k + c + n) (t + c)
cut-pairs c k n t l = go (leb n (t - k)) refl
  where
    go : (v : Bool) → leb n (t - k) ≡ v → k + c + cond v n (t - k) ≡ lesser (k + c + n) (t + c)
    go true e = sym (lesser-low (k + c + n) (t + c) (omega (arith, leb-true n (t - k) e)))
    go false e =
        let q : k + c + (t - k) ≡ t + c = omega arith in
        q ∙ sym (lesser-high (k + c + n) (t + c) (omega (arith, leb-false n (t - k) e)))

module _ (s : Settings) (p : Part) (from t : ℕ) (l : from ≤ t) (c : Command) (x : Burst) (g : Given from x)
    (over : x.auto ≡ true → x.k + h x.mode ≤ t) where
  -- a burst that c cuts, cycles counted to c after its last pair
  pub cut-until : (w : ℕ) → cuts p c x ≡ true → interrupts s p c x ≡ false → x.k + w + (cut_by s p t c x).n ≡ lesser (x.k + w + x.n) (t + w)
  cut-until w e f = rw (e, f) (go x.auto refl (ltb t (x.k + h x.mode)) refl)
    where
      go : (a : Bool) → x.auto ≡ a → (b : Bool) → ltb t (x.k + h x.mode) ≡ b →
          x.k + w + at_most (cond a none (cond b (some (t - x.k)) (cond false (some (interrupted_to s t c x)) none))) x.n ≡ lesser (x.k + w + x.n) (t + w)
      go true u b q = sym (lesser-low (x.k + w + x.n) (t + w) (omega (arith, g.most, over u)))
      go false u true q = cut-pairs w x.k x.n t (omega (arith, g.before))
      go false u false q = sym (lesser-low (x.k + w + x.n) (t + w) (omega (arith, g.most, ltb-false t (x.k + h x.mode) q)))

-- the latency of the last read is that of now, or its data is over
abbrev pub Latency : ℕ → ℕ → Option Burst → Type 0
Latency from m none = Unit {0}
Latency from m (some x) = (x.mode ≡ m) ⊎ (x.k + CL x.mode + x.n ≤ from)

pub same-latency : (from t m : ℕ) → from ≤ t → (x : Burst) → Latency from m (some x) →
    lesser (x.k + CL x.mode + x.n) (t + CL x.mode) ≡ lesser (x.k + CL x.mode + x.n) (t + CL m)
same-latency from t m l x (inl e) = ap (λ (v : ℕ). lesser (x.k + CL x.mode + x.n) (t + CL v)) e
same-latency from t m l x (inr e) =
    lesser-low (x.k + CL x.mode + x.n) (t + CL x.mode) (omega arith)
    ∙ sym (lesser-low (x.k + CL x.mode + x.n) (t + CL m) (omega arith))

-- nothing of the last burst that is kept depends on its pairs
pub same-last : (f : Burst → ℕ) (xs : List Burst) → last_of (map (λ x. with_pairs (f x) x) xs) ≡ last_of xs
same-last f [] = refl
same-last f (x ∷ xs) = refl

-- a write that is interrupted: its data end so long before
module _ (s : Settings) (p : Part) (t : ℕ) (c : Command) (x : Burst) where
  pub interrupted-until : x.auto ≡ false → cuts p c x ≡ false → interrupts s p c x ≡ true →
      x.k + 1 + cond (is READ c) s.t_wtr s.t_wr ≤ t → data_end (cut_by s p t c x) + cond (is READ c) s.t_wtr s.t_wr ≤ t
  interrupted-until a e f l = omega (arith, l, left, lesser-second x.n (interrupted_to s t c x))
    where
      left : (cut_by s p t c x).n ≡ lesser x.n (interrupted_to s t c x)
      left = rw (e, f, a)
