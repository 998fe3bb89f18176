-- What a burst keeps in the end, of all events behind it, is what is found by looking ahead.
use Prim.Native.Nat.{ℕ, suc, ◌+◌, ◌-◌, ◌≤◌}
use mathlib.Core.Bool.{Bool, true, false, cond, ◌&&◌}
use mathlib.Core.List.{List, [], ◌∷◌}
use mathlib.Core.Option.{none, some}
use mathlib.Core.Path.{◌≡◌, refl, ap, ◌∙◌}
use native.Mathlib.Omega.{arith}
use borrow.Author.Tests.{ltb-false, le-ltb, le-leb}
use lib.Dec.{ltb, eqb}
use Rattle.reading.specs.Search.{lesser}
use Rattle.reading.specs.Mode.{h}
use Rattle.reading.specs.Settings.{Settings, newer}
use Rattle.reading.specs.Capture.{Event}
use Rattle.reading.specs.Commands.{command_of}
use Rattle.reading.specs.Bursts.{Burst, with_pairs}
use Rattle.reading.specs.Part.{at_most}
use Rattle.reading.proofs.Alone.{Stands, stands_after, cut_alone}
use Rattle.capture.proofs.Rising.{Rises}
use Rattle.pins.specs.Pins.{code_of, bank_of}
use Rattle.beats.specs.Kept.{cuts_burst, kept_by, kept_ahead}
use Rattle.beats.proofs.Commands.{cuts-is}

-- a burst as the events behind it cut it, each by itself and by what still stands of it
abbrev pub cut_by_all : Settings → List Event → Stands → Burst → Burst
cut_by_all s [] f x = x
cut_by_all s (e ∷ es) f x =
    let c = command_of e.pins in
    cut_by_all s es (stands_after c x.bank f) (cut_alone s f e.cycle c x)

-- ---- a burst that can be cut, and not be interrupted

-- nothing cuts it from k + h on
past_end : (b k end pairs from : ℕ) (es : List Event) → end ≤ from → Rises from es → kept_ahead b k end pairs es ≡ pairs
unfolding kept_ahead
past_end b k end pairs from [] l r = refl
past_end b k end pairs from (e ∷ es) l r = rw (le-ltb e.cycle end (omega (arith, r.0)))

-- nor after a cut: it left as many pairs as there were cycles since k
pub cut-once : (b k end pairs from : ℕ) (es : List Event) → pairs + k ≤ from → Rises from es → kept_ahead b k end pairs es ≡ pairs
unfolding kept_ahead
cut-once b k end pairs from [] l r = refl
cut-once b k end pairs from (e ∷ es) l r =
    ap (λ (m : ℕ). cond (ltb e.cycle end) (kept_ahead b k end m es) pairs) (same (cuts_burst b e.pins))
    ∙ go (ltb e.cycle end) (cut-once b k end pairs (suc e.cycle) es (omega (arith, r.0)) r.1)
  where
    same : (v : Bool) → cond v (lesser pairs (e.cycle - k)) pairs ≡ pairs
    same true = rw (le-leb pairs (e.cycle - k) (omega (arith, r.0)))
    same false = refl

    go : (v : Bool) → kept_ahead b k end pairs es ≡ pairs → cond v (kept_ahead b k end pairs es) pairs ≡ pairs
    go true ih = ih
    go false ih = refl

-- the pins b gave it
module _ (s : Settings) (b : ℕ) (x : Burst) (w : x.writes ≡ eqb (code_of b) 2) (f : x.bank ≡ bank_of b) (a : x.auto ≡ false)
    (calm : (newer s && x.writes) ≡ false) where
  abbrev end : ℕ
  end = x.k + h x.mode

  one-cut : (g : Stands) (pairs : ℕ) (e : Event) (v : Bool) → ltb e.cycle end ≡ v →
      cut_alone s g e.cycle (command_of e.pins) (with_pairs pairs x) ≡ with_pairs (cond v (kept_by b x.k pairs e) pairs) x
  one-cut g pairs e v l =
      ap (λ (n : ℕ). with_pairs n x) (rw (a, calm, cuts-is e.pins b x w f, l) (go (cuts_burst b e.pins) v))
    where
      go : (u v : Bool) → at_most (cond (u && v) (some (e.cycle - x.k)) none) pairs ≡ cond v (cond u (lesser pairs (e.cycle - x.k)) pairs) pairs
      go true true = refl
      go true false = refl
      go false true = refl
      go false false = refl

  pub cut-ahead : (es : List Event) (g : Stands) (from pairs : ℕ) → Rises from es → cut_by_all s es g (with_pairs pairs x) ≡ with_pairs (kept_ahead b x.k end pairs es) x
  unfolding kept_ahead
  cut-ahead [] g from pairs r = refl
  cut-ahead (e ∷ es) g from pairs r = go (ltb e.cycle end) refl (λ left. cut-ahead es next (suc e.cycle) left r.1)
    where
      next : Stands
      next = stands_after (command_of e.pins) x.bank g

      go : (v : Bool) → ltb e.cycle end ≡ v → ((left : ℕ) → cut_by_all s es next (with_pairs left x) ≡ with_pairs (kept_ahead b x.k end left es) x) →
          cut_by_all s es next (cut_alone s g e.cycle (command_of e.pins) (with_pairs pairs x)) ≡
          with_pairs (cond (ltb e.cycle end) (kept_ahead b x.k end (kept_by b x.k pairs e) es) pairs) x
      go true l ih = ap (cut_by_all s es next) (one-cut g pairs e true l) ∙ ih (kept_by b x.k pairs e) ∙ rw l
      go false l ih =
          ap (cut_by_all s es next) (one-cut g pairs e false l) ∙ ih pairs
          ∙ ap (λ (n : ℕ). with_pairs n x) (past_end b x.k end pairs (suc e.cycle) es (omega (arith, ltb-false e.cycle end l)) r.1)
          ∙ rw l

-- ---- a burst with auto precharge

pub auto-kept : (s : Settings) (es : List Event) (f : Stands) (x : Burst) → x.auto ≡ true → cut_by_all s es f x ≡ x
auto-kept s [] f x a = refl
auto-kept s (e ∷ es) f x a = ap (cut_by_all s es (stands_after (command_of e.pins) x.bank f)) whole ∙ auto-kept s es (stands_after (command_of e.pins) x.bank f) x a
  where
    whole : cut_alone s f e.cycle (command_of e.pins) x ≡ x
    whole = rw a
