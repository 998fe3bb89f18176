-- A write that is the last burst: its data, and whether its row still stands open.
use Prim.Native.Nat.{ℕ, ◌+◌, ◌%◌, ◌≤◌, ◌<◌}
use mathlib.Core.Bool.{Bool, true, false, cond, not, ◌&&◌, ◌||◌, or-true, or-false}
use mathlib.Core.List.{List, [], ◌∷◌}
use mathlib.Core.Logic.{◌⊎◌, inl, inr}
use mathlib.Core.Option.{Option, none, some}
use mathlib.Core.Path.{◌≡◌, refl, sym, ap, ◌∙◌}
use native.Mathlib.Nat.{mod-eq_of_lt}
use native.Mathlib.Omega.{arith}
use lib.Dec.{leb, ltb, eqb}
use borrow.Author.Tests.{le-leb, lt-ltb, le-ltb, ne_eqb}
use Rattle.reading.specs.Search.{implies, find}
use Rattle.reading.specs.Mode.{h}
use Rattle.reading.specs.Settings.{Settings, newer}
use Rattle.reading.specs.Bursts.{Burst, data_end, rests_from}
use Rattle.reading.specs.Part.{Part, last_bank_write}
use Rattle.reading.proofs.Cuts.{All, cons}
use Rattle.deadlines.specs.Deadlines.{OPENED, WRITTEN, at, taken}
use Rattle.bridge.specs.Summary.{ended, last_of, writer_of, laid, summary}
use Rattle.bridge.proofs.Laid.{stands}
use Rattle.bridge.proofs.Bursts.{Given, leb-add, first_over}

-- it has auto precharge; or its row has been open since, and none of it is lost; or its row was closed, and its data is over
pub data Stays (from : ℕ) (p : Part) (x : Burst) : Type 0 where
  auto : x.auto ≡ true → x.n ≡ h x.mode → Stays from p x
  unshut : x.auto ≡ false → x.n ≡ h x.mode → (p.banks x.bank).opened ≡ true → last_bank_write p x.bank ≡ some x → Stays from p x
  shut : x.auto ≡ false → data_end x ≤ from → ((p.banks x.bank).opened ≡ false) ⊎ (last_bank_write p x.bank ≡ none) → Stays from p x

abbrev pub FirstStays : ℕ → Part → List Burst → Type 0
FirstStays from p [] = Unit {0}
FirstStays from p (x ∷ xs) = x.writes ≡ true → Stays from p x

abbrev pub LastStays : ℕ → Part → Type 0
LastStays from p = FirstStays from p p.bursts

module _ (s : Settings) (p : Part) where
  -- by the last write
  abbrev gone_at : Option Burst → Bool
  gone_at o =
      let b = writer_of o % 4 in
      ltb (writer_of o) 4 && (eqb (at (laid (summary s p)) (OPENED + b)) 0 || eqb (at (laid (summary s p)) (WRITTEN + b)) 0)

  gone_by : Burst → Bool
  gone_by x = gone_at (some x)

  module _ (x : Burst) (small : x.bank < 4) where
    auto-stays : x.auto ≡ true → gone_by x ≡ false
    unfolding gone_by
    auto-stays a = rw (a, le-ltb (x.bank + 4) 4 (omega arith))

    -- without auto precharge
    by_row : x.auto ≡ false → gone_by x ≡ (eqb (cond (p.banks x.bank).opened 1 0) 0 || eqb (ended s (last_bank_write p x.bank) s.t_wr) 0)
    unfolding gone_by
    by_row a =
        rw (a, lt-ltb x.bank 4 small, mod-eq_of_lt small, (stands (summary s p) x.bank small).opened, (stands (summary s p) x.bank small).written)

    rests : (v : Bool) → 0 < cond v (x.k + 2) (data_end x) + s.t_wr
    rests true = omega arith
    rests false = omega arith

    unshut-stays : x.auto ≡ false → (p.banks x.bank).opened ≡ true → last_bank_write p x.bank ≡ some x → gone_by x ≡ false
    unshut-stays a o l =
        by_row a ∙ ap (λ v. eqb (cond v 1 0) 0 || eqb (ended s (last_bank_write p x.bank) s.t_wr) 0) o
        ∙ ap (λ v. eqb (ended s v s.t_wr) 0) l ∙ ne_eqb (rests_from s x + s.t_wr) 0 (λ e. omega (arith, rests (newer s && not x.auto)))

    shut-gone : x.auto ≡ false → ((p.banks x.bank).opened ≡ false) ⊎ (last_bank_write p x.bank ≡ none) → gone_by x ≡ true
    shut-gone a (inl o) = by_row a ∙ rw o
    shut-gone a (inr l) = by_row a ∙ rw l (or-true (eqb (cond (p.banks x.bank).opened 1 0) 0))

  -- the data of the last write are over
  pub taken_is : (from t : ℕ) → from ≤ t → All (Given from) p.bursts → LastStays from p → taken (laid (summary s p)) t ≡ first_over t p.bursts
  unfolding gone_by
  taken_is from t l g y = go p.bursts refl g y
    where
      past : last_of p.bursts ≤ 4 → taken (laid (summary s p)) t ≡ true
      past m = rw (le-leb (last_of p.bursts) (t + 5) (omega arith))

      read_small : (a : Bool) (b : ℕ) → b < 4 → cond a 4 b ≤ 4
      read_small true b m = omega arith
      read_small false b m = omega arith

      running : (x : Burst) → find (λ z. z.writes) p.bursts ≡ some x → last_of p.bursts ≡ x.k + 1 + h x.mode + 5 → {v : Bool} → gone_by x ≡ v →
          taken (laid (summary s p)) t ≡ (leb (x.k + 1 + h x.mode) t || v)
      running x f e {v} u =
          (λ i. leb (e i) (t + 5) || gone_at (f i)) ∙ ap (λ r. r || gone_at (some x)) (leb-add 5 (x.k + 1 + h x.mode) t)
          ∙ ap (λ r. leb (x.k + 1 + h x.mode) t || r) u

      ends : (x : Burst) → x.n ≡ h x.mode → (leb (x.k + 1 + h x.mode) t || false) ≡ leb (data_end x) t
      ends x n = rw (← n) (or-false (leb (data_end x) t))

      go : (xs : List Burst) → p.bursts ≡ xs → All (Given from) xs → FirstStays from p xs → taken (laid (summary s p)) t ≡ first_over t xs
      go [] e g y = past (omega (arith, ap last_of e))
      go (x ∷ xs) e (cons gx _) y = by x.writes refl
        where
          write-last : x.writes ≡ true → Stays from p x → taken (laid (summary s p)) t ≡ leb (data_end x) t
          write-last w z = stays z
            where
              found : find (λ z. z.writes) p.bursts ≡ some x
              found = ap (find (λ z. z.writes)) e ∙ rw w

              whole : last_of p.bursts ≡ x.k + 1 + h x.mode + 5
              whole = ap last_of e ∙ rw w

              stays : Stays from p x → taken (laid (summary s p)) t ≡ leb (data_end x) t
              stays (auto a n) = running x found whole (auto-stays x gx.bank a) ∙ ends x n
              stays (unshut a n o f) = running x found whole (unshut-stays x gx.bank a o f) ∙ ends x n
              stays (shut a n f) =
                  running x found whole (shut-gone x gx.bank a f)
                  ∙ or-true (leb (x.k + 1 + h x.mode) t) ∙ sym (le-leb (data_end x) t (omega arith))

          by : (w : Bool) → x.writes ≡ w → taken (laid (summary s p)) t ≡ implies w (leb (data_end x) t)
          by true w = write-last w (y w)
          by false w =
              let read : last_of (x ∷ xs) ≡ cond x.auto 4 x.bank = rw w in
              past (omega (arith, ap last_of e, read, read_small x.auto x.bank gx.bank))
