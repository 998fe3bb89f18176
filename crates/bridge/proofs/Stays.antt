-- What is known of a write that is the last burst, after a command that gives no burst.
use Prim.Native.Nat.{ℕ, suc, ◌+◌, ◌≤◌}
use mathlib.Core.Bool.{Bool, true, false, cond, not, ◌&&◌, ◌||◌, and-false}
use mathlib.Core.List.{[], ◌∷◌, map}
use mathlib.Core.Logic.{◌⊎◌, inl, inr}
use mathlib.Core.Option
use mathlib.Core.Option.{Option, none, some}
use mathlib.Core.Path.{◌≡◌, refl, sym, ap, ◌∙◌}
use native.Mathlib.Omega.{arith}
use lib.Dec.{leb, eqb}
use borrow.Author.Tests.{leb-true, eqb-true, eq-eqb}
use Rattle.reading.specs.Search.{implies, ever, find}
use Rattle.reading.specs.Settings.{Settings, newer}
use Rattle.reading.specs.Commands.{Command, ACTIVE, READ, WRITE, is, among}
use Rattle.reading.specs.Bursts.{Burst, data_end, rests_from}
use Rattle.reading.specs.Part.{Part, Bank, open_on, idle_from, closes, interrupts, cuts, cut_by, bank_write, last_bank_write, part_after}
use Rattle.reading.specs.Rules.{rule3, rule10, after_write}
use Rattle.reading.proofs.Laws.{both, every-bank}
use Rattle.reading.proofs.Cuts.{All, cut-lowers, auto-uncut}
use Rattle.bridge.proofs.Bursts.{Given, uncut, find-map}
use Rattle.bridge.proofs.Cut.{interrupted-until}
use Rattle.bridge.proofs.LastWrite.{Stays, auto, unshut, shut}
use Rattle.bridge.proofs.Next.{fresh}

module _ (s : Settings) (p : Part) (from t : ℕ) (l : from ≤ t) (c : Command) (e : among (READ ∷ WRITE ∷ []) c ≡ false)
    (kept3 : rule3 s p t c ≡ true) (kept10 : rule10 s p t c ≡ true) (given : All (Given from) p.bursts) where
  no_read : is READ c ≡ false
  no_read = go (is READ c) (is WRITE c) e
    where
      go : (a b : Bool) → (a || (b || false)) ≡ false → a ≡ false
      go true b q = q
      go false b q = refl

  no_write : is WRITE c ≡ false
  no_write = go (is READ c) (is WRITE c) e
    where
      go : (a b : Bool) → (a || (b || false)) ≡ false → b ≡ false
      go true true q = q
      go true false q = refl
      go false true q = q
      go false false q = refl

  abbrev next : Part
  next = part_after s p t c

  abbrev cut : Burst → Burst
  cut = cut_by s p t c

  module _ (x : Burst) (w : x.writes ≡ true) (g : Given from x) where
    abbrev b : ℕ
    b = x.bank

    abbrev B : Bank
    B = p.banks b

    abbrev opens : Bool
    opens = is ACTIVE c && eqb b c.bank

    bank-is : (u v : Bool) → opens ≡ u → closes c b B ≡ v → next.banks b ≡ cond u (open_on c.address t B) (cond v (idle_from t B) B)
    bank-is u v f k = rw (f, e, k)

    last-is : {K : Bank} → next.banks b ≡ K →
        last_bank_write next b ≡ find (λ y. y.writes && (eqb b y.bank && ever K.last_active (λ a. leb a y.k))) (map cut p.bursts)
    last-is k = (λ i. find (λ y. y.writes && (eqb b y.bank && ever (k i).last_active (λ a. leb a y.k))) next.bursts) ∙ rw e

    -- where the bank's ACTIVE stays, so does what was found
    kept-last : {K : Bank} → next.banks b ≡ K → K.last_active ≡ B.last_active → last_bank_write next b ≡ Option.map cut (last_bank_write p b)
    kept-last {K} k f =
        last-is k
        ∙ ap (λ (o : Option ℕ). find (λ y. y.writes && (eqb b y.bank && ever o (λ a. leb a y.k))) (map cut p.bursts)) f
        ∙ find-map (bank_write p b) cut (λ y. refl) p.bursts

    no_cut : cuts p c x ≡ false
    no_cut = rw w no_write

    -- a row that is closed: rule 10
    closed-over : closes c b B ≡ true → x.auto ≡ false → last_bank_write p b ≡ some x → data_end (cut x) ≤ suc t
    closed-over k a f = go (newer s) refl
      where
        waited : ever (last_bank_write p b) (λ y. leb (rests_from s y + s.t_wr) t) ≡ true
        waited =
            let z = every-bank (λ i. implies (closes c i (p.banks i)) (after_write s s.t_wr (last_bank_write p i) t)) kept10 b g.bank in
            rw k at z

        rests : rests_from s x + s.t_wr ≤ t
        rests = leb-true (rests_from s x + s.t_wr) t (sym (ap (λ (o : Option Burst). ever o (λ y. leb (rests_from s y + s.t_wr) t)) f) ∙ waited)

        go : (v : Bool) → newer s ≡ v → data_end (cut x) ≤ suc t
        go true n =
            let early : rests_from s x ≡ x.k + 2 = rw (n, a) in
            let wait : cond (is READ c) s.t_wtr s.t_wr ≡ s.t_wr = rw no_read in
            let interrupted : interrupts s p c x ≡ true = rw (n, w, no_read, k, f) (eq-eqb x.k x.k refl) in
            omega (arith, rests, early, wait, interrupted-until s p t c x a no_cut interrupted (omega (arith, rests, early, wait)))
        go false n =
            let late : rests_from s x ≡ data_end x = rw n in
            omega (arith, rests, late, cut-lowers s p t c x)

    -- one that is not closed is not cut
    open-uncut : closes c b B ≡ false → cut x ≡ x
    open-uncut k = uncut s p t c x no_cut (rw (no_read, k) (and-false (newer s && x.writes)))

    pub stays-later : Stays from p x → Stays (suc t) next (cut x)
    stays-later (auto a n) = auto a (ap (λ (y : Burst). y.n) (auto-uncut s p t c x a) ∙ n)
    stays-later (unshut a n o f) = go opens refl (closes c b B) refl
      where
        -- rule 3
        idle : opens ≡ true → ⊥
        idle q =
            let own : b ≡ c.bank = eqb-true b c.bank (both (is ACTIVE c) (eqb b c.bank) q).1 in
            let shut-bank : not (p.banks c.bank).opened ≡ true = rw (both (is ACTIVE c) (eqb b c.bank) q).0 at kept3 in
            let stands-open : (p.banks c.bank).opened ≡ true = ap (λ (i : ℕ). (p.banks i).opened) (sym own) ∙ o in
            let z : ◌≡◌ {A = ℕ} 0 1 = cc in
            omega arith

        go : (u : Bool) → opens ≡ u → (v : Bool) → closes c b B ≡ v → Stays (suc t) next (cut x)
        go true q v k = absurd (idle q)
        go false q true k = shut a (closed-over k a f) (inl (ap (λ (y : Bank). y.opened) (bank-is false true q k)))
        go false q false k =
            unshut a (ap (λ (y : Burst). y.n) (open-uncut k) ∙ n) (ap (λ (y : Bank). y.opened) (bank-is false false q k) ∙ o)
            (kept-last (bank-is false false q k) refl ∙ ap (Option.map cut) f)
    stays-later (shut a d f) = shut a (omega (arith, cut-lowers s p t c x)) (go opens refl (closes c b B) refl f)
      where
        go : (u : Bool) → opens ≡ u → (v : Bool) → closes c b B ≡ v → (B.opened ≡ false) ⊎ (last_bank_write p b ≡ none) →
            ((next.banks b).opened ≡ false) ⊎ (last_bank_write next b ≡ none)
        go true q v k r =
            inr (last-is (bank-is true v q k) ∙ find-map (λ y. y.writes && (eqb b y.bank && leb t y.k)) cut (λ y. refl) p.bursts
            ∙ ap (Option.map cut) (fresh from t b l given))
        go false q true k r = inl (ap (λ (y : Bank). y.opened) (bank-is false true q k))
        go false q false k (inl o) = inl (ap (λ (y : Bank). y.opened) (bank-is false false q k) ∙ o)
        go false q false k (inr o) = inr (kept-last (bank-is false false q k) refl ∙ ap (Option.map cut) o)
