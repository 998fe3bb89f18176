-- When a command cuts nothing: behind a part whose bursts have all their pairs, from one cycle on, the end of the last read or of
-- the last write that it could cut.
use Prim.Native.Nat.{ℕ, ◌+◌, ◌≤◌}
use mathlib.Core.Bool.{Bool, true, false, cond, ◌&&◌, and-false}
use mathlib.Core.List.{List, [], ◌∷◌, map}
use mathlib.Core.Logic.{◌⊎◌, inl, inr}
use mathlib.Core.Option.{Option, none, some}
use mathlib.Core.Path.{◌≡◌, refl, sym, ap, ◌∙◌}
use native.Mathlib.Omega.{arith}
use lib.Dec.{leb, eqb, leb-zero}
use borrow.Author.Tests.{leb-true, leb-false, le-leb, eq-eqb, eqb-true, ne_eqb, not-true}
use Rattle.reading.specs.Search.{ever, every, find, lesser}
use Rattle.reading.specs.Mode.{h}
use Rattle.reading.specs.Settings.{Settings, newer}
use Rattle.reading.specs.Commands.{READ, WRITE, PRECHARGE, Command, names}
use Rattle.reading.specs.Bursts.{Burst, reads, whole_end, with_pairs}
use Rattle.reading.specs.Part.{Part, cuts, interrupts, cut_by}
use Rattle.reading.specs.Schedule.{cuts_nothing}
use Rattle.reading.proofs.Cuts.{All, nil, cons, auto-uncut}
use Rattle.reading.proofs.Laws.{either_way, lesser-low, lesser-high}
use Rattle.bridge.specs.Summary.{last_of}
use Rattle.bridge.proofs.Bursts.{uncut, Given, Running, first, Late, nothing, behind, Ended, find-all, find-holds}
use Rattle.bridge.proofs.Cut.{cut-until}
use Rattle.bridge.proofs.Next.{Sound}
use Rattle.bridge.proofs.Kept.{first_read}
use Rattle.bridge.proofs.Rules.{does}
use Rattle.memory.specs.Serving.{Serves, Each, nil, cons}
use Rattle.plan.specs.Behind.{cut_end}

-- ---- a test of all bursts that only the last of a kind can fail

every-fails : (f kind : Burst → Bool) (xs : List Burst) (x : Burst) → find kind xs ≡ some x → f x ≡ false → every f xs ≡ false
every-fails f kind [] x e k = let z : ◌≡◌ {A = ℕ} 0 1 = cc in absurd (omega arith)
every-fails f kind (y ∷ ys) x e k = go (kind y) e (λ m. every-fails f kind ys x m k)
  where
    go : (v : Bool) → cond v (some y) (find kind ys) ≡ some x → (find kind ys ≡ some x → every f ys ≡ false) → (f y && every f ys) ≡ false
    go true m ih = let z : y ≡ x = cc in rw (ap f z ∙ k)
    go false m ih = rw (ih m) (and-false (f y))

record Last (f kind : Burst → Bool) (all : List Burst) (x : Burst) : Type 0 where
  or : (f x ≡ true) ⊎ (find kind all ≡ some x)

every-last : (f kind : Burst → Bool) (all : List Burst) → All (Last f kind all) all → every f all ≡ ever (find kind all) f
every-last f kind all ls = go (find kind all) refl
  where
    each : {xs : List Burst} → ((x : Burst) → find kind all ≡ some x → f x ≡ true) → All (Last f kind all) xs → every f xs ≡ true
    each g nil = refl
    each g (cons {x = x} l rest) = rw (one l.or) (each g rest)
      where
        one : (f x ≡ true) ⊎ (find kind all ≡ some x) → f x ≡ true
        one (inl e) = e
        one (inr e) = g x e

    by : (y : Burst) → find kind all ≡ some y → (v : Bool) → f y ≡ v → every f all ≡ v
    by y e true k = each (λ x m. let z : y ≡ x = cc in ap f (sym z) ∙ k) ls
    by y e false k = every-fails f kind all y e k

    go : (o : Option Burst) → find kind all ≡ o → every f all ≡ ever o f
    go none e = each (λ x m. let z : ◌≡◌ {A = ℕ} 0 1 = cc in absurd (omega arith)) ls
    go (some y) e = by y e (f y) refl

-- ---- bursts that have all their pairs

pub record Whole (x : Burst) : Type 0 where
  pub pairs : x.n ≡ h x.mode

pub serving-whole : {s : Settings} {xs : List Burst} {asked : List ℕ} → Each (Serves s) xs asked → All Whole xs
serving-whole nil = nil
serving-whole (cons v vs) = cons (record { pairs = v.whole }) (serving-whole vs)

pub serving-moded : {s : Settings} {xs : List Burst} {asked : List ℕ} → Each (Serves s) xs asked → All (λ x. x.mode ≡ s.mode) xs
serving-moded nil = nil
serving-moded (cons v vs) = cons v.alike.mode (serving-moded vs)

module _ (s : Settings) (p : Part) (old : newer s ≡ false) (from t : ℕ) (l : from ≤ t) (g : Sound from p) (w : All Whole p.bursts) where
  abbrev keeps : Command → Burst → Bool
  keeps c x = eqb (cut_by s p t c x).n x.n

  module _ (c : Command) where
    same-keeps : (x : Burst) → cut_by s p t c x ≡ x → keeps c x ≡ true
    same-keeps x e = eq-eqb (cut_by s p t c x).n x.n (ap (λ (y : Burst). y.n) e)

    -- writes are interrupted in the newer edition alone
    uninterrupted : (x : Burst) → interrupts s p c x ≡ false
    uninterrupted x = rw old

    uncut-keeps : (x : Burst) → cuts p c x ≡ false → keeps c x ≡ true
    uncut-keeps x e = same-keeps x (uncut s p t c x e (uninterrupted x))

    auto-keeps : (x : Burst) → x.auto ≡ true → keeps c x ≡ true
    auto-keeps x e = same-keeps x (auto-uncut s p t c x e)

    -- one that c cuts keeps all from its end on
    cut_keeps : (x : Burst) → Given from x → Whole x → x.auto ≡ false → cuts p c x ≡ true → keeps c x ≡ leb (whole_end x) t
    cut_keeps x gx wx a e = go (leb (whole_end x) t) refl
      where
        left : x.k + 0 + (cut_by s p t c x).n ≡ lesser (x.k + 0 + x.n) (t + 0)
        left = cut-until s p from t l c x gx (λ b. absurd (let z : ◌≡◌ {A = ℕ} 0 1 = cc in omega arith)) 0 e (uninterrupted x)

        go : (v : Bool) → leb (whole_end x) t ≡ v → keeps c x ≡ v
        go true k =
            eq-eqb (cut_by s p t c x).n x.n
            (omega (arith, left, lesser-low (x.k + 0 + x.n) (t + 0) (omega (arith, wx.pairs, leb-true (whole_end x) t k))))
        go false k =
            ne_eqb (cut_by s p t c x).n x.n
            (λ q. absurd (omega (arith, left, q, wx.pairs, leb-false (whole_end x) t k, lesser-high (x.k + 0 + x.n) (t + 0) (omega (arith, wx.pairs, leb-false (whole_end x) t k)))))

    -- one that is over loses nothing
    over-keeps : (x : Burst) → Given from x → Whole x → x.auto ≡ false → x.k + x.n ≤ t → keeps c x ≡ true
    over-keeps x gx wx a k = go (cuts p c x) refl
      where
        go : (v : Bool) → cuts p c x ≡ v → keeps c x ≡ true
        go true e = cut_keeps x gx wx a e ∙ le-leb (whole_end x) t (omega (arith, wx.pairs))
        go false e = uncut-keeps x e

    -- a command that cuts no burst at all
    pub nothing-cut : ((x : Burst) → cuts p c x ≡ false) → cuts_nothing s p t c ≡ true
    unfolding cuts_nothing
    nothing-cut e = go p.bursts
      where
        go : (xs : List Burst) → every (keeps c) xs ≡ true
        go [] = refl
        go (x ∷ xs) = rw (uncut-keeps x (e x)) (go xs)

    -- ---- a command that cuts reads

    last-reads : ((x : Burst) → x.writes ≡ true → cuts p c x ≡ false) → cuts_nothing s p t c ≡ ever (find reads p.bursts) (keeps c)
    unfolding cuts_nothing
    last-reads e = every-last (keeps c) reads p.bursts (go g.bursts w g.running)
      where
        one : (x : Burst) → Given from x → Whole x → Running from p.banks p.bursts x → (writes auto : Bool) → x.writes ≡ writes → x.auto ≡ auto →
            (keeps c x ≡ true) ⊎ (find reads p.bursts ≡ some x)
        one x gx wx z true auto k m = inl (uncut-keeps x (e x k))
        one x gx wx z false true k m = inl (auto-keeps x m)
        one x gx wx z false false k m = by (z.by k m)
          where
            by : {O : Type 0} → (x.k + x.n ≤ from) ⊎ ((first p.bursts ≡ some x) × O) → (keeps c x ≡ true) ⊎ (find reads p.bursts ≡ some x)
            by (inl o) = inl (over-keeps x gx wx m (omega arith))
            by (inr o) = inr (first_read p.bursts x k o.0)

        go : {xs : List Burst} → All (Given from) xs → All Whole xs → All (Running from p.banks p.bursts) xs → All (Last (keeps c) reads p.bursts) xs
        go nil nil nil = nil
        go (cons {x = x} gx gs) (cons wx ws) (cons z zs) = cons (record { or = one x gx wx z x.writes x.auto refl refl }) (go gs ws zs)

  -- ---- the last burst of a kind, which a command may cut

  pub read-uncut : (b a : ℕ) (ten : Bool) → cuts_nothing s p t (does READ b a ten) ≡ leb (cut_end (find reads p.bursts)) t
  read-uncut b a ten = last-reads c (λ x e. rw e) ∙ go (find reads p.bursts) refl
    where
      c : Command
      c = does READ b a ten

      go : (o : Option Burst) → find reads p.bursts ≡ o → ever o (keeps c) ≡ leb (cut_end o) t
      go none e = sym (leb-zero t)
      go (some x) e = by x.auto refl
        where
          by : (auto : Bool) → x.auto ≡ auto → keeps c x ≡ leb (cond auto 0 (whole_end x)) t
          by true m = auto-keeps c x m ∙ sym (leb-zero t)
          by false m = cut_keeps c x (find-all reads g.bursts e) (find-all reads w e) m (rw (not-true x.writes (find-holds reads p.bursts e)))

  -- PRECHARGE: a read that is not the last burst, or whose bank is idle, is over
  module _ (b a : ℕ) (ten : Bool) where
    abbrev closing : Command
    closing = does PRECHARGE b a ten

    -- from a cycle on that is 0, or the end of a read that can be cut if its bank is named and it is the last burst
    close-cuts : (till : Option Burst → ℕ) → till none ≡ 0 → ((x : Burst) → x.auto ≡ true → till (some x) ≡ 0) →
        ((x : Burst) → till (some x) ≤ whole_end x) →
        ((x : Burst) → find reads p.bursts ≡ some x → first p.bursts ≡ some x → x.writes ≡ false → x.auto ≡ false →
        till (some x) ≡ cond (names closing x.bank) (whole_end x) 0) →
        cuts_nothing s p t closing ≡ leb (till (find reads p.bursts)) t
    close-cuts till nowhere whole most here = last-reads closing (λ x k. rw k) ∙ go (find reads p.bursts) refl
      where
        by : (x : Burst) → find reads p.bursts ≡ some x → x.writes ≡ false → (auto : Bool) → x.auto ≡ auto → keeps closing x ≡ leb (till (some x)) t
        by x f e true m = auto-keeps closing x m ∙ sym (leb-zero t) ∙ ap (λ (u : ℕ). leb u t) (sym (whole x m))
        by x f e false m = one ((find-all reads g.running f).by e m)
          where
            gx : Given from x
            gx = find-all reads g.bursts f

            wx : Whole x
            wx = find-all reads w f

            last : first p.bursts ≡ some x → (p.banks x.bank).opened ≡ true → (v : Bool) → names closing x.bank ≡ v →
                keeps closing x ≡ leb (cond v (whole_end x) 0) t
            last u o true n = cut_keeps closing x gx wx m (rw (e, o, n))
            last u o false n = uncut-keeps closing x (rw (e, o, n)) ∙ sym (leb-zero t)

            one : (x.k + x.n ≤ from) ⊎ ((first p.bursts ≡ some x) × ((p.banks x.bank).opened ≡ true)) → keeps closing x ≡ leb (till (some x)) t
            one (inl o) =
                over-keeps closing x gx wx m (omega arith) ∙ sym (le-leb (till (some x)) t (omega (arith, most x, wx.pairs)))
            one (inr (u, o)) =
                last u o (names closing x.bank) refl ∙ ap (λ (till : ℕ). leb till t) (sym (here x f u e m))

        go : (o : Option Burst) → find reads p.bursts ≡ o → ever o (keeps closing) ≡ leb (till o) t
        go none f = sym (leb-zero t) ∙ ap (λ (u : ℕ). leb u t) (sym nowhere)
        go (some x) f = by x f (not-true x.writes (find-holds reads p.bursts f)) x.auto refl

  last-bank : (x : Burst) → first p.bursts ≡ some x → x.writes ≡ false → x.auto ≡ false → last_of p.bursts ≡ x.bank
  last-bank x f e m = go p.bursts f
    where
      go : (xs : List Burst) → first xs ≡ some x → last_of xs ≡ x.bank
      go [] k = let z : ◌≡◌ {A = ℕ} 0 1 = cc in absurd (omega arith)
      go (y ∷ ys) k = let z : y ≡ x = cc in ap (λ (y : Burst). last_of (y ∷ ys)) z ∙ rw (e, m)

  -- of one bank, and of all
  pub close-uncut : (b a : ℕ) → cuts_nothing s p t (does PRECHARGE b a false) ≡
      leb (cond (eqb (last_of p.bursts) b) (cut_end (find reads p.bursts)) 0) t
  close-uncut b a =
      close-cuts b a false (λ o. cond named (cut_end o) 0) (either_way named 0) (λ x m. rw m (either_way named 0)) (λ x. most x named x.auto)
      (λ x f u e m. rw (m, last-bank x u e m))
    where
      named : Bool
      named = eqb (last_of p.bursts) b

      most : (x : Burst) (v auto : Bool) → cond v (cond auto 0 (whole_end x)) 0 ≤ whole_end x
      most x true true = omega arith
      most x true false = omega arith
      most x false auto = omega arith

  pub close-all-uncut : (b a : ℕ) → cuts_nothing s p t (does PRECHARGE b a true) ≡ leb (cut_end (find reads p.bursts)) t
  close-all-uncut b a = close-cuts b a true cut_end refl (λ x m. rw m) (λ x. most x x.auto) (λ x f u e m. rw m)
    where
      most : (x : Burst) (auto : Bool) → cond auto 0 (whole_end x) ≤ whole_end x
      most x true = omega arith
      most x false = omega arith

  -- ---- WRITE cuts writes: all but the last have ended

  pub write-uncut : (b a : ℕ) (ten : Bool) → cuts_nothing s p t (does WRITE b a ten) ≡ leb (cut_end (find (λ x. x.writes) p.bursts)) t
  unfolding cuts_nothing
  write-uncut b a ten = every-last (keeps c) is_write p.bursts (each g.late g.bursts w (λ x e. e)) ∙ go (find is_write p.bursts) refl
    where
      c : Command
      c = does WRITE b a ten

      is_write : Burst → Bool
      is_write x = x.writes

      ended : {xs : List Burst} → All (Ended from) xs → All (Given from) xs → All Whole xs → All (Last (keeps c) is_write p.bursts) xs
      ended nil nil nil = nil
      ended (cons {x = x} z zs) (cons gx gs) (cons wx ws) = cons (record { or = inl (one x.writes x.auto refl refl) }) (ended zs gs ws)
        where
          one : (writes auto : Bool) → x.writes ≡ writes → x.auto ≡ auto → keeps c x ≡ true
          one false auto k m = uncut-keeps c x (rw k)
          one true true k m = auto-keeps c x m
          one true false k m = over-keeps c x gx wx m (omega (arith, z.by k))

      each : {xs : List Burst} → Late from xs → All (Given from) xs → All Whole xs →
          ((x : Burst) → find is_write xs ≡ some x → find is_write p.bursts ≡ some x) → All (Last (keeps c) is_write p.bursts) xs
      each nothing nil nil same = nil
      each (behind {x = x} {xs = xs} r) (cons gx gs) (cons wx ws) same = cons (record { or = one x.writes refl }) (ended r gs ws)
        where
          one : (v : Bool) → x.writes ≡ v → (keeps c x ≡ true) ⊎ (find is_write p.bursts ≡ some x)
          one true k = inr (same x (rw k))
          one false k = inl (uncut-keeps c x (rw k))

      go : (o : Option Burst) → find is_write p.bursts ≡ o → ever o (keeps c) ≡ leb (cut_end o) t
      go none e = sym (leb-zero t)
      go (some x) e = by x.auto refl
        where
          by : (auto : Bool) → x.auto ≡ auto → keeps c x ≡ leb (cond auto 0 (whole_end x)) t
          by true m = auto-keeps c x m ∙ sym (leb-zero t)
          by false m = cut_keeps c x (find-all is_write g.bursts e) (find-all is_write w e) m (rw (find-holds is_write p.bursts e))

-- ---- where nothing is cut, all bursts stay as they are

pub all_stay : (s : Settings) (p : Part) (t : ℕ) (c : Command) → cuts_nothing s p t c ≡ true → map (cut_by s p t c) p.bursts ≡ p.bursts
unfolding cuts_nothing
all_stay s p t c e = go p.bursts e
  where
    go : (xs : List Burst) → every (λ x. eqb (cut_by s p t c x).n x.n) xs ≡ true → map (cut_by s p t c) xs ≡ xs
    go [] k = refl
    go (x ∷ xs) k = by (eqb (cut_by s p t c x).n x.n) refl k (go xs)
      where
        by : (v : Bool) → eqb (cut_by s p t c x).n x.n ≡ v → (v && every (λ y. eqb (cut_by s p t c y).n y.n) xs) ≡ true →
            (every (λ y. eqb (cut_by s p t c y).n y.n) xs ≡ true → map (cut_by s p t c) xs ≡ xs) →
            cut_by s p t c x ∷ map (cut_by s p t c) xs ≡ x ∷ xs
        by true m k ih = λ i. with_pairs (eqb-true (cut_by s p t c x).n x.n m i) x ∷ ih k i
        by false m k ih = let z : ◌≡◌ {A = ℕ} 0 1 = cc in absurd (omega arith)
