-- What a command cuts by itself: of the part it is enough to know of each burst whether it is still the last write, and
-- whether its row still stands open with it as the last write there.
use Prim.Native.Nat.{ℕ, ◌+◌, ◌-◌, ◌≤◌, ◌<◌}
use mathlib.Core.Bool.{Bool, true, false, cond, not, ◌&&◌, ◌||◌, and-true, and-false}
use mathlib.Core.List.{List, [], ◌∷◌, map}
use mathlib.Core.Option.{Option, none, some}
use mathlib.Core.Path.{◌≡◌, refl, sym, ap, ◌∙◌}
use native.Mathlib.Omega.{arith}
use lib.Dec.{leb, ltb, eqb}
use borrow.Author.Tests.{lt-leb, eq-eqb, ne_eqb}
use Rattle.reading.specs.Search.{ever, find}
use Rattle.reading.specs.Settings.{Settings, newer}
use Rattle.reading.specs.Commands.{Op, ACTIVE, READ, WRITE, BURST-TERMINATE, PRECHARGE, AUTO-REFRESH, MODE-REGISTER-SET, NOP, DESELECT, Command, is, among, names}
use Rattle.reading.specs.Bursts.{Burst, with_pairs, whole_end}
use Rattle.reading.specs.Part.{Part, Bank, open_on, idle_from, last_write, last_bank_write, is_that, interrupted_to, at_most, cut_by, burst_given, part_after}
use Rattle.reading.specs.Rules.{rule3}
use Rattle.reading.proofs.Cuts.{All, nil, cons, none_left, spent-uncut}

-- no WRITE has come since; its bank has been neither closed, nor opened, nor written since
pub record Stands : Type 0 where
  pub last : Bool
  pub row : Bool

abbrev pub standing : Part → Burst → Stands
standing p x =
    record {
      last = is_that (last_write p) x;
      row = (p.banks x.bank).opened && is_that (last_bank_write p x.bank) x;
    }

-- whatever pairs it keeps
that-pairs : (o : Option Burst) (n : ℕ) (x : Burst) → is_that o (with_pairs n x) ≡ is_that o x
that-pairs none n x = refl
that-pairs (some y) n x = refl

pub standing-pairs : (p : Part) (n : ℕ) (x : Burst) → standing p (with_pairs n x) ≡ standing p x
standing-pairs p n x =
    λ i.
    record {
      last = that-pairs (last_write p) n x i;
      row = (p.banks x.bank).opened && that-pairs (last_bank_write p x.bank) n x i;
    }

-- a PRECHARGE that names the bank
abbrev pub shuts : Command → ℕ → Bool
shuts c b = is PRECHARGE c && names c b

abbrev pub ends : Command → ℕ → Bool
ends c b = shuts c b || (eqb b c.bank && (is ACTIVE c || (is WRITE c || (is READ c && c.A10))))

abbrev pub stands_after : Command → ℕ → Stands → Stands
stands_after c b f = record { last = f.last && not (is WRITE c); row = f.row && not (ends c b) }

-- which banks are open does not matter
abbrev pub cuts_alone : Command → Burst → Bool
cuts_alone c x = cond x.writes (is WRITE c) (among (READ ∷ BURST-TERMINATE ∷ []) c || shuts c x.bank)

abbrev pub interrupts_alone : Settings → Stands → Command → Burst → Bool
interrupts_alone s f c x = (newer s && x.writes) && cond (is READ c) f.last (shuts c x.bank && f.row)

abbrev pub cut_alone : Settings → Stands → ℕ → Command → Burst → Burst
cut_alone s f t c x =
    with_pairs
    (at_most
    (cond x.auto none
    (cond (cuts_alone c x && ltb t (whole_end x)) (some (t - x.k))
    (cond (interrupts_alone s f c x) (some (interrupted_to s t c x)) none)))
    x.n) x

-- a read that can be cut has nothing left to lose at t if its bank is idle
pub record Spent (t : ℕ) (p : Part) (x : Burst) : Type 0 where
  pub by : x.writes ≡ false → x.auto ≡ false → (p.banks x.bank).opened ≡ false → x.k + x.n ≤ t

module _ (s : Settings) (p : Part) (t : ℕ) (c : Command) where
  -- so it does not matter whether the bank that a PRECHARGE names is open
  cut-alone : (x : Burst) → Spent t p x → cut_by s p t c x ≡ cut_alone s (standing p x) t c x
  cut-alone x z = go x.writes refl x.auto refl (p.banks x.bank).opened refl
    where
      sorted : (q o m v : Bool) → ((q && (o && m)) && v) ≡ ((q && m) && (o && v))
      sorted true true m v = refl
      sorted true false true v = refl
      sorted true false false v = refl
      sorted false o m v = refl

      go : (w : Bool) → x.writes ≡ w → (a : Bool) → x.auto ≡ a → (o : Bool) → (p.banks x.bank).opened ≡ o →
          cut_by s p t c x ≡ cut_alone s (standing p x) t c x
      go true e a f o g =
          rw (sorted (is PRECHARGE c) (p.banks x.bank).opened (names c x.bank) (is_that (last_bank_write p x.bank) x), e)
      go false e true f o g = rw f
      go false e false f true g = rw (e, f, g, and-false (newer s))
      go false e false f false g =
          let cut = among (READ ∷ BURST-TERMINATE ∷ []) c || shuts c x.bank in
          spent-uncut s p t c x e f (z.by e f g)
          ∙ ap (λ (n : ℕ). with_pairs n x)
          (sym (rw (e, f, and-false (newer s)) (none_left x.k x.n t (cut && ltb t (whole_end x)) (z.by e f g))))

-- ---- what an event leaves standing

module _ (s : Settings) (p : Part) (t : ℕ) where
  -- every burst was given before, and every row opened
  pub record Past (x : Burst) : Type 0 where
    pub given : x.k < t

  found-kept : (q : Burst → Bool) (f : Burst → Burst) → ((y : Burst) → q (f y) ≡ q y) → ((y : Burst) → (f y).k ≡ y.k) →
      (ys : List Burst) (x : Burst) → is_that (find q (map f ys)) x ≡ is_that (find q ys) x
  found-kept q f a b [] x = refl
  found-kept q f a b (y ∷ ys) x = rw (a y) (go (q y) (found-kept q f a b ys x))
    where
      go : (v : Bool) → is_that (find q (map f ys)) x ≡ is_that (find q ys) x →
          is_that (cond v (some (f y)) (find q (map f ys))) x ≡ is_that (cond v (some y) (find q ys)) x
      go true ih = ap (λ (k : ℕ). eqb k x.k) (b y)
      go false ih = ih

  not_yet : (b : ℕ) {ys : List Burst} → All Past ys → (c : Command) →
      find (λ y. y.writes && (eqb b y.bank && leb t y.k)) (map (cut_by s p t c) ys) ≡ none
  not_yet b nil c = refl
  not_yet b (cons {x = y} z zs) c =
      rw (lt-leb t y.k z.given, and-false (eqb b y.bank), and-false y.writes) (not_yet b zs c)

  module _ (x : Burst) (l : x.k < t) (past : All Past p.bursts) (opened : ever (p.banks x.bank).last_active (λ a. leb a t) ≡ true) where
    abbrev b : ℕ
    b = x.bank

    abbrev B : Bank
    B = p.banks b

    abbrev cut : Command → List Burst
    cut c = map (cut_by s p t c) p.bursts

    -- a write to the bank since its ACTIVE, which is o
    abbrev since : Option ℕ → Burst → Bool
    since o y = y.writes && (eqb b y.bank && ever o (λ a. leb a y.k))

    last-kept : (c : Command) → is_that (find (λ y. y.writes) (cut c)) x ≡ (is_that (last_write p) x && true)
    last-kept c = found-kept (λ y. y.writes) (cut_by s p t c) (λ y. refl) (λ y. refl) p.bursts x ∙ sym (and-true (is_that (last_write p) x))

    row_kept : (c : Command) → is_that (find (since B.last_active) (cut c)) x ≡ is_that (last_bank_write p b) x
    row_kept c = found-kept (since B.last_active) (cut_by s p t c) (λ y. refl) (λ y. refl) p.bursts x

    abbrev stood : Bool
    stood = B.opened && is_that (last_bank_write p b) x

    row_stays : (c : Command) → (B.opened && is_that (find (since B.last_active) (cut c)) x) ≡ (stood && true)
    row_stays c = ap (λ (v : Bool). B.opened && v) (row_kept c) ∙ sym (and-true stood)

    row-left : (c : Command) (v : Bool) → (B.opened && is_that (find (since B.last_active) (cut c)) x) ≡ (stood && not (v && false))
    row-left c v = row_stays c ∙ rw (and-false v)

    -- a new burst is not x
    new-last : eqb t x.k ≡ false
    new-last = ne_eqb t x.k (λ e. omega arith)

    row_opened : (c : Command) (a : ℕ) (v : Bool) →
        let k = cond v (open_on a t B) B in
        (k.opened && is_that (find (since k.last_active) (cut c)) x) ≡ (stood && not (v && true))
    row_opened c a true = rw (not_yet b past c) (sym (and-false stood))
    row_opened c a false = row_stays c

    row-closed : (c : Command) (o m v : Bool) → B.opened ≡ o →
        let k = cond (o && m) (idle_from t B) B in
        (k.opened && is_that (find (since k.last_active) (cut c)) x) ≡ ((o && is_that (last_bank_write p b) x) && not (m || (v && false)))
    row-closed c true true v e = sym (and-false (is_that (last_bank_write p b) x))
    row-closed c true false v e = rw (e, and-false v) (row_kept c ∙ sym (and-true (is_that (last_bank_write p b) x)))
    row-closed c false m v e = rw e

    row_read : (c : Command) (e : ℕ) (v ten : Bool) →
        let k = cond (v && ten) (idle_from e B) B in
        (k.opened && is_that (find (since k.last_active) (cut c)) x) ≡ (stood && not (v && ten))
    row_read c e true true = sym (and-false stood)
    row_read c e true false = row_stays c
    row_read c e false ten = row_stays c

    row_written : (c : Command) (y : Burst) (e : ℕ) (v ten : Bool) → y.k ≡ t →
        let k = cond (v && ten) (idle_from e B) B in
        (k.opened && is_that (cond (v && ever k.last_active (λ a. leb a t)) (some y) (find (since k.last_active) (cut c))) x) ≡ (stood && not (v && true))
    row_written c y e true true q = sym (and-false stood)
    row_written c y e true false q = rw (opened, q, new-last, and-false B.opened) (sym (and-false stood))
    row_written c y e false ten q = row_stays c

    pub standing-after : (c : Command) → standing (part_after s p t c) x ≡ stands_after c b (standing p x)
    standing-after c = go c.op
      where
        with-op : Op → Command
        with-op o = record { op = o; bank = c.bank; address = c.address; A10 = c.A10; low = c.low }

        same : {f g : Stands} → f.last ≡ g.last → f.row ≡ g.row → f ≡ g
        same u v = λ i. record { last = u i; row = v i }

        go : (o : Op) → standing (part_after s p t (with-op o)) x ≡ stands_after (with-op o) b (standing p x)
        go ACTIVE = same (last-kept (with-op ACTIVE)) (row_opened (with-op ACTIVE) c.address (eqb b c.bank))
        go READ = same (last-kept (with-op READ)) (row_read (with-op READ) _ (eqb b c.bank) c.A10)
        go WRITE =
            same (new-last ∙ sym (and-false (is_that (last_write p) x)))
            (row_written (with-op WRITE) (burst_given s p t (with-op WRITE)) _ (eqb b c.bank) c.A10 refl)
        go BURST-TERMINATE = same (last-kept (with-op BURST-TERMINATE)) (row-left (with-op BURST-TERMINATE) (eqb b c.bank))
        go PRECHARGE = same (last-kept (with-op PRECHARGE)) (row-closed (with-op PRECHARGE) B.opened (names c b) (eqb b c.bank) refl)
        go AUTO-REFRESH = same (last-kept (with-op AUTO-REFRESH)) (row-left (with-op AUTO-REFRESH) (eqb b c.bank))
        go MODE-REGISTER-SET = same (last-kept (with-op MODE-REGISTER-SET)) (row-left (with-op MODE-REGISTER-SET) (eqb b c.bank))
        go NOP = same (last-kept (with-op NOP)) (row-left (with-op NOP) (eqb b c.bank))
        go DESELECT = same (last-kept (with-op DESELECT)) (row-left (with-op DESELECT) (eqb b c.bank))

-- ---- every event cuts what its command cuts by itself

module _ (s : Settings) (p : Part) (t : ℕ) (c : Command) where
  pub cuts-alone : {xs : List Burst} → All (Spent t p) xs → map (cut_by s p t c) xs ≡ map (λ x. cut_alone s (standing p x) t c x) xs
  cuts-alone nil = refl
  cuts-alone (cons {x} {xs} z zs) = rw (cut-alone s p t c x z, cuts-alone zs)

-- ---- a write stands from its own event on, where rule 3 is kept

module _ (s : Settings) (p : Part) (t : ℕ) (c : Command) (a : c.A10 ≡ false) (opened : ever (p.banks c.bank).last_active (λ r. leb r t) ≡ true) where
  pub given-stands : is WRITE c ≡ true → rule3 s p t c ≡ true → standing (part_after s p t c) (burst_given s p t c) ≡ record { last = true; row = true }
  given-stands = go c.op
    where
      with-op : Op → Command
      with-op o = record { op = o; bank = c.bank; address = c.address; A10 = c.A10; low = c.low }

      never : {A : Type 0} → false ≡ true → A
      never e = absurd (let z : ◌≡◌ {A = ℕ} 0 1 = cc in omega arith)

      go : (o : Op) → is WRITE (with-op o) ≡ true → rule3 s p t (with-op o) ≡ true →
          standing (part_after s p t (with-op o)) (burst_given s p t (with-op o)) ≡ record { last = true; row = true }
      go WRITE e k = rw (a, eq-eqb c.bank c.bank refl, opened, k, eq-eqb t t refl)
      go ACTIVE e k = never e
      go READ e k = never e
      go BURST-TERMINATE e k = never e
      go PRECHARGE e k = never e
      go AUTO-REFRESH e k = never e
      go MODE-REGISTER-SET e k = never e
      go NOP e k = never e
      go DESELECT e k = never e
