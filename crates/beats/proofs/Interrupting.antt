-- A write that can be interrupted: what all events behind it leave is what the first READ or WRITE leaves, and the first event
-- that ends its row.
use Prim.Native.Nat.{ℕ, suc, ◌+◌, ◌-◌, ◌≤◌}
use mathlib.Core.Bool.{Bool, true, false, cond, not, ◌&&◌, ◌||◌, and-false}
use mathlib.Core.List.{List, [], ◌∷◌}
use mathlib.Core.Option.{none, some}
use mathlib.Core.Path.{◌≡◌, refl, sym, ap, ◌∙◌}
use native.Mathlib.Omega.{arith}
use borrow.Author.Tests.{ltb-false, eqb-true}
use lib.Dec.{leb, ltb, eqb}
use Rattle.reading.specs.Search.{lesser}
use Rattle.reading.specs.Mode.{h}
use Rattle.reading.specs.Settings.{Settings, newer}
use Rattle.reading.specs.Capture.{Event}
use Rattle.reading.specs.Commands.{Op, ACTIVE, READ, WRITE, BURST-TERMINATE, PRECHARGE, AUTO-REFRESH, MODE-REGISTER-SET, NOP, DESELECT, Command, is, command_of}
use Rattle.reading.specs.Bursts.{Burst, with_pairs, whole_end}
use Rattle.reading.specs.Part.{at_most}
use Rattle.reading.proofs.Alone.{Stands, shuts, ends, stands_after, cut_alone}
use Rattle.reading.proofs.Laws.{both, lesser-first, lesser-second, lesser-low}
use Rattle.capture.proofs.Rising.{Rises}
use Rattle.pins.specs.Pins.{code_of}
use Rattle.pins.proofs.Commands.{active-is, read_is, write-is, precharge-is}
use Rattle.beats.specs.Kept.{shuts_bank, takes_bank, next_leaves, row_leaves}
use Rattle.beats.proofs.Cut.{cut_by_all}

-- ---- the lesser of three

le-both : (u a b : ℕ) → u ≤ a → u ≤ b → u ≤ lesser a b
le-both u a b l m = go (leb a b)
  where
    go : (v : Bool) → u ≤ cond v a b
    go true = l
    go false = m

module _ (a b c : ℕ) where
  lesser-swap : lesser (lesser a b) c ≡ lesser (lesser a c) b
  lesser-swap =
      let u = lesser (lesser a b) c in
      let v = lesser (lesser a c) b in
      let up : u ≤ v =
      le-both u (lesser a c) b
      (le-both u a c (omega (arith, lesser-first (lesser a b) c, lesser-first a b)) (lesser-second (lesser a b) c)) (omega (arith, lesser-first (lesser a b) c, lesser-second a b)) in
      let down : v ≤ u =
      le-both v (lesser a b) c
      (le-both v a b (omega (arith, lesser-first (lesser a c) b, lesser-first a c)) (lesser-second (lesser a c) b)) (omega (arith, lesser-first (lesser a c) b, lesser-second a c)) in
      omega arith

  lesser-inner : lesser (lesser a b) c ≡ lesser a (lesser b c)
  lesser-inner =
      let u = lesser (lesser a b) c in
      let v = lesser a (lesser b c) in
      let up : u ≤ v =
      le-both u a (lesser b c) (omega (arith, lesser-first (lesser a b) c, lesser-first a b))
      (le-both u b c (omega (arith, lesser-first (lesser a b) c, lesser-second a b)) (lesser-second (lesser a b) c)) in
      let down : v ≤ u =
      le-both v (lesser a b) c (le-both v a b (lesser-first a (lesser b c)) (omega (arith, lesser-second a (lesser b c), lesser-first b c)))
      (omega (arith, lesser-second a (lesser b c), lesser-second b c)) in
      omega arith

-- ---- what bursts leave, and what the commands to its row leave

module _ (s : Settings) (x : Burst) (n : newer s ≡ true) (w : x.writes ≡ true) (a : x.auto ≡ false) where
  abbrev by_burst : Bool → ℕ → Command → ℕ → ℕ
  by_burst last t c m =
      cond (is WRITE c && ltb t (whole_end x)) (lesser m (t - x.k)) (cond (is READ c && last) (lesser m (t - (x.k + 1 + s.t_wtr))) m)

  abbrev by_row : Bool → ℕ → Command → ℕ → ℕ
  by_row row t c m = cond (shuts c x.bank && row) (lesser m (t - (x.k + 1 + s.t_wr))) m

  one_apart : (f : Stands) (t : ℕ) (c : Command) (u v : ℕ) →
      cut_alone s f t c (with_pairs (lesser u v) x) ≡ with_pairs (lesser (by_burst f.last t c u) (by_row f.row t c v)) x
  one_apart f t c u v = ap (λ (m : ℕ). with_pairs m x) (rw (n, w, a) (go c.op))
    where
      with-op : Op → Command
      with-op o = record { op = o; bank = c.bank; address = c.address; A10 = c.A10; low = c.low }

      cut : Command → ℕ
      cut d =
          at_most
          (cond (is WRITE d && ltb t (whole_end x)) (some (t - x.k))
          (cond (cond (is READ d) f.last (shuts d x.bank && f.row)) (some (t - (x.k + 1 + cond (is READ d) s.t_wtr s.t_wr))) none)) (lesser u v)

      by-write : (b : Bool) → at_most (cond b (some (t - x.k)) none) (lesser u v) ≡ lesser (cond b (lesser u (t - x.k)) u) v
      by-write true = lesser-swap u v (t - x.k)
      by-write false = refl

      by_read : (b : Bool) → at_most (cond b (some (t - (x.k + 1 + s.t_wtr))) none) (lesser u v) ≡ lesser (cond b (lesser u (t - (x.k + 1 + s.t_wtr))) u) v
      by_read true = lesser-swap u v (t - (x.k + 1 + s.t_wtr))
      by_read false = refl

      by-close : (b : Bool) → at_most (cond b (some (t - (x.k + 1 + s.t_wr))) none) (lesser u v) ≡ lesser u (cond b (lesser v (t - (x.k + 1 + s.t_wr))) v)
      by-close true = lesser-inner u v (t - (x.k + 1 + s.t_wr))
      by-close false = refl

      go : (o : Op) → cut (with-op o) ≡ lesser (by_burst f.last t (with-op o) u) (by_row f.row t (with-op o) v)
      go ACTIVE = refl
      go READ = by_read f.last
      go WRITE = by-write (ltb t (whole_end x))
      go BURST-TERMINATE = refl
      go PRECHARGE = by-close (shuts (with-op PRECHARGE) x.bank && f.row)
      go AUTO-REFRESH = refl
      go MODE-REGISTER-SET = refl
      go NOP = refl
      go DESELECT = refl

  -- ---- all events behind it

  abbrev bursts : Bool → ℕ → List Event → ℕ
  bursts last m [] = m
  bursts last m (e ∷ es) =
      let c = command_of e.pins in
      bursts (last && not (is WRITE c)) (by_burst last e.cycle c m) es

  abbrev rows : Bool → ℕ → List Event → ℕ
  rows row m [] = m
  rows row m (e ∷ es) =
      let c = command_of e.pins in
      rows (row && not (ends c x.bank)) (by_row row e.cycle c m) es

  apart : (es : List Event) (f : Stands) (u v : ℕ) → cut_by_all s es f (with_pairs (lesser u v) x) ≡ with_pairs (lesser (bursts f.last u es) (rows f.row v es)) x
  apart [] f u v = refl
  apart (e ∷ es) f u v =
      let c = command_of e.pins in
      ap (cut_by_all s es (stands_after c x.bank f)) (one_apart f e.cycle c u v)
      ∙ apart es (stands_after c x.bank f) (by_burst f.last e.cycle c u) (by_row f.row e.cycle c v)

  -- what one READ or WRITE left, the later ones leave
  settled : (es : List Event) (last : Bool) (m from : ℕ) → (last ≡ true → m ≤ from - (x.k + 1 + s.t_wtr)) → m ≤ from - x.k → Rises from es →
      bursts last m es ≡ m
  settled [] last m from l k r = refl
  settled (e ∷ es) last m from l k r =
      ap (λ (u : ℕ). bursts (last && not (is WRITE c)) u es) (same (is WRITE c && ltb e.cycle (whole_end x)) (is READ c) last l)
      ∙ settled es (last && not (is WRITE c)) m (suc e.cycle) (λ f. omega (arith, l (both last (not (is WRITE c)) f).0, r.0)) (omega (arith, r.0)) r.1
    where
      c : Command
      c = command_of e.pins

      same : (p q v : Bool) → (v ≡ true → m ≤ from - (x.k + 1 + s.t_wtr)) →
          cond p (lesser m (e.cycle - x.k)) (cond (q && v) (lesser m (e.cycle - (x.k + 1 + s.t_wtr))) m) ≡ m
      same true q v g = lesser-low m (e.cycle - x.k) (omega (arith, r.0))
      same false true true g = lesser-low m (e.cycle - (x.k + 1 + s.t_wtr)) (omega (arith, r.0, g refl))
      same false true false g = refl
      same false false v g = refl

  -- nothing is left to do where the row has ended
  row-ended : (es : List Event) (m : ℕ) → rows false m es ≡ m
  row-ended [] m = refl
  row-ended (e ∷ es) m = rw (and-false (shuts (command_of e.pins) x.bank)) (row-ended es m)

  -- the first of them
  next-is : (es : List Event) (m from : ℕ) → m ≤ h x.mode → Rises from es → bursts true m es ≡ next_leaves s x.k m es
  unfolding next_leaves
  next-is [] m from l r = refl
  next-is (e ∷ es) m from l r =
      rw (read_is e.pins, write-is e.pins) (go (eqb (code_of e.pins) 10) refl (eqb (code_of e.pins) 2) refl (next-is es m (suc e.cycle) l r.1))
    where
      t : ℕ
      t = e.cycle

      left : Bool → Bool → ℕ
      left v u = cond (u && ltb t (whole_end x)) (lesser m (t - x.k)) (cond (v && true) (lesser m (t - (x.k + 1 + s.t_wtr))) m)

      both : eqb (code_of e.pins) 10 ≡ true → eqb (code_of e.pins) 2 ≡ true → ⊥
      both p q = omega (arith, eqb-true (code_of e.pins) 10 p, eqb-true (code_of e.pins) 2 q)

      by-write : (v : Bool) → ltb t (whole_end x) ≡ v → bursts false (cond v (lesser m (t - x.k)) m) es ≡ lesser m (t - x.k)
      by-write true q =
          settled es false (lesser m (t - x.k)) (suc t) (λ f. absurd (let z : ◌≡◌ {A = ℕ} 0 1 = cc in omega arith)) (omega (arith, lesser-second m (t - x.k))) r.1
      by-write false q =
          let past : m ≤ t - x.k = omega (arith, ltb-false t (whole_end x) q) in
          settled es false m (suc t) (λ f. absurd (let z : ◌≡◌ {A = ℕ} 0 1 = cc in omega arith)) (omega arith) r.1 ∙ sym (lesser-low m (t - x.k) past)

      go : (v : Bool) → eqb (code_of e.pins) 10 ≡ v → (u : Bool) → eqb (code_of e.pins) 2 ≡ u → bursts true m es ≡ next_leaves s x.k m es →
          bursts (true && not u) (left v u) es ≡ cond (v || u) (lesser m (t - cond v (x.k + 1 + s.t_wtr) x.k)) (next_leaves s x.k m es)
      go true p true q ih = absurd (both p q)
      go true p false q ih =
          settled es true (lesser m (t - (x.k + 1 + s.t_wtr))) (suc t) (λ f. omega (arith, lesser-second m (t - (x.k + 1 + s.t_wtr))))
          (omega (arith, lesser-second m (t - (x.k + 1 + s.t_wtr)))) r.1
      go false p true q ih = by-write (ltb t (whole_end x)) refl
      go false p false q ih = ih

  -- the first that ends its row
  row_is : (es : List Event) (m : ℕ) → rows true m es ≡ row_leaves s x.bank x.k m es
  unfolding row_leaves
  row_is [] m = refl
  row_is (e ∷ es) m = rw (ends-are, shuts-are) (go (shuts_bank x.bank e.pins) (takes_bank x.bank e.pins) (row_is es m))
    where
      shuts-are : shuts (command_of e.pins) x.bank ≡ shuts_bank x.bank e.pins
      shuts-are = rw (precharge-is e.pins)

      ends-are : ends (command_of e.pins) x.bank ≡ (shuts_bank x.bank e.pins || takes_bank x.bank e.pins)
      ends-are = rw (precharge-is e.pins, active-is e.pins, write-is e.pins, read_is e.pins)

      go : (v u : Bool) → rows true m es ≡ row_leaves s x.bank x.k m es →
          rows (true && not (v || u)) (cond (v && true) (lesser m (e.cycle - (x.k + 1 + s.t_wr))) m) es
          ≡ cond v (lesser m (e.cycle - (x.k + 1 + s.t_wr))) (cond u m (row_leaves s x.bank x.k m es))
      go true u ih = row-ended es (lesser m (e.cycle - (x.k + 1 + s.t_wr)))
      go false true ih = row-ended es m
      go false false ih = ih

  -- of a write that nothing came to yet
  pub interrupted-ahead : (es : List Event) (f : Stands) (from : ℕ) → f.last ≡ true → f.row ≡ true → x.n ≡ h x.mode → Rises from es →
      cut_by_all s es f x ≡ with_pairs (lesser (next_leaves s x.k (h x.mode) es) (row_leaves s x.bank x.k (h x.mode) es)) x
  interrupted-ahead es f from i j q r =
      ap (λ (m : ℕ). cut_by_all s es f (with_pairs m x)) (q ∙ sym (lesser-low (h x.mode) (h x.mode) (omega arith)))
      ∙ apart es f (h x.mode) (h x.mode)
      ∙ (λ u. with_pairs (lesser (bursts (i u) (h x.mode) es) (rows (j u) (h x.mode) es)) x)
      ∙ (λ u. with_pairs (lesser (next-is es (h x.mode) from (omega arith) r u) (row_is es (h x.mode) u)) x)
