-- Why rule 6 need not be asked: where tRC is at most tRAS + tRP, rules 3, 5 and 9 and the cycle of an auto precharge keep the
-- ACTIVEs of a bank tRC apart, so no event breaks rule 6 and no lower one. Both readings, with the rule and without, agree.
use Prim.Native.Nat.{ℕ, suc, ◌+◌, ◌<◌}
use mathlib.Core.Bool.{Bool, true, false, cond, not, ◌&&◌, true≢false}
use mathlib.Core.List.Memᴰ
use mathlib.Core.List.{List, [], ◌∷◌, ◌++◌, Memᴰ}
use mathlib.Core.Option.{Option, none, some}
use mathlib.Core.Path.{◌≡◌, refl, ap, ◌∙◌}
use native.Mathlib.Omega.{arith}
use lib.Dec.{eqb}
use borrow.Author.Tests.{leb-true, le-leb, not-true}
use Rattle.reading.specs.Search.{implies, every, find, after, or_zero, later}
use Rattle.reading.specs.Mode.{h}
use Rattle.reading.specs.Settings.{Settings, Consistent}
use Rattle.reading.specs.Capture.{Event}
use Rattle.reading.specs.Commands.{Command, ACTIVE, READ, WRITE, is, among, command_of}
use Rattle.reading.specs.Part.{Bank, Part, start, step, open_on, idle_from, auto_precharge, closes, bank_after, part_after}
use Rattle.reading.specs.Rules.{below_six, keeps_rule, rule3, rule5, rule6, rule9, lowest_broken}
use Rattle.reading.proofs.Laws.{both, every-bank, later_first}
use Rattle.reading.proofs.Found.{listed}
use Rattle.reading.proofs.Meaning.{each-kept}
use Rattle.reading.specs.Schedule.{passes}
use Rattle.reading.specs.Verdict.{judge_by, broken_or}

-- ---- lists of rules that differ in one

-- a number that does not have the property where none before it has may be left out
left_out : {A : Type 0} (f : A → Bool) (before : List A) (x : A) (behind : List A) → (find f before ≡ none → f x ≡ false) →
    find f (before ++ x ∷ behind) ≡ find f (before ++ behind)
left_out f [] x behind h = rw (h refl)
left_out f (y ∷ before) x behind h = go (f y) h (left_out f before x behind)
  where
    go : (b : Bool) → (cond b (some y) (find f before) ≡ none → f x ≡ false) →
        ((find f before ≡ none → f x ≡ false) → find f (before ++ x ∷ behind) ≡ find f (before ++ behind)) →
        cond b (some y) (find f (before ++ x ∷ behind)) ≡ cond b (some y) (find f (before ++ behind))
    go true g rest = refl
    go false g rest = rest g

-- and what holds where all before it hold
left-unasked : {A : Type 0} (f : A → Bool) (before : List A) (x : A) (behind : List A) → (every f before ≡ true → f x ≡ true) →
    every f (before ++ x ∷ behind) ≡ every f (before ++ behind)
left-unasked f [] x behind h = rw (h refl)
left-unasked f (y ∷ before) x behind h = go (f y) h (left-unasked f before x behind)
  where
    go : (b : Bool) → (b && every f before ≡ true → f x ≡ true) →
        ((every f before ≡ true → f x ≡ true) → every f (before ++ x ∷ behind) ≡ every f (before ++ behind)) →
        b && every f (before ++ x ∷ behind) ≡ b && every f (before ++ behind)
    go false g rest = refl
    go true g rest = rest g

module _ (s : Settings) where
  -- ---- a bank

  -- once an idle bank's precharge is over, tRAS + tRP have passed since its ACTIVE
  abbrev pub Rested : Bank → Type 0
  Rested x = (t : ℕ) → x.opened ≡ false → after s.t_rp x.precharge_cycle t ≡ true → after (s.t_ras + s.t_rp) x.last_active t ≡ true

  idle-rested : (q : ℕ) (x : Bank) → after s.t_ras x.last_active q ≡ true → Rested (idle_from q x)
  idle-rested q x held t o over = go x.last_active held
    where
      go : (active : Option ℕ) → after s.t_ras active q ≡ true → after (s.t_ras + s.t_rp) active t ≡ true
      go none h = refl
      go (some a) h =
          le-leb (a + (s.t_ras + s.t_rp)) t (omega (arith, leb-true (a + s.t_ras) q h, leb-true (q + s.t_rp) t over))

  -- an auto precharge waits for tRAS
  auto-held : (m k : ℕ) (c : Command) (x : Bank) → after s.t_ras x.last_active (auto_precharge s m k c x) ≡ true
  auto-held m k c x = go x.last_active (cond (is WRITE c) (k + 1 + h m + s.t_wr) (k + h m))
    where
      go : (active : Option ℕ) (end : ℕ) → after s.t_ras active (later (or_zero active + s.t_ras) end) ≡ true
      go none end = refl
      go (some a) end = le-leb (a + s.t_ras) (later (a + s.t_ras) end) (later_first (a + s.t_ras) end)

  stays-rested : (m t : ℕ) (c : Command) (b : ℕ) (x : Bank) → implies (closes c b x) (after s.t_ras x.last_active t) ≡ true →
      Rested x → Rested (bank_after s m t c b x)
  stays-rested m t c b x held rested =
      go (is ACTIVE c && eqb b c.bank) (among (READ ∷ WRITE ∷ []) c && (eqb b c.bank && c.A10)) (closes c b x) held
    where
      go : (opens auto shuts : Bool) → implies shuts (after s.t_ras x.last_active t) ≡ true →
          Rested (cond opens (open_on c.address t x)
          (cond auto (idle_from (auto_precharge s m t c x) x) (cond shuts (idle_from t x) x)))
      go true auto shuts k = λ u o. absurd (true≢false o)
      go false true shuts k = idle-rested (auto_precharge s m t c x) x (auto-held m t c x)
      go false false true k = idle-rested t x k
      go false false false k = rested

  -- ---- a part

  abbrev pub Rest : Part → Type 0
  Rest p = (b : ℕ) → b < 4 → Rested (p.banks b)

  pub start-rest : Rest (start s)
  start-rest b l t o over = refl

  pub next-rest : (p : Part) (t : ℕ) (c : Command) → rule9 s p t c ≡ true → Rest p → Rest (part_after s p t c)
  next-rest p t c nine rest b l =
      let held = every-bank (λ i. implies (closes c i (p.banks i)) (after s.t_ras (p.banks i).last_active t)) nine b l in
      stays-rested p.mode t c b (p.banks b) held (rest b l)

  -- rules 3 and 5 ask as much as rule 6
  module _ (fits : Consistent s) where
    six-kept : (p : Part) (t : ℕ) (c : Command) → c.bank < 4 → Rest p → rule3 s p t c ≡ true → rule5 s p t c ≡ true → rule6 s p t c ≡ true
    six-kept p t c l rest three five = go (is ACTIVE c) _ _ three five
      where
        sooner : (active : Option ℕ) → after (s.t_ras + s.t_rp) active t ≡ true → after s.t_rc active t ≡ true
        sooner none e = refl
        sooner (some a) e = le-leb (a + s.t_rc) t (omega (arith, fits, leb-true (a + (s.t_ras + s.t_rp)) t e))

        go : (active u v : Bool) → cond active (not (p.banks c.bank).opened) u ≡ true →
            cond active (after s.t_rp (p.banks c.bank).precharge_cycle t) v ≡ true →
            implies active (after s.t_rc (p.banks c.bank).last_active t) ≡ true
        go false u v e f = refl
        go true u v e f = sooner (p.banks c.bank).last_active (rest c.bank l t (not-true _ e) f)

    -- ---- judging

    -- the rules before 6, and any that come behind it and have 9 among them
    module _ (behind : List ℕ) (nine : Memᴰ 9 behind) where
      abbrev pub asked : List ℕ
      asked = below_six ++ behind

      abbrev pub asked-with-six : List ℕ
      asked-with-six = below_six ++ 6 ∷ behind

      module _ (p : Part) (rest : Rest p) (t w : ℕ) where
        abbrev breaks : ℕ → Bool
        breaks r = not (keeps_rule r s p t (command_of w))

        same-lowest : lowest_broken asked-with-six s p t (command_of w) ≡ lowest_broken asked s p t (command_of w)
        same-lowest =
            left_out breaks below_six 6 behind
            (λ e.
            let kept = each-kept below_six s p t (command_of w) e in
            ap not (six-kept p t (command_of w) (omega arith) rest (kept 3 (listed 3 below_six refl)) (kept 5 (listed 5 below_six refl))))

        -- so do those that pass a command of a schedule
        pub same-passes : passes asked-with-six s p w t ≡ passes asked s p w t
        unfolding passes
        same-passes =
            left-unasked (λ r. keeps_rule r s p t (command_of w)) below_six 6 behind
            (λ e.
            let keeps : ℕ → Bool = λ r. keeps_rule r s p t (command_of w) in
            let behind-two = (both (keeps 2) _ (both (keeps 1) _ e).1).1 in
            let behind-three = (both (keeps 3) _ behind-two).1 in
            six-kept p t (command_of w) (omega arith) rest (both (keeps 3) _ behind-two).0
            (both (keeps 5) _ (both (keeps 4) _ behind-three).1).0)

        rest-on : lowest_broken asked s p t (command_of w) ≡ none → Rest (part_after s p t (command_of w))
        rest-on e = next-rest p t (command_of w) (each-kept asked s p t (command_of w) e 9 (Memᴰ.append_right below_six nine)) rest

      pub same-judged : (p : Part) → Rest p → (i : ℕ) (es : List Event) → judge_by asked-with-six s p i es ≡ judge_by asked s p i es
      unfolding judge_by
      same-judged p rest i [] = refl
      same-judged p rest i (e ∷ es) =
          ap (λ (o : Option ℕ). broken_or o i e.cycle (judge_by asked-with-six s (step s p e) (suc i) es)) (same-lowest p rest e.cycle e.pins)
          ∙ go (lowest_broken asked s p e.cycle (command_of e.pins)) (rest-on p rest e.cycle e.pins) (λ r. same-judged (step s p e) r (suc i) es)
        where
          go : (o : Option ℕ) → (o ≡ none → Rest (step s p e)) →
              (Rest (step s p e) → judge_by asked-with-six s (step s p e) (suc i) es ≡ judge_by asked s (step s p e) (suc i) es) →
              broken_or o i e.cycle (judge_by asked-with-six s (step s p e) (suc i) es) ≡ broken_or o i e.cycle (judge_by asked s (step s p e) (suc i) es)
          go none on same = same (on refl)
          go (some r) on same = refl
