-- A step does what its command does: one law for each way that the four command pins, and CKE, can stand.
use Prim.Native.Nat.{ℕ}
use mathlib.Core.Bool.{Bool, true, false, cond, false≢true}
use mathlib.Core.List.{List}
use mathlib.Core.Path.{◌≡◌, refl, sym, ap, ◌∙◌}
use lib.Dec.{eqb}
use borrow.Author.Tests.{eqb-true}
use Rattle.reading.specs.Settings.{Settings}
use Rattle.reading.proofs.Laws.{either_way}
use Rattle.deadlines.specs.Deadlines.{quiet_breaks, low_breaks, self_breaks, active_breaks, read_breaks, write_breaks, terminate_breaks, close_breaks, close_all_breaks, refresh_breaks, mode_breaks}
use Rattle.deadlines.specs.Deadlines.{pace_of, quiet_after, low_after, self_after, active_after, read_after, write_after, cut_read, close_after, close_all_after, refresh_after, mode_set_after}
use Rattle.pins.specs.Pins.{code_of, bank_of, address_of, ten_of, low_of, quiet_code}
use Rattle.steps.specs.Steps.{left_by, unless_lower, high_breaks, step_breaks, step_after, pace_after}

-- ---- the command pins by their number

-- one of the seven commands, or NOP or DESELECT
pub data Coded (q : ℕ) : Type 0 where
  is-active : q ≡ 12 → Coded q
  is_read : q ≡ 10 → Coded q
  is-write : q ≡ 2 → Coded q
  is-close : q ≡ 4 → Coded q
  is-terminate : q ≡ 6 → Coded q
  is-refresh : q ≡ 8 → Coded q
  is-mode-set : q ≡ 0 → Coded q
  is-quiet : quiet_code q ≡ true → Coded q

pub coded : (q : ℕ) → Coded q
coded q =
    either 12 is-active (λ a. either 10 is_read (λ b. either 2 is-write (λ c. either 4 is-close (λ d. either 6 is-terminate
    (λ e. either 8 is-refresh (λ f. either 0 is-mode-set (λ g. is-quiet (rw (a, b, c, d, e, f, g)))))))))
  where
    either : (k : ℕ) → (q ≡ k → Coded q) → (eqb q k ≡ false → Coded q) → Coded q
    either k this others = go (eqb q k) refl
      where
        go : (v : Bool) → eqb q k ≡ v → Coded q
        go true e = this (eqb-true q k e)
        go false e = others e

-- NOP and DESELECT have none of the numbers of the seven
pub quiet-not : (q k : ℕ) → quiet_code k ≡ false → quiet_code q ≡ true → eqb q k ≡ false
quiet-not q k f n = go (eqb q k) refl
  where
    go : (v : Bool) → eqb q k ≡ v → v ≡ false
    go true e = absurd (false≢true (sym (ap quiet_code (eqb-true q k e) ∙ f) ∙ n))
    go false e = refl

module _ (s : Settings) (d m : List ℕ) (t w : ℕ) where
  -- which rule a step breaks, the deadlines after it, and h and CL
  pub record Does (rule : ℕ) (after pace : List ℕ) : Type 0 where
    pub breaks : step_breaks s d t w ≡ rule
    pub leaves : step_after s d m t w ≡ after
    pub sets : pace_after m w ≡ pace

  -- ---- with CKE high

  pub active : {b a : ℕ} → b ≡ bank_of w → a ≡ address_of w → low_of w ≡ false → code_of w ≡ 12 → Does (active_breaks s d t b a) (active_after s d t b) m
  unfolding step_breaks step_after pace_after
  active f g n e = record { breaks = rw (f, g, n, e); leaves = rw (f, n, e); sets = rw e }

  pub read : {b : ℕ} {a : Bool} → b ≡ bank_of w → a ≡ ten_of w → low_of w ≡ false → code_of w ≡ 10 → Does (read_breaks d t b) (read_after s d m t b a) m
  unfolding step_breaks step_after pace_after
  read f g n e = record { breaks = rw (f, n, e); leaves = rw (f, g, n, e); sets = rw e }

  pub write : {b : ℕ} {a : Bool} → b ≡ bank_of w → a ≡ ten_of w → low_of w ≡ false → code_of w ≡ 2 → Does (write_breaks d t b) (write_after s d m t b a) m
  unfolding step_breaks step_after pace_after
  write f g n e = record { breaks = rw (f, n, e); leaves = rw (f, g, n, e); sets = rw e }

  pub close-all : low_of w ≡ false → code_of w ≡ 4 → ten_of w ≡ true → Does (close_all_breaks d t) (close_all_after s d m t) m
  unfolding step_breaks step_after pace_after
  close-all n e a = record { breaks = rw (n, e, a); leaves = rw (n, e, a); sets = rw e }

  pub close : {b : ℕ} → b ≡ bank_of w → low_of w ≡ false → code_of w ≡ 4 → ten_of w ≡ false → Does (close_breaks d t b) (close_after s d m t b) m
  unfolding step_breaks step_after pace_after
  close f n e a = record { breaks = rw (f, n, e, a); leaves = rw (f, n, e, a); sets = rw e }

  pub terminate : low_of w ≡ false → code_of w ≡ 6 → Does (terminate_breaks d t) (cut_read d m t true) m
  unfolding step_breaks step_after pace_after
  terminate n e = record { breaks = rw (n, e); leaves = rw (n, e); sets = rw e }

  pub refresh : low_of w ≡ false → code_of w ≡ 8 → Does (refresh_breaks d t) (refresh_after s d t) m
  unfolding step_breaks step_after pace_after
  refresh n e = record { breaks = rw (n, e); leaves = rw (n, e); sets = rw e }

  pub mode-set : {b a : ℕ} → b ≡ bank_of w → a ≡ address_of w → low_of w ≡ false → code_of w ≡ 0 →
      Does (mode_breaks d t b a) (mode_set_after s d t) (cond (eqb b 0) (pace_of a) m)
  unfolding step_breaks step_after pace_after
  mode-set f g n e = record { breaks = rw (f, g, n, e); leaves = rw (n, e); sets = rw (f, g, e) }

  pub quiet : {q : ℕ} → q ≡ code_of w → low_of w ≡ false → quiet_code q ≡ true → Does (quiet_breaks d t) (quiet_after s d t) m
  unfolding step_breaks step_after pace_after
  quiet {q} e l n =
      let e₁ = quiet-not q 12 refl n in
      let e₂ = quiet-not q 10 refl n in
      let e₃ = quiet-not q 2 refl n in
      let e₄ = quiet-not q 4 refl n in
      let e₅ = quiet-not q 6 refl n in
      let e₆ = quiet-not q 8 refl n in
      let e₇ = quiet-not q 0 refl n in
      record {
        breaks = rw (← e, l, e₁, e₂, e₃, e₄, e₅, e₆, e₇);
        leaves = rw (← e, l, e₁, e₂, e₃, e₄, e₅, e₆, e₇);
        sets = rw (← e, e₇);
      }

  -- ---- with CKE low

  pub low-quiet : {q : ℕ} → q ≡ code_of w → low_of w ≡ true → quiet_code q ≡ true → Does (low_breaks d t) (low_after d t) m
  unfolding step_breaks step_after pace_after
  low-quiet {q} e l n =
      let no-refresh = quiet-not q 8 refl n in
      record { breaks = rw (← e, l, n, no-refresh); leaves = rw (← e, l, no-refresh); sets = rw (← e, quiet-not q 0 refl n) }

  pub low-refresh : low_of w ≡ true → code_of w ≡ 8 → Does (self_breaks d t) (self_after d) m
  unfolding step_breaks step_after pace_after
  low-refresh l e = record { breaks = rw (l, e); leaves = rw (l, e); sets = rw e }

  -- a command that may not come: whatever it would leave
  pub low-command : low_of w ≡ true → eqb (code_of w) 8 ≡ false → quiet_code (code_of w) ≡ false →
      Does (unless_lower (high_breaks s d t w)) (low_after d t) (pace_after m w)
  unfolding step_breaks step_after
  low-command l e n = record { breaks = rw (l, n, e); leaves = rw (l, e); sets = refl }

  -- so a function that tells and leaves what its command does meets the step's contract
  abbrev pub Meets : ℕ → List ℕ → List ℕ → Type 0
  Meets told d' m' =
      record {
        value : told ≡ step_breaks s d t w;
        d_after : d' ≡ left_by (step_breaks s d t w) (step_after s d m t w) d;
        pace_after : m' ≡ left_by (step_breaks s d t w) (pace_after m w) m;
      }

pub untouched : (rule : ℕ) (x : List ℕ) → x ≡ left_by rule x x
untouched rule x = sym (either_way (eqb rule 0) x)

module _ {s : Settings} {d m : List ℕ} {t w : ℕ} where
  pub met : {rule : ℕ} {after pace : List ℕ} → Does s d m t w rule after pace → {told : ℕ} {d' m' : List ℕ} →
      told ≡ rule → d' ≡ left_by rule after d → m' ≡ left_by rule pace m → Meets s d m t w told d' m'
  met k a b e = rw (k.breaks, k.leaves, k.sets) (record { value = a; d_after = b; pace_after = e })

  -- where h and CL are left alone
  pub met-paced : {rule : ℕ} {after : List ℕ} → Does s d m t w rule after m → {told : ℕ} {d' : List ℕ} →
      told ≡ rule → d' ≡ left_by rule after d → Meets s d m t w told d' m
  met-paced {rule} k a b = met k a b (untouched rule m)
