-- A step with CKE low, by what is told and left of it.
use Prim.Native.Nat.{ℕ}
use mathlib.Core.Bool.{Bool, true, false, cond, ◌&&◌}
use mathlib.Core.List.{List, []}
use mathlib.Core.Path.{◌≡◌, refl, ap, ◌∙◌}
use lib.Dec.{eqb}
use borrow.Author.Tests.{eqb-true}
use Rattle.reading.specs.Settings.{Settings}
use Rattle.deadlines.specs.Deadlines.{low_breaks, self_breaks, active_breaks, read_breaks, write_breaks, terminate_breaks, close_breaks, close_all_breaks, mode_breaks}
use Rattle.deadlines.specs.Deadlines.{pace_of, low_after, self_after}
use Rattle.pins.specs.Pins.{code_of, bank_of, address_of, ten_of, low_of, quiet_code}
use Rattle.steps.specs.Steps.{left_by, unless_lower, high_breaks, low_step_after, step_breaks, step_after, pace_after}
use Rattle.steps.proofs.Codes.{quiet-not, low-quiet, low-refresh, low-command, Meets, untouched}

-- a command that may not come leaves nothing
never-left : (rule : ℕ) (after before : List ℕ) → before ≡ left_by (unless_lower rule) after before
never-left rule after before = go (eqb rule 0) refl
  where
    go : (v : Bool) → eqb rule 0 ≡ v → before ≡ left_by (cond v 15 rule) after before
    go true e = refl
    go false e = rw e

module _ (s : Settings) (d : List ℕ) (t w : ℕ) where
  abbrev pub MeetsLow : ℕ → List ℕ → Type 0
  MeetsLow told d' =
      record {
        value : told ≡ step_breaks s d t w;
        d_after : d' ≡ left_by (step_breaks s d t w) (low_step_after d t w) d;
      }

  pub met-quiet : low_of w ≡ true → quiet_code (code_of w) ≡ true → {told : ℕ} {d' : List ℕ} →
      told ≡ low_breaks d t → d' ≡ left_by (low_breaks d t) (low_after d t) d → MeetsLow told d'
  met-quiet l n a b = rw ((low-quiet s d [] t w refl l n).breaks, quiet-not (code_of w) 8 refl n) (record { value = a; d_after = b })

  pub met-refresh : low_of w ≡ true → code_of w ≡ 8 → {told : ℕ} {d' : List ℕ} →
      told ≡ self_breaks d t → d' ≡ left_by (self_breaks d t) (self_after d) d → MeetsLow told d'
  met-refresh l e a b = rw ((low-refresh s d [] t w l e).breaks, e) (record { value = a; d_after = b })

  -- the six commands that may not come, by the rule that each breaks with CKE high
  pub met-barred : (k : ℕ) → eqb k 8 ≡ false → quiet_code k ≡ false → low_of w ≡ true → code_of w ≡ k → {rule told : ℕ} →
      rule ≡ high_breaks s d t w → told ≡ unless_lower rule → MeetsLow told d
  met-barred k n q l e f a =
      let broken : step_breaks s d t w ≡ unless_lower (high_breaks s d t w) =
      (low-command s d [] t w l (ap (λ (c : ℕ). eqb c 8) e ∙ n) (ap quiet_code e ∙ q)).breaks
      in
      rw broken (record { value = a ∙ ap unless_lower f; d_after = never-left (high_breaks s d t w) (low_step_after d t w) d })

  pub high-active : {b a : ℕ} → b ≡ bank_of w → a ≡ address_of w → code_of w ≡ 12 → active_breaks s d t b a ≡ high_breaks s d t w
  high-active f g e = rw (f, g, e)

  pub high_read : {b : ℕ} → b ≡ bank_of w → code_of w ≡ 10 → read_breaks d t b ≡ high_breaks s d t w
  high_read f e = rw (f, e)

  pub high_write : {b : ℕ} → b ≡ bank_of w → code_of w ≡ 2 → write_breaks d t b ≡ high_breaks s d t w
  high_write f e = rw (f, e)

  pub high-close-all : code_of w ≡ 4 → ten_of w ≡ true → close_all_breaks d t ≡ high_breaks s d t w
  high-close-all e a = rw (e, a)

  pub high-close : {b : ℕ} → b ≡ bank_of w → code_of w ≡ 4 → ten_of w ≡ false → close_breaks d t b ≡ high_breaks s d t w
  high-close f e a = rw (f, e, a)

  pub high-terminate : code_of w ≡ 6 → terminate_breaks d t ≡ high_breaks s d t w
  high-terminate e = rw e

  pub high-mode-set : {b a : ℕ} → b ≡ bank_of w → a ≡ address_of w → code_of w ≡ 0 → mode_breaks d t b a ≡ high_breaks s d t w
  high-mode-set f g e = rw (f, g, e)

module _ (s : Settings) (d m : List ℕ) (t w : ℕ) where
  -- h and CL stay: MODE REGISTER SET may not come
  paced : low_of w ≡ true → m ≡ left_by (step_breaks s d t w) (pace_after m w) m
  unfolding pace_after
  paced l = go (eqb (code_of w) 0) refl
    where
      go : (v : Bool) → eqb (code_of w) 0 ≡ v → m ≡ left_by (step_breaks s d t w) (cond (v && eqb (bank_of w) 0) (pace_of (address_of w)) m) m
      go true e =
          let is : code_of w ≡ 0 = eqb-true (code_of w) 0 e in
          let broken = (low-command s d m t w l (ap (λ (k : ℕ). eqb k 8) is) (ap quiet_code is)).breaks in
          rw broken (never-left (high_breaks s d t w) (cond (eqb (bank_of w) 0) (pace_of (address_of w)) m) m)
      go false e = untouched (step_breaks s d t w) m

  pub met-low : low_of w ≡ true → {told : ℕ} {d' : List ℕ} → MeetsLow s d t w told d' → Meets s d m t w told d' m
  unfolding step_after
  met-low l k = record { value = k.value; d_after = rw l k.d_after; pace_after = paced l }
