-- A step by the deadlines is the same for pin words that are alike: of READ and WRITE it looks at bank and A10, of an ACTIVE
-- at the bank and at whether the part has the row.
use Prim.Native.Nat.{ℕ, ◌%◌, ◌^◌, ◌<◌}
use mathlib.Core.Bool.{true}
use mathlib.Core.List.{List}
use mathlib.Core.Logic.{◌⊎◌, inl, inr}
use mathlib.Core.Path.{◌≡◌, sym, ap, ◌∙◌}
use native.Mathlib.Nat.{mod-eq_of_lt}
use lib.Dec.{eqb, ltb}
use borrow.Author.Tests.{lt-ltb}
use Rattle.reading.specs.Words.{bit}
use Rattle.reading.specs.Settings.{Settings}
use Rattle.reading.specs.Blank.{above, Alike, same, columns, rows}
use Rattle.deadlines.specs.Deadlines.{active_breaks}
use Rattle.pins.specs.Pins.{code_of, bank_of, address_of, ten_of}
use Rattle.steps.specs.Steps.{step_breaks, step_after, pace_after}
use Rattle.alike.proofs.Pins.{same_code, same-bank, same_low, column-code, row-code}

module _ (s : Settings) (wide : s.row_bits < 32) (d m : List ℕ) (t : ℕ) where
  -- which rule is broken, the deadlines after the step, and h and CL
  pub record Steps (v w : ℕ) : Type 0 where
    pub breaks : step_breaks s d t v ≡ step_breaks s d t w
    pub leaves : step_after s d m t v ≡ step_after s d m t w
    pub sets : pace_after m v ≡ pace_after m w

  module _ (v w : ℕ) (a : above v ≡ above w) where
    step-read : code_of v ≡ 10 → bit 10 v ≡ bit 10 w → Steps v w
    unfolding step_breaks step_after pace_after
    step-read e b =
        let f : code_of w ≡ 10 = sym (same_code v w a) ∙ e in
        let ten : ten_of v ≡ ten_of w = ap (λ (k : ℕ). eqb k 1) b in
        record {
          breaks = rw (same_low v w a, e, f, same-bank v w a);
          leaves = rw (same_low v w a, e, f, same-bank v w a, ten);
          sets = rw (e, f);
        }

    step-write : code_of v ≡ 2 → bit 10 v ≡ bit 10 w → Steps v w
    unfolding step_breaks step_after pace_after
    step-write e b =
        let f : code_of w ≡ 2 = sym (same_code v w a) ∙ e in
        let ten : ten_of v ≡ ten_of w = ap (λ (k : ℕ). eqb k 1) b in
        record {
          breaks = rw (same_low v w a, e, f, same-bank v w a);
          leaves = rw (same_low v w a, e, f, same-bank v w a, ten);
          sets = rw (e, f);
        }

    -- rule 1 is the only one that looks at a row
    in-part : (x : ℕ) → x < 2 ^ s.row_bits → ltb x (2 ^ (s.row_bits % 32)) ≡ true
    in-part x l = rw (mod-eq_of_lt wide) (lt-ltb x (2 ^ s.row_bits) l)

    any-row : (b x y : ℕ) → x < 2 ^ s.row_bits → y < 2 ^ s.row_bits → active_breaks s d t b x ≡ active_breaks s d t b y
    unfolding active_breaks
    any-row b x y l n = rw (in-part x l, in-part y n)

    step-active : code_of v ≡ 12 → address_of v < 2 ^ s.row_bits → address_of w < 2 ^ s.row_bits → Steps v w
    unfolding step_breaks step_after pace_after
    step-active e l n =
        let f : code_of w ≡ 12 = sym (same_code v w a) ∙ e in
        record {
          breaks = rw (same_low v w a, e, f, same-bank v w a, any-row (bank_of w) (address_of v) (address_of w) l n);
          leaves = rw (same_low v w a, e, f, same-bank v w a);
          sets = rw (e, f);
        }

  pub steps_alike : {v w : ℕ} → Alike s v w → Steps v w
  steps_alike {v} {w} (same e) =
      record { breaks = ap (step_breaks s d t) e; leaves = ap (step_after s d m t) e; sets = ap (pace_after m) e }
  steps_alike {v} {w} (columns c a b) = go (column-code v c)
    where
      go : (code_of v ≡ 10) ⊎ (code_of v ≡ 2) → Steps v w
      go (inl e) = step-read v w a e b
      go (inr e) = step-write v w a e b
  steps_alike {v} {w} (rows r q a) = step-active v w a (row-code v s r).code (row-code v s r).there (row-code w s q).there
