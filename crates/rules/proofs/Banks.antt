-- A search over the four banks, left with a rule's number at the first bank that breaks it.
use Prim.Native.Nat.{ℕ, ◌≤◌, ◌<◌}
use mathlib.Core.Bool.{Bool, false}
use mathlib.Core.Path.{◌≡◌, sym, ap}
use Rattle.reading.specs.Rules.{every_bank}
use Rattle.reading.proofs.Laws.{Passed, all-passed, passed_to}
use Rattle.deadlines.specs.Deadlines.{rule_unless}

pub passed : {f : ℕ → Bool} {b : ℕ} → Passed f b → 4 ≤ b → (rule rest : ℕ) → rest ≡ rule_unless (every_bank f) rule rest
passed {f} {b} p l rule rest = sym (ap (λ (k : Bool). rule_unless k rule rest) (all-passed p l))

pub left : {f : ℕ → Bool} {b : ℕ} → Passed f b → b < 4 → f b ≡ false → (rule rest : ℕ) → rule ≡ rule_unless (every_bank f) rule rest
left {f} {b} p l e rule rest = sym (ap (λ (k : Bool). rule_unless k rule rest) (passed_to p l e))
