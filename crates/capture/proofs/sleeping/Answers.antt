use Prim.Native.Nat.{ℕ}
use mathlib.Core.Path.{ap}
use lib.Dec.{eqb}
use Rattle.capture.proofs.sleeping.Goals as goal

pub returns : goal.returns
returns c = ap (λ (v : ℕ). eqb v 16) c.word_at.ensures
