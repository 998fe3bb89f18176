-- The bytes of an input that was read whole stand at the start of the buffer.
use Rattle.std.specs.Prelude.{ℕ, List, ◌≡◌}
use Rattle.std.proofs.Common.{subst}
use Rattle.std.specs.declared.result.Result.{Result}
use Rattle.std.specs.declared.result.Result.TheVariants.{Ok}
use Rattle.console.specs.Counts.{IsPrefixLen}
use Rattle.console.specs.Input.{size_of}
use Rattle.console.specs.declared.Failure.{Failure}

pub held : (buffer : List ℕ) {r : Result ℕ Failure} {n : ℕ} → r ≡ Ok n → IsPrefixLen (size_of r) buffer → IsPrefixLen n buffer
held buffer whole counted = subst (λ (r : Result ℕ Failure). IsPrefixLen (size_of r) buffer) whole counted
