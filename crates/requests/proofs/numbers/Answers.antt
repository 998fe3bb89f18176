use native.Mathlib.Omega.{arith}
use mathlib.Core.Path.{◌∙◌}
use Rattle.requests.proofs.Asking.{all-bits, some-numbers, few-numbers}
use Rattle.requests.proofs.numbers.Goals as goal

pub returns : goal.returns
returns c = let b = c.args.bits in let e = c.rows.ensures ∙ all-bits b (omega (arith, c.requires)) in record { value = e; result_nonzero = (rw e (some-numbers b), rw e (few-numbers b c.requires)) }
