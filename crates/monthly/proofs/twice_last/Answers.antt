use native.Mathlib.Omega.{arith}
use Rattle.monthly.proofs.Lines.{last-is, none_last, last-low}
use Rattle.monthly.proofs.twice_last.Goals as goal

pub returns-then-events-eq0 : goal.returns-then-events-eq0
returns-then-events-eq0 c = let x = c.args.events.now in none_last x.bytes.now x.count c.if-events-eq0.true

pub overflow_mul-result : goal.overflow_mul-result
overflow_mul-result c = let x = c.args.events.now in
    omega (arith, c.cycle.ensures, last-is x.bytes.now x.count (omega (arith, c.if-events-eq0.false)), last-low x.bytes.now x.count x.rise)

pub returns : goal.returns
returns c = let x = c.args.events.now in
    omega (arith, c.cycle.ensures, last-is x.bytes.now x.count (omega (arith, c.if-events-eq0.false)))
