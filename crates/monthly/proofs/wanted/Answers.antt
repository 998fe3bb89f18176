use native.Mathlib.Omega.{arith}
use borrow.Author.Tests.{lt-ltb, le-ltb}
use Rattle.monthly.proofs.wanted.Goals as goal

pub returns-then-total-lt-LEAST : goal.returns-then-total-lt-LEAST
returns-then-total-lt-LEAST c =
    record { value = rw (lt-ltb c.args.total 80 c.if-total-lt-LEAST.true); lower_bound = (omega arith, omega arith) }

pub returns-then-total-gt-MOST : goal.returns-then-total-gt-MOST
returns-then-total-gt-MOST c =
    let total = c.args.total in
    let least = le-ltb total 80 (omega (arith, c.if-total-lt-LEAST.false)) in
    record { value = rw (least, lt-ltb 64088 total c.if-total-gt-MOST.true); lower_bound = (omega arith, omega arith) }

pub returns : goal.returns
returns c =
    let total = c.args.total in
    let least = le-ltb total 80 (omega (arith, c.if-total-lt-LEAST.false)) in
    let most = le-ltb 64088 total (omega (arith, c.if-total-gt-MOST.false)) in
    record { value = rw (least, most); lower_bound = (omega (arith, c.if-total-lt-LEAST.false), omega (arith, c.if-total-gt-MOST.false)) }
