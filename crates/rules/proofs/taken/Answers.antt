use Prim.Native.Nat.{◌+◌}
use mathlib.Core.Path.{sym, ◌∙◌}
use native.Mathlib.Omega.{arith}
use borrow.Author.Tests.{le-leb, lt-leb}
use Rattle.deadlines.specs.Deadlines.{LAST, at}
use Rattle.rules.proofs.taken.Goals as goal

pub returns-then-d-from : goal.returns-then-d-from
returns-then-d-from c = let a = c.args in rw (le-leb (at a.d.now LAST) (a.t + 5) (omega (arith, c.if-d-from.true)))

pub returns : goal.returns
returns c = let a = c.args in
    c.gone.ensures ∙ sym (rw (lt-leb (at a.d.now LAST) (a.t + 5) (omega (arith, c.if-d-from.false))))
