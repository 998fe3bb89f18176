use native.Mathlib.Omega.{arith}
use Prim.Native.Nat.{◌+◌}
use borrow.Author.Tests.{lt-ltb, le-ltb}
use lib.ListN.{length}
use Rattle.trials.proofs.store.Goals as goal

pub returns-then-out-place : goal.returns-then-out-place
returns-then-out-place c = simp (lt-ltb (length c.args.out.now) (c.args.at + 4) (omega (arith, c.if-out-place.true)))

pub returns : goal.returns
returns c = simp (le-ltb (length c.args.out.now) (c.args.at + 4) (omega (arith, c.if-out-place.false))) c.put_word.ensures
