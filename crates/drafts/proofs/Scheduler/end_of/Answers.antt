use Prim.Native.Nat.{ℕ, ◌+◌}
use mathlib.Core.List.{List}
use mathlib.Core.Path.{ap, ◌∙◌}
use Rattle.deadlines.specs.Deadlines.{PAIRS, at}
use Rattle.drafts.proofs.Scheduler.end_of.Goals as goal

pub returns-then-self : goal.returns-then-self
returns-then-self c = rw c.if-self.true

pub returns : goal.returns
returns c = rw c.if-self.false (c.after.ensures ∙ ap (λ (l : List ℕ). c.args.t + at l PAIRS) c.args.self.now.paced)
