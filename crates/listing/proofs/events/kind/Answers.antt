use mathlib.Core.Path.{sym, ◌∙◌}
use native.Mathlib.Omega.{arith}
use Rattle.listing.proofs.events.kind.Goals as goal

pub returns-then-low-2 : goal.returns-then-low-2
returns-then-low-2 c = let low = sym c.low.ensures ∙ c.if-low.true in
    (rw (low, sym c.low-then-low.ensures ∙ c.if-low-2.true), omega arith)

pub returns-else-low-2 : goal.returns-else-low-2
returns-else-low-2 c = let low = sym c.low.ensures ∙ c.if-low.true in
    (rw (low, sym c.low-then-low.ensures ∙ c.if-low-2.false), omega arith)

pub returns-then-low-3 : goal.returns-then-low-3
returns-then-low-3 c = let high = sym c.low.ensures ∙ c.if-low.false in
    (rw (high, sym c.low-2.ensures ∙ c.if-low-3.true), omega arith)

pub returns : goal.returns
returns c = let high = sym c.low.ensures ∙ c.if-low.false in
    (rw (high, sym c.low-2.ensures ∙ c.if-low-3.false) c.command_kind.ensures.0, c.command_kind.ensures.1)
