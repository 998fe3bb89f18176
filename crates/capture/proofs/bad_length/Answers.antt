use Prim.Native.Nat.{ℕ}
use mathlib.Core.Bool.{not}
use mathlib.Core.Path.{sym, ap, ◌∙◌}
use native.Mathlib.Omega.{arith}
use lib.Dec.{eqb}
use lib.ListN.{length}
use Rattle.capture.proofs.Opening.{shortest, too_short, too_long, stated}
use Rattle.capture.proofs.bad_length.Goals as goal

pub returns-then-size-lt-EVENTS : goal.returns-then-size-lt-EVENTS
returns-then-size-lt-EVENTS c = ap not (sym (shortest c.args.capture.now c.args.most c.if-size-lt-EVENTS.true))

pub events_start-start-requires : goal.events_start-start-requires
events_start-start-requires c = omega arith

pub returns-then-size-start : goal.returns-then-size-start
returns-then-size-start c = ap not (sym (too_short c.args.capture.now c.args.most (omega (arith, c.events_start-start.ensures.value))))

pub overflow_add-start : goal.overflow_add-start
overflow_add-start c = omega (arith, c.events_start-start.ensures.lower_bound)

pub returns-then-start-most : goal.returns-then-start-most
returns-then-start-most c = ap not
    (sym
    (too_long c.args.capture.now c.args.most (omega (arith, c.events_start-start.ensures.value, c.if-size-start.false))
    (omega (arith, c.events_start-start.ensures.value))))

pub word_at-requires : goal.word_at-requires
word_at-requires c = omega arith

pub returns : goal.returns
returns c = let bytes = c.args.capture.now in
    sym (ap not (stated bytes c.args.most (omega (arith, c.events_start-start.ensures.value)) (omega (arith, c.events_start-start.ensures.value)))
    ∙ ap (λ (v : ℕ). not (eqb v (length bytes))) (sym c.word_at.ensures))
