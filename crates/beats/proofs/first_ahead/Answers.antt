-- The invariant: what is found from event j on is what is found at all (Searching).
use mathlib.Core.Path.{sym, ◌∙◌}
use native.Mathlib.Omega.{arith}
use Rattle.beats.proofs.Searching.{begins, stops, takes, goes_on, ends}
use Rattle.beats.proofs.first_ahead.Goals as goal

pub later-init : goal.later-init
later-init g c = λ f h. let x = c.args.events.now in begins f c.args.end x.bytes.now x.count c.args.i c.requires.within

pub returns-then-past : goal.returns-then-past
returns-then-past g c = λ f h. let x = c.args.events.now in
    stops f c.args.end x.bytes.now x.count c.args.i (c.later.invariant f h) c.later-test.true c.cycle-t.ensures (sym c.if-past.true ∙ c.past.ensures)

pub returns-then-test : goal.returns-then-test
returns-then-test g c = λ f h. let x = c.args.events.now in
    takes f c.args.end x.bytes.now x.count c.args.i (c.later.invariant f h) c.later-test.true c.cycle-t.ensures c.pins-w.ensures
    (sym c.if-past.false ∙ c.past.ensures) (sym (h _ _ c.test.ensures) ∙ c.if-test.true)

pub later-preserved : goal.later-preserved
later-preserved g c = λ f h. let x = c.args.events.now in
    goes_on f c.args.end x.bytes.now x.count c.args.i (c.later.invariant f h) c.later-test.true c.cycle-t.ensures c.pins-w.ensures
    (sym c.if-past.false ∙ c.past.ensures) (sym (h _ _ c.test.ensures) ∙ c.if-test.false)

pub returns : goal.returns
returns g c = λ f h. let x = c.args.events.now in
    ends f c.args.end x.bytes.now x.count c.args.i (c.later.invariant f h) (omega (arith, c.later-test.false))
