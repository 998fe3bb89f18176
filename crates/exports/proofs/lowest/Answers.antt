use Rattle.std.proofs.Common.{sym, ◌∙◌}
use Rattle.exports.proofs.Searching.{begins, goes_on, stops, ends}
use Rattle.exports.proofs.lowest.Goals as goal

pub records-init : goal.records-init
records-init g c = λ f h. begins f _

pub returns-then-test : goal.returns-then-test
returns-then-test g c = λ f h. stops (c.records.invariant f h) c.records-test.true (sym (h c.records.i _ c.records-test.true c.test.ensures) ∙ c.if-test.true)

pub records-preserved : goal.records-preserved
records-preserved g c = λ f h. goes_on (c.records.invariant f h) c.records-test.true (sym (h c.records.i _ c.records-test.true c.test.ensures) ∙ c.if-test.false)

pub returns : goal.returns
returns g c = λ f h. ends (c.records.invariant f h) c.records-test.false
