use Rattle.std.proofs.Common.{sym, ◌∙◌, arith, rules}
use Rattle.reading.specs.Export.{stands}
use Rattle.exports.proofs.Stamps.{not-whole, too_many, standing}
use Rattle.exports.proofs.bad_export.Goals as goal

pub returns-then-records-ne0 : goal.returns-then-records-ne0
returns-then-records-ne0 c = not-whole c.args.records.now c.if-records-ne0.true

pub returns-then-n-gt-MOST_RECORDS : goal.returns-then-n-gt-MOST_RECORDS
returns-then-n-gt-MOST_RECORDS c = too_many c.args.records.now c.if-records-ne0.false c.if-n-gt-MOST_RECORDS.true

pub lowest-requires-clause-few : goal.lowest-requires-clause-few
lowest-requires-clause-few c = omega arith

pub lowest-requires-clause-each : goal.lowest-requires-clause-each
lowest-requires-clause-each c = λ i l. search rules

pub returns : goal.returns
returns c = c.lowest.ensures (stands c.args.records.now) (λ i r l p. search rules) ∙ sym (standing c.args.records.now c.if-records-ne0.false c.if-n-gt-MOST_RECORDS.false)
