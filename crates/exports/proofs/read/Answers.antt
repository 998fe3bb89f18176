use Rattle.std.proofs.Common.{arith, rules}
use Rattle.std.proofs.lemmas.Result.{err_from_is_err_and}
use Rattle.exports.specs.Meaning.{too_high}
use Rattle.exports.proofs.Incoming.{no-edition, refuses, unread, held, high-pins, fillable, ends}
use Rattle.exports.proofs.read.Goals as goal

pub returns-then-edition-gt-NEWEST_EDITION-clause-result_value : goal.returns-then-edition-gt-NEWEST_EDITION-clause-result_value
returns-then-edition-gt-NEWEST_EDITION-clause-result_value c = let a = c.args in
    (no-edition a.records.now a.settings.now a.edition a.out.now c.if-edition-gt-NEWEST_EDITION.true).0

pub returns-then-edition-gt-NEWEST_EDITION-clause-out_after : goal.returns-then-edition-gt-NEWEST_EDITION-clause-out_after
returns-then-edition-gt-NEWEST_EDITION-clause-out_after c = let a = c.args in
    (no-edition a.records.now a.settings.now a.edition a.out.now c.if-edition-gt-NEWEST_EDITION.true).1

pub returns-in_err-check : goal.returns-in_err-check
returns-in_err-check c = let a = c.args in
    let e = err_from_is_err_and c.from_residual.result c.from_residual.ensures.1 in
    let p = refuses a.records.now a.settings.now a.edition a.out.now c.if-edition-gt-NEWEST_EDITION.false _ c.in_err-check.ensures in
    record { result_value = rw (e.1, e.2) p.0; out_after = p.1 }

pub returns-in-Some : goal.returns-in-Some
returns-in-Some c = let a = c.args in
    let p = unread a.records.now a.settings.now a.edition a.out.now c.if-edition-gt-NEWEST_EDITION.false c.in_ok-check.ensures c.in-Some.ensures in
    record { result_value = p.0; out_after = p.1 }

pub lowest-requires-clause-few : goal.lowest-requires-clause-few
lowest-requires-clause-few c = let a = c.args in
    omega (arith, (held a.records.now a.settings.now a.edition a.out.now c.if-edition-gt-NEWEST_EDITION.false c.in_ok-check.ensures c.in_default.ensures).few)

pub returns-in-Some-lowest : goal.returns-in-Some-lowest
returns-in-Some-lowest c = let a = c.args in
    let p = high-pins a.records.now a.settings.now a.edition a.out.now c.if-edition-gt-NEWEST_EDITION.false c.in_ok-check.ensures c.in_default.ensures
    (c.in-Some-lowest.ensures (too_high a.records.now) (λ i r l p. search rules)) in
    record { result_value = p.0; out_after = p.1 }

pub fill-requires : goal.fill-requires
fill-requires c = let a = c.args in
    fillable a.records.now a.settings.now a.edition a.out.now c.if-edition-gt-NEWEST_EDITION.false c.in_ok-check.ensures c.in_default.ensures
    (c.in_default-lowest.ensures (too_high a.records.now) (λ i r l p. search rules))

pub returns : goal.returns
returns c = let a = c.args in
    let p = ends a.records.now a.settings.now a.edition a.out.now c.if-edition-gt-NEWEST_EDITION.false c.in_ok-check.ensures c.in_default.ensures
    (c.in_default-lowest.ensures (too_high a.records.now) (λ i r l p. search rules)) c.fill.ensures.value c.fill.ensures.out_after in
    record { result_value = p.0; out_after = p.1 }
