use Rattle.std.proofs.Common.{arith}
use Rattle.std.proofs.lemmas.Result.{err_from_is_err_and}
use Rattle.exports.proofs.Outgoing.{refused-so, long, sleeps, counted, too_far_lem, few, ends}
use Rattle.exports.proofs.write.Goals as goal

pub returns-in_err-opened : goal.returns-in_err-opened
returns-in_err-opened c = let a = c.args in
    let e = err_from_is_err_and c.from_residual.result c.from_residual.ensures.1 in
    let p = refused-so a.capture.now a.out.now _ c.in_err-opened.ensures.answer in
    record { result_value = rw (e.1, e.2) p.0; out_after = p.1 }

pub events_start-requires : goal.events_start-requires
events_start-requires c = omega (arith, long c.args.capture.now c.args.out.now c.in_ok-opened.ensures.answer)

pub returns-then-events_start-gt-EVENTS : goal.returns-then-events_start-gt-EVENTS
returns-then-events_start-gt-EVENTS c = let a = c.args in
    let p = sleeps a.capture.now a.out.now c.in_ok-opened.ensures.answer c.events_start.ensures.value c.if-events_start-gt-EVENTS.true in
    record { result_value = p.0; out_after = p.1 }

pub records_needed-records-requires : goal.records_needed-records-requires
records_needed-records-requires c = let a = c.args in
    let o = c.in_ok-opened in
    counted a.capture.now a.out.now o.ensures.answer c.events_start.ensures.value c.if-events_start-gt-EVENTS.false
    o.ensures.holds.count-is o.ensures.holds.bytes-are

pub too_far-requires : goal.too_far-requires
too_far-requires c = let a = c.args in
    let o = c.in_ok-opened in record {
      given = counted a.capture.now a.out.now o.ensures.answer c.events_start.ensures.value c.if-events_start-gt-EVENTS.false
          o.ensures.holds.count-is o.ensures.holds.bytes-are;
      records_value = c.records_needed-records.ensures;
    }

pub returns-then-too_far : goal.returns-then-too_far
returns-then-too_far c = let a = c.args in
    let o = c.in_ok-opened in
    let p = too_far_lem a.capture.now a.out.now o.ensures.answer c.events_start.ensures.value c.if-events_start-gt-EVENTS.false
    o.ensures.holds.count-is o.ensures.holds.bytes-are c.too_far.ensures c.if-too_far.true in
    record { result_value = p.0; out_after = p.1 }

pub store-requires : goal.store-requires
store-requires c = let a = c.args in
    let o = c.in_ok-opened in record {
      given = counted a.capture.now a.out.now o.ensures.answer c.events_start.ensures.value c.if-events_start-gt-EVENTS.false
          o.ensures.holds.count-is o.ensures.holds.bytes-are;
      records_value = c.records_needed-records.ensures;
      records_le_most_records = few a.capture.now a.out.now o.ensures.answer c.events_start.ensures.value c.if-events_start-gt-EVENTS.false
          o.ensures.holds.count-is o.ensures.holds.bytes-are c.too_far.ensures c.if-too_far.false c.records_needed-records.ensures;
    }

pub returns : goal.returns
returns c = let a = c.args in
    let o = c.in_ok-opened in
    let p = ends a.capture.now a.out.now o.ensures.answer c.events_start.ensures.value c.if-events_start-gt-EVENTS.false
    o.ensures.holds.count-is o.ensures.holds.bytes-are c.too_far.ensures c.if-too_far.false c.records_needed-records.ensures
    c.store.ensures.value c.store.ensures.out_after in
    record { result_value = p.0; out_after = p.1 }
