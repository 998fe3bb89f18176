use native.Mathlib.Omega.{arith}
use lib.ListN.{length-take}
use mathlib.Core.Path.{sym}
use Rattle.std.proofs.lemmas.Result.{err_from_is_err_and}
use Rattle.reading.specs.Capture.{most_events}
use Rattle.capture.proofs.Opened.{long, opens-held}
use Rattle.hidden.proofs.Outcome.{refused-so, few, too_short, copies, writable, wrote}
use Rattle.hidden.proofs.blank.Goals as goal

pub returns-in_err-opened : goal.returns-in_err-opened
returns-in_err-opened c = let a = c.args in
    let e = err_from_is_err_and c.from_residual.result c.from_residual.ensures.1 in
    let p = refused-so a.capture.now a.out.now _ c.in_err-opened.ensures.answer in
    record { result_value = rw (e.1, e.2) p.0; out_after = p.1 }

pub overflow_cast-size : goal.overflow_cast-size
overflow_cast-size c = omega (arith, few c.args.capture.now (sym c.in_ok-opened.ensures.answer))

pub returns-then-out-capture : goal.returns-then-out-capture
returns-then-out-capture c =
    let p = too_short c.args.capture.now (sym c.in_ok-opened.ensures.answer) c.args.out.now c.if-out-capture.true in
    record { result_value = p.0; out_after = p.1 }

pub events_start-start-requires : goal.events_start-start-requires
events_start-start-requires c = omega (arith, long most_events c.args.capture.now (sym c.in_ok-opened.ensures.answer))

pub slice_bounds-copy-end : goal.slice_bounds-copy-end
slice_bounds-copy-end c = let o = c.in_ok-opened in
    let p = copies (opens-held o.ensures.answer o.opened o.ensures.holds) c.args.out.now c.if-out-capture.false c.events_start-start.ensures.value in
    simp length-take (omega (arith, p))

pub copy-requires : goal.copy-requires
copy-requires c = let o = c.in_ok-opened in
    let p = copies (opens-held o.ensures.answer o.opened o.ensures.holds) c.args.out.now c.if-out-capture.false c.events_start-start.ensures.value in
    simp length-take (omega (arith, p))

pub write_events-requires : goal.write_events-requires
write_events-requires c = let o = c.in_ok-opened in
    let x = opens-held o.ensures.answer o.opened o.ensures.holds in
    writable x c.args.out.now c.if-out-capture.false c.events_start-start.ensures.value
    c.copy.ensures

pub returns : goal.returns
returns c = let o = c.in_ok-opened in
    let x = opens-held o.ensures.answer o.opened o.ensures.holds in
    let p = wrote x c.args.out.now c.if-out-capture.false c.events_start-start.ensures.value
    c.copy.ensures c.write_events.ensures in
    record { result_value = p.0; out_after = p.1 }
