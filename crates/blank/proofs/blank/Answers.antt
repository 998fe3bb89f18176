-- What was written stands in the buffer.
use Rattle.std.proofs.Common.{sym, length-take-le}
use Rattle.hidden.proofs.Outcome.{written-within}
use Rattle.blank.proofs.blank.Goals as goal

pub slice_bounds-room-end : goal.slice_bounds-room-end
slice_bounds-room-end c =
    let written = c.in-Ok.ensures in
    written-within c.args.capture.now _ written.result_value written.out_after

pub slice_bounds-write-end-in-Ok : goal.slice_bounds-write-end-in-Ok
slice_bounds-write-end-in-Ok c =
    let written = c.in-Ok.ensures in
    sym (length-take-le _ _ (written-within c.args.capture.now _ written.result_value written.out_after))
