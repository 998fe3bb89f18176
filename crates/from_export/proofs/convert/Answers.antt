-- What was written stands in the buffer.
use Rattle.std.proofs.Common.{sym, length-take-le}
use Rattle.exports.proofs.Within.{read-within}
use Rattle.from_export.proofs.convert.Goals as goal

pub slice_bounds-room-end : goal.slice_bounds-room-end
slice_bounds-room-end c =
    let written = c.in-Ok.ensures in
    read-within c.args.records.now _ _ _ written.result_value written.out_after

pub slice_bounds-write-end-in-Ok : goal.slice_bounds-write-end-in-Ok
slice_bounds-write-end-in-Ok c =
    let written = c.in-Ok.ensures in
    sym (length-take-le _ _ (read-within c.args.records.now _ _ _ written.result_value written.out_after))
