use native.Mathlib.Omega.{arith}
use Rattle.capture.proofs.Opening.{bytes-are}
use Rattle.capture.proofs.event_bytes.Goals as goal

pub events_start-start-requires : goal.events_start-start-requires
events_start-start-requires c = omega arith

pub slice_bounds-result-count : goal.slice_bounds-result-count
slice_bounds-result-count c = omega arith

pub returns : goal.returns
returns c = bytes-are c.args.capture.now c.events_start-start.ensures.value
