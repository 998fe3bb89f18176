use mathlib.Core.Path.{refl}
use native.Mathlib.Omega.{arith}
use Rattle.reading.specs.Capture.{most_events}
use Rattle.capture.proofs.Opened.{long, opens}
use Rattle.cells.proofs.Listing.{listable, clean-here}
use Rattle.cells.proofs.held.Clean.judged.Goals as goal

pub event_bytes-bytes-requires : goal.event_bytes-bytes-requires
event_bytes-bytes-requires c = long most_events c.args.capture.now c.requires.accepted

pub event_count-count-requires : goal.event_count-count-requires
event_count-count-requires c = omega (arith, long most_events c.args.capture.now c.requires.accepted)

pub settings_in-requires : goal.settings_in-requires
settings_in-requires c = long most_events c.args.capture.now c.requires.accepted

pub invariant_of-opened : goal.invariant_of-opened
invariant_of-opened c = let z = opens c.requires.accepted refl c.event_count-count.ensures c.event_bytes-bytes.ensures in
    record { held = z.there; rise = z.rise }

pub invariant_of-result : goal.invariant_of-result
invariant_of-result c = let z = opens c.requires.accepted c.settings_in.ensures c.event_count-count.ensures c.event_bytes-bytes.ensures in
    record { listable = listable z; clean = clean-here z c.requires.clean }
