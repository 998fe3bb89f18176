use native.Mathlib.Omega.{arith}
use mathlib.Core.Path.{sym, ap, ◌∙◌}
use Rattle.refusal.specs.Refusal.{passed}
use Rattle.capture.proofs.Opened.{long, opens}
use Rattle.capture.proofs.open_to.Goals as goal

pub event_count-count-requires : goal.event_count-count-requires
event_count-count-requires c = omega (arith, long c.args.most c.args.capture.now (sym c.checked_to.ensures ∙ ap passed c.in_ok-checked_to.was))

pub event_bytes-bytes-requires : goal.event_bytes-bytes-requires
event_bytes-bytes-requires c = long c.args.most c.args.capture.now (sym c.checked_to.ensures ∙ ap passed c.in_ok-checked_to.was)

pub settings_in-requires : goal.settings_in-requires
settings_in-requires c = long c.args.most c.args.capture.now (sym c.checked_to.ensures ∙ ap passed c.in_ok-checked_to.was)

pub invariant_of-result : goal.invariant_of-result
invariant_of-result c =
    let z = opens {most = c.args.most} (sym c.checked_to.ensures ∙ ap passed c.in_ok-checked_to.was) c.settings_in.ensures c.event_count-count.ensures c.event_bytes-bytes.ensures in
    record { held = z.there; rise = z.rise }
