use Rattle.std.proofs.Common.{arith, ap, length}
use Rattle.browser.proofs.Seeing.{within, none-left, one-left}
use Rattle.browser.proofs.ReaderIterator.next.Goals as goal

pub returns-in_err-event-clause-steps : goal.returns-in_err-event-clause-steps
returns-in_err-event-clause-steps c = let e = none-left _ _ _ c.in_err-event.ensures in rw c.from_residual.ensures (e, e)

pub onward-requires : goal.onward-requires
onward-requires c = omega (arith, (within _ _ _ c.in_ok-event.ensures).0)

pub returns-clause-steps : goal.returns-clause-steps
returns-clause-steps c = rw (c.onward.ensures.0, c.onward.ensures.1) (one-left _ _ _ c.in_ok-event.ensures)

pub returns-clause-goes : goal.returns-clause-goes
returns-clause-goes c =
    let fewer = ap length (one-left _ _ _ c.in_ok-event.ensures) in
    record {
      on = λ f. (rw c.onward.ensures.0 c.requires, tt, rw (c.onward.ensures.0, c.onward.ensures.1) (omega (arith, fewer)));
      keeps = rw c.onward.ensures.0 c.requires;
      rests = λ f. tt;
    }
