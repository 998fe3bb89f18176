use native.Mathlib.Omega.{arith}
use Rattle.requests.proofs.Asking.{looks, looks_on}
use Rattle.requests.proofs.all_fit.Goals as goal

pub requests-init : goal.requests-init
requests-init c = looks c.args.cells c.args.requests.now

pub requests-preserved : goal.requests-preserved
requests-preserved c = looks_on c.requests.invariant (omega arith) c.fits.ensures c.both-fine.ensures

pub returns : goal.returns
returns c = λ e i l. c.requests.invariant.low e i (omega arith)
