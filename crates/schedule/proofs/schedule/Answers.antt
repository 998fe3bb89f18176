use mathlib.Core.Path.{refl}
use native.Mathlib.Omega.{arith}
use Rattle.std.proofs.lemmas.Result.{err_from_is_err_and}
use Rattle.schedule.proofs.Outcome.{refuses, right, sized, no-policy, unserved, plannable, too-late, writable, ends}
use Rattle.schedule.proofs.schedule.Goals as goal

pub returns-in_err-check : goal.returns-in_err-check
returns-in_err-check c = let a = c.args in
    let p = refuses a.settings.now a.requests.now a.policy a.out.now c.in_err-check.ensures refl in
    let e = err_from_is_err_and c.from_residual.result c.from_residual.ensures.1 in
    record { result_value = rw (e.1, e.2) p.0; out_after = p.1 }

pub returns-then-policy-gt-CLOSED_ROWS : goal.returns-then-policy-gt-CLOSED_ROWS
returns-then-policy-gt-CLOSED_ROWS c = let a = c.args in
    let p = no-policy (right a.settings.now c.in_ok-check.ensures refl) refl a.requests.now a.policy a.out.now (omega arith) in
    record { result_value = p.0; out_after = p.1 }

pub fourteen-s-requires : goal.fourteen-s-requires
fourteen-s-requires c = (right c.args.settings.now c.in_ok-check.ensures refl).count

pub lowest_bad-requires : goal.lowest_bad-requires
lowest_bad-requires c = sized (right c.args.settings.now c.in_ok-check.ensures refl) c.fourteen-s.ensures

pub returns-in-Some : goal.returns-in-Some
returns-in-Some c = let a = c.args in
    let p = unserved (right a.settings.now c.in_ok-check.ensures refl) c.fourteen-s.ensures a.requests.now a.policy a.out.now (omega arith) c.lowest_bad.ensures c.in-Some.is in
    record { result_value = p.0; out_after = p.1 }

pub plan-requires : goal.plan-requires
plan-requires c = let a = c.args in
    plannable (right a.settings.now c.in_ok-check.ensures refl) c.fourteen-s.ensures a.requests.now a.policy a.out.now (omega arith) c.lowest_bad.ensures c.in_default.is _ refl

pub returns-in_err-n : goal.returns-in_err-n
returns-in_err-n c = let a = c.args in
    let p = too-late (right a.settings.now c.in_ok-check.ensures refl) c.fourteen-s.ensures a.requests.now a.policy a.out.now (omega arith)
    c.lowest_bad.ensures c.in_default.is _ c.in_err-n.ensures.result_value c.in_err-n.ensures.noted refl in
    let e = err_from_is_err_and c.from_residual-in_err-n.result c.from_residual-in_err-n.ensures.1 in
    record { result_value = rw (e.1, e.2) p.0; out_after = p.1 }

pub write-requires : goal.write-requires
write-requires c = let a = c.args in
    writable (right a.settings.now c.in_ok-check.ensures refl) c.fourteen-s.ensures a.requests.now a.policy a.out.now (omega arith)
    c.lowest_bad.ensures c.in_default.is _ c.in_ok-n.ensures.result_value c.in_ok-n.ensures.noted refl

pub returns : goal.returns
returns c = let a = c.args in
    let p = ends (right a.settings.now c.in_ok-check.ensures refl) c.fourteen-s.ensures a.requests.now a.policy a.out.now (omega arith)
    c.lowest_bad.ensures c.in_default.is _ c.in_ok-n.ensures.result_value c.in_ok-n.ensures.noted refl c.write.ensures.value c.write.ensures.out_after in
    record { result_value = p.0; out_after = p.1 }
