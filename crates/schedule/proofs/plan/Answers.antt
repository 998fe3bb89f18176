use native.Mathlib.Omega.{arith}
use Rattle.schedule.proofs.Walking.{walk_begins, most, few-events, walk_ends, asked-for, room, sure, walk-stops, walk-on}
use Rattle.schedule.proofs.plan.Goals as goal

pub requests-init : goal.requests-init
requests-init c = let a = c.args in
    rw c.start.ensures (walk_begins a.s.now a.requests.now a.closed a.words.now c.requires)

pub serve-turn-requires : goal.serve-turn-requires
serve-turn-requires c =
    let a = c.args in record {
      asked = asked-for a.s.now a.requests.now a.closed a.words.now c.requires c.requests.invariant (omega arith);
      room = room a.s.now a.requests.now a.closed a.words.now c.requires c.requests.invariant (omega arith);
      sure = rw c.margin-margin.ensures
          (sure a.s.now a.requests.now a.closed a.words.now c.requires c.requests.invariant (omega arith));
    }

pub returns-in_default : goal.returns-in_default
returns-in_default c = let a = c.args in
    let p = walk-stops a.s.now a.requests.now a.closed a.words.now c.requires c.requests.invariant (omega arith)
    c.serve-turn.ensures.result_value c.in_default.is in
    record { result_value = p.0; noted = p.1 }

pub requests-preserved : goal.requests-preserved
requests-preserved c = let a = c.args in
    walk-on a.s.now a.requests.now a.closed a.words.now c.requires c.requests.invariant (omega arith)
    c.serve-turn.ensures.result_value c.in-Ok.is _ c.serve-turn.ensures.words_after

pub overflow_cast-result : goal.overflow_cast-result
overflow_cast-result c = let a = c.args in
    omega (arith, most a.s.now a.requests.now a.closed a.words.now c.requires c.requests.invariant)

pub overflow_cast-result-2 : goal.overflow_cast-result-2
overflow_cast-result-2 c = let a = c.args in
    omega (arith, few-events a.s.now a.requests.now a.closed a.words.now c.requires c.requests.invariant)

pub returns : goal.returns
returns c = let a = c.args in
    let p = walk_ends a.s.now a.requests.now a.closed a.words.now c.requires c.requests.invariant (omega arith) in
    record { result_value = p.0; noted = p.1 }
