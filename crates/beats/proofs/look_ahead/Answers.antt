use Prim.Native.Nat.{suc, ◌+◌, ◌≤◌}
use mathlib.Core.Path.{refl}
use borrow.Author.Rules.{rules}
use native.Mathlib.Omega.{arith}
use Rattle.capture.proofs.Accepted.{cycle-fits}
use Rattle.beats.specs.Kept.{at, cuts_burst}
use Rattle.beats.proofs.Columns.{half_le}
use Rattle.beats.proofs.Searching.{found-behind, half-is}
use Rattle.beats.proofs.look_ahead.Goals as goal

pub overflow_add-end : goal.overflow_add-end
overflow_add-end c = let x = c.args.events.now in
    rw c.half-half.ensures
    (omega (arith, half_le c.args.mode, c.cycle-k.ensures, cycle-fits x.bytes.now c.args.i (x.rise c.args.i c.requires)))

pub returns-in_default : goal.returns-in_default
returns-in_default c = let a = c.args in
    half-is a.events.now a.i c.requires c.cycle-k.ensures a.mode c.pins-burst.ensures c.half-half.ensures refl
    (c.first_ahead.ensures (cuts_burst c.pins-burst.result) (λ w r p. search rules)) c.in_default.is

pub overflow_sub-result : goal.overflow_sub-result
overflow_sub-result c = let a = c.args in
    let behind : suc (at a.events.now a.i).cycle ≤ c.in-Some.t =
    found-behind a.events.now a.i c.requires (cuts_burst c.pins-burst.result) (c.cycle-k.result + c.half-half.result)
    (c.first_ahead.ensures (cuts_burst c.pins-burst.result) (λ w r p. search rules)) c.in-Some.is in
    omega (arith, behind, c.cycle-k.ensures)

pub returns : goal.returns
returns c = let a = c.args in
    half-is a.events.now a.i c.requires c.cycle-k.ensures a.mode c.pins-burst.ensures c.half-half.ensures refl
    (c.first_ahead.ensures (cuts_burst c.pins-burst.result) (λ w r p. search rules)) c.in-Some.is
