-- The invariant: the lent part of the list as it was, with the first cells stored (Storing).
use Prim.Native.Nat.{ℕ, ◌+◌, ◌-◌, ◌*◌}
use mathlib.Core.Path.{ap}
use native.Mathlib.Omega.{arith}
use lib.ListN.{take, drop}
use Rattle.beats.specs.Rows.{place_in}
use Rattle.beats.proofs.Storing.{begins, goes_on, part-long, stored_within}
use Rattle.beats.proofs.write_cells.Goals as goal

pub loop-beat-init : goal.loop-beat-init
loop-beat-init c = let a = c.args in
    begins (λ (j : ℕ). a.block + place_in a.interleaved a.size a.column j)
    (take (a.at + 2 * a.pairs - a.at) (drop a.at a.out.now)) 0 (2 * a.pairs)

pub loop-beat-preserved : goal.loop-beat-preserved
loop-beat-preserved c = let a = c.args in
    goes_on (λ (j : ℕ). a.block + place_in a.interleaved a.size a.column j)
    (take (a.at + 2 * a.pairs - a.at) (drop a.at a.out.now)) 0 (2 * a.pairs) c.loop-beat.invariant
    (omega (arith, part-long (λ (j : ℕ). j) a.out.now a.at (2 * a.pairs) c.requires.pairs_in_bounds, c.loop-beat-test.true))
    (ap (λ (k : ℕ). a.block + k) c.place.ensures.value)

pub returns : goal.returns
returns c = let a = c.args in
    stored_within (λ (j : ℕ). a.block + place_in a.interleaved a.size a.column j) a.out.now a.at (2 * a.pairs) c.requires.pairs_in_bounds
    c.loop-beat.invariant c.loop-beat-test.false
