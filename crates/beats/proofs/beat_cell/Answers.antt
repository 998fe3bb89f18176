use Prim.Native.Nat.{ℕ, ◌+◌, ◌*◌, ◌/◌}
use mathlib.Core.Path.{sym, ap, ◌∙◌}
use native.Mathlib.Omega.{arith}
use Rattle.beats.proofs.Columns.{length-pos, length-le, block-le}
use Rattle.beats.proofs.Storing.{beat-in-block}
use Rattle.beats.proofs.beat_cell.Goals as goal

pub overflow_mul-block : goal.overflow_mul-block
overflow_mul-block c = omega (arith, block-le c.burst_length-length.result c.args.column)

pub overflow_add-block : goal.overflow_add-block
overflow_add-block c = omega (arith, block-le c.burst_length-length.result c.args.column, c.requires.0, c.requires.1.0)

pub place-requires : goal.place-requires
place-requires c = let e = c.burst_length-length.ensures in
    record { size_bound = (rw e (length-pos c.args.mode), rw e (length-le c.args.mode)); column_bound = c.requires.1 }

pub overflow_add-result : goal.overflow_add-result
overflow_add-result c =
    omega (arith, block-le c.burst_length-length.result c.args.column, c.requires.0, c.requires.1.0, c.place.ensures.short)

pub returns : goal.returns
returns c = let a = c.args in
    let size = c.burst_length-length.result in
    ap (λ (k : ℕ). a.first + a.column / size * size + k) c.place.ensures.value
    ∙ beat-in-block a.first a.mode a.column c.interleaved.result a.beat (sym c.interleaved.ensures) c.burst_length-length.ensures
