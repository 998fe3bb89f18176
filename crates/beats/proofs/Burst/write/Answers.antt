use Prim.Native.Nat.{◌*◌}
use mathlib.Core.Path.{sym, ap, ◌∙◌}
use lib.Seq.{sets}
use Rattle.beats.proofs.Columns.{block-fits}
use Rattle.beats.proofs.Storing.{in_block}
use Rattle.beats.proofs.Burst.write.Goals as goal

pub write_cells-requires : goal.write_cells-requires
write_cells-requires c = let x = c.args.self.now in
    record { in_block = block-fits x.first x.mode x.column x.pairs x.in_row c.burst_length-length.ensures; pairs_in_bounds = c.requires }

pub returns : goal.returns
returns c = let x = c.args.self.now in
    c.write_cells.ensures
    ∙ ap (sets c.args.out.now c.args.at)
    (in_block x.first x.mode x.column c.interleaved-interleaved.result (2 * x.pairs) (sym c.interleaved-interleaved.ensures) c.burst_length-length.ensures)
