use mathlib.Core.Bool.{true}
use Rattle.beats.proofs.Columns.{place-lt}
use Rattle.beats.proofs.place.Goals as goal

pub returns-then-interleaved-clause-short : goal.returns-then-interleaved-clause-short
returns-then-interleaved-clause-short c = let a = c.args in
    let p = c.requires in
    place-lt true a.size a.column a.beat p.size_bound.0 p.size_bound.1 p.column_bound.1
