use Rattle.beats.proofs.Columns.{column-is}
use Rattle.beats.proofs.column.Goals as goal

pub returns : goal.returns
returns c = rw (c.power.ensures, ← c.address-a.ensures.0) (column-is _ c.address-a.result c.requires.columns)
