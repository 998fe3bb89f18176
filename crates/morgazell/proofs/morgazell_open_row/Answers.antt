use Rattle.morgazell.proofs.OpenRows.{answer-so, records-so, index-so}
use Rattle.morgazell.proofs.morgazell_open_row.Goals as goal

pub returns : goal.returns
returns c =
    let a = c.args in
    let told = c.open_row-told.ensures in (
      answer-so a.capture.now a.bank a.event a.records.now a.index.now _ told.answer c.packed_row.ensures,
      records-so a.capture.now a.bank a.event a.records.now a.index.now _ told.answer c.fill.ensures,
      index-so a.capture.now a.bank a.event a.records.now a.index.now told.index_after,
    )
