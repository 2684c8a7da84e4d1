use Rattle.fax_rows.proofs.Names.{arith}
use Rattle.fax_rows.proofs.Names.{common_steps}
use Rattle.fax_reading.proofs.DrawingLines.FullRows.{line_by_full}
use Rattle.fax_rows.proofs.Readings.RowsTried.{drawn_full}
use Rattle.fax_rows.proofs.rows.read_row.Goals as goal

pub settle_row-requires-clause-full : goal.settle_row-requires-clause-full
settle_row-requires-clause-full c = grind (arith, common_steps, drawn_full, line_by_full)
