use Rattle.fax_rows.proofs.Names.{arith}
use Rattle.fax_rows.proofs.Names.{common_steps}
use Rattle.fax_rows.proofs.Work.CallsPaid.{work_is_counted}
use Rattle.fax_rows.proofs.row_cursor.RowCursor.next_row.Goals as goal

-- what was counted so far is within the bound
pub returns-in-AtLine-clause-work : goal.returns-in-AtLine-clause-work
returns-in-AtLine-clause-work c reading = grind (arith, common_steps, work_is_counted, c.read_on.ensures.reading reading)
