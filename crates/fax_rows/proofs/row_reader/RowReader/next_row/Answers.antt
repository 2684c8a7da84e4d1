use Rattle.fax_rows.proofs.Names.{arith}
use Rattle.fax_rows.proofs.Names.{common_steps}
use Rattle.fax_rows.proofs.Names.{rules}
use Rattle.fax_rows.proofs.Work.CallsPaid.{work_is_counted}
use Rattle.fax_rows.proofs.row_reader.RowReader.next_row.Goals as goal

-- what was counted so far is within the bound
pub returns-in-AtLine-clause-work : goal.returns-in-AtLine-clause-work
returns-in-AtLine-clause-work c = grind (arith, common_steps, work_is_counted, c.next_row.ensures.stands 0 c.self.invariant.0)

pub returns-in-AtFault-clause-ended : goal.returns-in-AtFault-clause-ended
returns-in-AtFault-clause-ended c = search rules

pub returns-in-AtFault-clause-reads : goal.returns-in-AtFault-clause-reads
returns-in-AtFault-clause-reads c = search rules
