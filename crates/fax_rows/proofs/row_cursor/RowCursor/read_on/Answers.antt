use Rattle.fax_rows.proofs.Names.{common_steps}
use Rattle.fax_rows.proofs.Names.{arith}
use Rattle.fax_bits.proofs.BitReading.BitLists.{length-bits_in}
use Rattle.fax_rows.proofs.row_cursor.RowCursor.read_on.Goals as goal

-- the data of a reading doesn't end before its offset
pub returns-then-self-data-clause-reads : goal.returns-then-self-data-clause-reads
returns-then-self-data-clause-reads c reading = grind (arith, common_steps, length-bits_in)

pub returns-clause-reads : goal.returns-clause-reads
returns-clause-reads c reading = grind (arith, common_steps, c.next_row-answer.ensures.reads 0)

pub returns-clause-reading : goal.returns-clause-reading
returns-clause-reading c reading =
    grind (arith, common_steps, c.next_row-answer.ensures.stands 0, c.next_row-answer.ensures.space 0)
