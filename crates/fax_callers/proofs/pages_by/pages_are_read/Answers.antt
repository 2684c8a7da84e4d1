use Rattle.fax_callers.proofs.PagesRead.{pages_read}
use Rattle.fax_callers.proofs.pages_by.pages_are_read.Goals as goal

pub returns : goal.returns
returns c = pages_read c.args.settings c.args.order c.pictures.ensures.closed
    (record { columns = c.have_32_bits.ensures.columns; rows = c.have_32_bits.ensures.rows })
