use Rattle.fax_rows.proofs.Readings.WhiteRowsPushed.{no_white_read}
use Rattle.fax_rows.proofs.push_rows.push_white_in_order.Goals as goal

pub returns-clause-pushes : goal.returns-clause-pushes
returns-clause-pushes g c = no_white_read
