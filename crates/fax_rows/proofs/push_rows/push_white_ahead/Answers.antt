use Rattle.fax_rows.proofs.Readings.WhiteRowsPushed.{no_white_read}
use Rattle.fax_rows.proofs.push_rows.push_white_ahead.Goals as goal

pub returns-then-not-may_follow-clause-pushes : goal.returns-then-not-may_follow-clause-pushes
returns-then-not-may_follow-clause-pushes g c = no_white_read
