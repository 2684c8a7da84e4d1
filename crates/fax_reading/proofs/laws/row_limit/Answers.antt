use Rattle.fax_reading.proofs.Readings.Limits.{row_limit as the_lemma}
use Rattle.fax_reading.proofs.laws.row_limit.Goals as goal

pub returns : goal.returns
returns c = the_lemma
