use Rattle.fax_reading.proofs.KeptRows.RowsBeforeDamage.{rows_before as the_lemma}
use Rattle.fax_reading.proofs.laws.rows_before.Goals as goal

pub returns : goal.returns
returns c = the_lemma
