use Rattle.fax_reading.proofs.KeptRows.RowsAfterDamage.{rows_after as the_lemma}
use Rattle.fax_reading.proofs.laws.rows_after.Goals as goal

pub returns : goal.returns
returns c = the_lemma
