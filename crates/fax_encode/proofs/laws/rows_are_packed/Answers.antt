use Rattle.fax_encode.proofs.PackedRows.{rows_are_packed as the_lemma}
use Rattle.fax_encode.proofs.laws.rows_are_packed.Goals as goal

pub returns : goal.returns
returns c = the_lemma
