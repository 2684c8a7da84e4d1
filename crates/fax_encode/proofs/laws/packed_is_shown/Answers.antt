use Rattle.fax_encode.proofs.PackedRows.{packed_is_shown as the_lemma}
use Rattle.fax_encode.proofs.laws.packed_is_shown.Goals as goal

pub returns : goal.returns
returns c = the_lemma
