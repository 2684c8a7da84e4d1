use Rattle.fax_encode.proofs.LinesOfPictures.{rows_are_chosen as the_lemma}
use Rattle.fax_encode.proofs.laws.rows_are_chosen.Goals as goal

pub returns : goal.returns
returns c = the_lemma
