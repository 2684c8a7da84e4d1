use Rattle.fax_encode.proofs.RoundTrip.{chosen_is_an_encoding as the_lemma}
use Rattle.fax_encode.proofs.laws.chosen_is_an_encoding.Goals as goal

pub returns : goal.returns
returns c = the_lemma
