use Rattle.fax_reading.proofs.Continuations.LinesGoOn.{lines_go_on as the_lemma}
use Rattle.fax_reading.proofs.laws.lines_go_on.Goals as goal

pub returns : goal.returns
returns c = the_lemma
