use Rattle.fax_reading.proofs.Continuations.ShortLines.{lines_settle as the_lemma}
use Rattle.fax_reading.proofs.laws.lines_settle.Goals as goal

pub returns : goal.returns
returns c = the_lemma
