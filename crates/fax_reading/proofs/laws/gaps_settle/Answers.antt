use Rattle.fax_reading.proofs.GapsContinued.SettledGaps.{gaps_settle as the_lemma}
use Rattle.fax_reading.proofs.laws.gaps_settle.Goals as goal

pub returns : goal.returns
returns c = the_lemma
