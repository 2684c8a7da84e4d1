use Rattle.fax_reading.proofs.Readings.Strictness.{strict_then_lenient as the_lemma}
use Rattle.fax_reading.proofs.laws.strict_then_lenient.Goals as goal

pub returns : goal.returns
returns c = the_lemma
