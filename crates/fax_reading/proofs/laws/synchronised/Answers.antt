use Rattle.fax_reading.proofs.CodeWords.WordsFound.{words_synchronised}
use Rattle.fax_reading.proofs.laws.synchronised.Goals as goal

pub returns-clause-law : goal.returns-clause-law
returns-clause-law c = words_synchronised
