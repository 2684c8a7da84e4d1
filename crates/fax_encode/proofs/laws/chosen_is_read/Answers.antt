use Rattle.fax_encode.proofs.ChosenBySettings.{chosen_is_read, chosen_comes_back}
use Rattle.fax_encode.proofs.laws.chosen_is_read.Goals as goal

pub returns-clause-read : goal.returns-clause-read
returns-clause-read c = chosen_is_read

pub returns-clause-again : goal.returns-clause-again
returns-clause-again c = chosen_comes_back
