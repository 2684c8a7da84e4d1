use Rattle.fax_conforms.proofs.ChosenConforms.{chosen_conforms}
use Rattle.fax_conforms.proofs.laws.chosen_conforms.Goals as goal

pub returns : goal.returns
returns c = chosen_conforms
