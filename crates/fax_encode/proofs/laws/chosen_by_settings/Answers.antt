use Rattle.fax_encode.proofs.Names.{refl}
use Rattle.fax_encode.proofs.ChosenBySettings.{chosen_by_settings, chosen_lines_encode, never_longer}
use Rattle.fax_encode.proofs.laws.chosen_by_settings.Goals as goal

pub returns-clause-lines : goal.returns-clause-lines
returns-clause-lines c = chosen_lines_encode

pub returns-clause-shorter : goal.returns-clause-shorter
returns-clause-shorter c = never_longer

pub returns-clause-same : goal.returns-clause-same
returns-clause-same c = chosen_by_settings

pub returns-clause-worked : goal.returns-clause-worked
returns-clause-worked c = (refl, refl, refl, refl)
