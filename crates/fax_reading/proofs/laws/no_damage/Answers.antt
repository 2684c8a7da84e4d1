use Rattle.fax_reading.proofs.Readings.Undamaged.{strict_is_undamaged as strict_law, pictures_are_undamaged as pictures_law}
use Rattle.fax_reading.proofs.laws.no_damage.Goals as goal

pub returns-clause-strict : goal.returns-clause-strict
returns-clause-strict c = strict_law

pub returns-clause-pictures : goal.returns-clause-pictures
returns-clause-pictures c = pictures_law
