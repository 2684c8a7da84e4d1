use Rattle.fax_reading.proofs.DamagedLines.BodyTests.{local_by_tests}
use Rattle.fax_reading.proofs.DamagedLines.Damage.{locality as the_lemma}
use Rattle.fax_reading.proofs.laws.locality.Goals as goal

pub returns-clause-tests : goal.returns-clause-tests
returns-clause-tests c = local_by_tests

pub returns-clause-one_row : goal.returns-clause-one_row
returns-clause-one_row c = the_lemma
