use Rattle.hayro_ccitt.proofs.Names.{arith, length-drop, common_steps}
use Rattle.hayro_ccitt.proofs.{BitReading.BitLists.length-bits_in, DamagedLines.BodyTests.one_by_zeros}
use Rattle.hayro_ccitt.proofs.locality.holds_one.Goals as goal

pub returns-clause-one : goal.returns-clause-one
returns-clause-one c = grind (arith, common_steps, length-bits_in, length-drop, one_by_zeros)
