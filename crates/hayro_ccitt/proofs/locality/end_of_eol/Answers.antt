use Rattle.hayro_ccitt.proofs.Names.{arith, common_steps}
use Rattle.hayro_ccitt.proofs.BitReading.BitLists.{length-bits_in}
use Rattle.hayro_ccitt.proofs.locality.end_of_eol.Goals as goal

pub returns-clause-within : goal.returns-clause-within
returns-clause-within c = grind (arith, common_steps, length-bits_in)
