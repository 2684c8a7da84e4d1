use Rattle.fax_bits.proofs.Names.{arith, common_steps}
use Rattle.fax_bits.proofs.BitReading.BitLists.{length-bits_in}
use Rattle.fax_bits.proofs.bit_reader.BitScanner.offset.Goals as goal

pub returns-clause-within : goal.returns-clause-within
returns-clause-within c = grind (arith, common_steps, length-bits_in)

pub returns-clause-fit : goal.returns-clause-fit
returns-clause-fit c = grind (arith, common_steps, length-bits_in)
