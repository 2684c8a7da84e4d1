use Rattle.fax_bits.proofs.Names.{arith}
use Rattle.fax_bits.proofs.BitReading.BitLists.{length-bits_in}
use Rattle.fax_bits.proofs.bit_reader.copy.Goals as goal

pub returns-clause-fit : goal.returns-clause-fit
returns-clause-fit c = grind (arith, length-bits_in)
