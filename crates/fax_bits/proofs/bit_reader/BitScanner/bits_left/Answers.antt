use Rattle.fax_bits.proofs.Names.{arith, common_steps}
use Rattle.fax_bits.proofs.BitReading.BitLists.{length-bits_in}
use Rattle.fax_bits.proofs.bit_reader.BitScanner.bits_left.Goals as goal

pub returns : goal.returns
returns c = grind (arith, common_steps, length-bits_in)
