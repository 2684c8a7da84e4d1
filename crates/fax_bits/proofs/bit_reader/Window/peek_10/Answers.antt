use Rattle.fax_bits.proofs.Names.{arith, common_steps}
use Rattle.fax_bits.proofs.BitReading.{BitPlaces.bits_at, PeekedBits.first_ten, BitLists.length-bits_in}
use Rattle.fax_bits.proofs.bit_reader.Window.peek_10.Goals as goal

pub returns-clause-bits : goal.returns-clause-bits
returns-clause-bits c = grind (arith, common_steps, bits_at, first_ten)

pub returns-clause-there : goal.returns-clause-there
returns-clause-there c = grind (arith, common_steps, length-bits_in)
