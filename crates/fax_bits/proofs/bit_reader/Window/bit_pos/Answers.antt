use Rattle.fax_bits.proofs.Names.{arith}
use Rattle.fax_bits.proofs.BitReading.BitLists.{length-bits_in}
use Rattle.fax_bits.proofs.bit_reader.Window.bit_pos.Goals as goal

pub returns-clause-within : goal.returns-clause-within
returns-clause-within c = grind (arith, length-bits_in)
