use Rattle.fax_bits.proofs.Names.{arith}
use Rattle.fax_bits.proofs.BitReading.BitLists.{length-bits_in}
use Rattle.fax_bits.proofs.bit_reader.bit_len.Goals as goal

pub returns-clause-length : goal.returns-clause-length
returns-clause-length c = rw (← c.reader.view_is) (omega (arith, length-bits_in c.reader.inside.order c.reader.inside.«data».now))

pub returns-clause-fit : goal.returns-clause-fit
returns-clause-fit c = grind (arith, length-bits_in)
