use Rattle.fax_bits.proofs.Names.{arith}
use Rattle.fax_bits.proofs.BitReading.{FilledWindows.scanned, PeekedBits.first_seven}
use Rattle.fax_bits.proofs.bit_reader.BitScanner.peek_7.Goals as goal

pub returns-clause-bits : goal.returns-clause-bits
returns-clause-bits c = grind (arith, first_seven, scanned)
