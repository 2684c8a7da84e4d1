use Rattle.fax_bits.proofs.Names.{arith}
use Rattle.fax_bits.proofs.bit_reader.BitScanner.entry_here.Goals as goal

pub returns : goal.returns
returns c = grind arith
