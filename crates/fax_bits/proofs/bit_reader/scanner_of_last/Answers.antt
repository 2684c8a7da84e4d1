use Rattle.fax_bits.proofs.Names.{arith}
use Rattle.fax_bits.proofs.bit_reader.scanner_of_last.Goals as goal

pub invariant_of-result : goal.invariant_of-result
invariant_of-result c = grind arith
