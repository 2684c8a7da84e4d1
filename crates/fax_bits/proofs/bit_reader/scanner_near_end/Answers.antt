use Rattle.fax_bits.proofs.Names.{arith}
use Rattle.fax_bits.proofs.bit_reader.scanner_near_end.Goals as goal

pub invariant_of-result : goal.invariant_of-result
invariant_of-result c = grind arith
