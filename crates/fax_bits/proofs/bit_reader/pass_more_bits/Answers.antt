use Rattle.fax_bits.proofs.Names.{arith, rules}
use Rattle.fax_bits.proofs.BitReading.BitsInWindow.{there}
use Rattle.fax_bits.proofs.bit_reader.pass_more_bits.Goals as goal

pub returns-clause-within : goal.returns-clause-within
returns-clause-within c = search rules

pub returns-clause-there : goal.returns-clause-there
returns-clause-there c = grind (arith, returns-clause-within, there)
