use Rattle.fax_bits.proofs.Names.{common_steps, arith}
use Rattle.fax_bits.proofs.{BitReading.FilledWindows.scanned, BitReading.PeekedBits.first_index, CodeWords.LookedUp.few_bits}
use Rattle.fax_bits.proofs.bit_reader.BitScanner.run_index.Goals as goal

pub returns-clause-bits : goal.returns-clause-bits
returns-clause-bits c = grind (arith, few_bits, first_index, scanned)

pub returns-clause-few : goal.returns-clause-few
returns-clause-few c = grind (arith, common_steps)
