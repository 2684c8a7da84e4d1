use Rattle.fax_bits.proofs.Names.{common_steps, arith, here}
use Rattle.fax_bits.proofs.BitReading.{PlainEols.eol_and_others, ConsecutiveEols.all_eols-none}
use Rattle.fax_bits.proofs.bit_reader.BitReader.read_eol_if_available.Goals as goal

pub returns-then-is_near_one-2-clause-eols : goal.returns-then-is_near_one-2-clause-eols
returns-then-is_near_one-2-clause-eols c = grind (arith, common_steps, all_eols-none, eol_and_others (here c.args.self.now))

pub returns-clause-eols : goal.returns-clause-eols
returns-clause-eols c = grind (arith, eol_and_others)
