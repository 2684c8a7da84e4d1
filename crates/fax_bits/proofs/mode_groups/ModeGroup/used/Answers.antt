use Rattle.fax_bits.proofs.Names.{arith}
use Rattle.fax_bits.proofs.BitReading.GroupRows.{row_used}
use Rattle.fax_bits.proofs.mode_groups.ModeGroup.used.Goals as goal

pub returns-clause-value : goal.returns-clause-value
returns-clause-value c = grind (arith, row_used)
