use Rattle.fax_rows.proofs.Names.{common_steps}
use Rattle.fax_rows.proofs.Names.{arith, refl}
use Rattle.fax_rows.proofs.Readings.WhiteLineBits.{joined_bits, joined_fits}
use Rattle.fax_rows.proofs.white_lines.joined.Goals as goal

pub returns-clause-whole : goal.returns-clause-whole
returns-clause-whole c = grind (arith, common_steps, joined_fits)

pub returns-clause-bits : goal.returns-clause-bits
returns-clause-bits c = joined_bits c.args.first c.args.second _ c.requires.first c.requires.second refl
