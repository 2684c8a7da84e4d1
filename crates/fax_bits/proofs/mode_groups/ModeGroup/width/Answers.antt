use Rattle.fax_bits.proofs.Names.{arith}
use Rattle.fax_bits.proofs.BitReading.GroupRows.{row_width, within_ten, bits_for_all}
use Rattle.fax_bits.proofs.mode_groups.ModeGroup.width.Goals as goal

pub returns-clause-value : goal.returns-clause-value
returns-clause-value c = grind (arith, row_width)

pub returns-clause-few : goal.returns-clause-few
returns-clause-few c = omega (arith, returns-clause-value c, within_ten c.args.self)

pub returns-clause-some : goal.returns-clause-some
returns-clause-some c = omega (arith, returns-clause-value c, bits_for_all c.args.self)
