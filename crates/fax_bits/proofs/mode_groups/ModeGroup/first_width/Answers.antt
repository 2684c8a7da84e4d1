use Rattle.fax_bits.proofs.Names.{common_steps, arith, and_mask}
use Rattle.fax_bits.proofs.BitReading.GroupRows.{row_first_width, bits_for_each, few_in_part, four_words}
use Rattle.fax_bits.proofs.mode_groups.ModeGroup.first_width.Goals as goal

pub bounds-row_of-count : goal.bounds-row_of-count
bounds-row_of-count c = omega (arith, c.requires.within, four_words c.args.self)

pub returns-clause-value : goal.returns-clause-value
returns-clause-value c = grind (arith, common_steps, four_words, and_mask, row_first_width)

pub returns-clause-few : goal.returns-clause-few
returns-clause-few c = omega (arith, returns-clause-value c, few_in_part c.args.self c.args.count)

pub returns-clause-some : goal.returns-clause-some
returns-clause-some c = omega (arith, returns-clause-value c, bits_for_each c.args.self c.args.count c.requires.within)
