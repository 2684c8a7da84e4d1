use Rattle.fax_bits.proofs.Names.{arith}
use Rattle.fax_bits.proofs.BitReading.GroupRows.{row_offset, offset_near}
use Rattle.fax_bits.proofs.mode_groups.ModeGroup.offsets.Goals as goal

pub returns-clause-each : goal.returns-clause-each
returns-clause-each c = grind (arith, row_offset)

pub returns-clause-near : goal.returns-clause-near
returns-clause-near c = λ k d below. omega (arith, returns-clause-each c k d below, offset_near c.args.self k)
