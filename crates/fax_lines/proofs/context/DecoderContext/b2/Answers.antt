use Rattle.fax_lines.proofs.Names.{common_steps}
use Rattle.fax_lines.proofs.Names.{arith}
use Rattle.fax_reading.proofs.PixelRows.ReferencePlaces.{b2_from_front}
use Rattle.fax_lines.proofs.context.DecoderContext.b2.Goals as goal

pub returns-clause-right : goal.returns-clause-right
returns-clause-right c = grind (arith, common_steps, b2_from_front)
