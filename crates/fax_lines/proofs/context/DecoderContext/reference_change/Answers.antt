use Rattle.fax_lines.proofs.Names.{arith}
use Rattle.fax_lines.proofs.Names.{common_steps}
use Rattle.fax_reading.proofs.PixelRows.ChangesAndPixels.{changes-pixels}
use Rattle.fax_lines.proofs.context.DecoderContext.reference_change.Goals as goal

pub returns : goal.returns
returns c = grind (arith, common_steps, changes-pixels)
