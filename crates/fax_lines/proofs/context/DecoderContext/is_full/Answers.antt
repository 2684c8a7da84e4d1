use Rattle.fax_lines.proofs.Names.{common_steps}
use Rattle.fax_lines.proofs.Names.{arith, eqb-true, eq-eqb}
use Rattle.fax_reading.proofs.PixelRows.ChangesAndPixels.{length-pixels}
use Rattle.fax_lines.proofs.context.DecoderContext.is_full.Goals as goal

pub returns : goal.returns
returns c = grind (arith, common_steps, length-pixels, eqb-true, eq-eqb)
