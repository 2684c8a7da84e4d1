use Rattle.fax_lines.proofs.Names.{common_steps}
use Rattle.fax_lines.proofs.Names.{arith}
use Rattle.fax_reading.proofs.PixelRows.ChangesAndPixels.{changes-pixels}
use Rattle.fax_reading.proofs.PixelRows.ReferencePlaces.{row_length, right_of-pixels}
use Rattle.fax_lines.proofs.context.DecoderContext.b1_place.Goals as goal

pub returns-clause-b1 : goal.returns-clause-b1
returns-clause-b1 c = grind (arith, common_steps, right_of-pixels, changes-pixels)

pub returns-clause-b2 : goal.returns-clause-b2
returns-clause-b2 c = grind (arith, common_steps, right_of-pixels, changes-pixels)

pub returns-clause-seeks : goal.returns-clause-seeks
returns-clause-seeks c = grind (arith, common_steps, row_length, changes-pixels)
