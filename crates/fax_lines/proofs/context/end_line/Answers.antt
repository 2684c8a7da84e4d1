use Rattle.fax_lines.proofs.Names.{arith}
use Rattle.fax_lines.proofs.Names.{common_steps}
use Rattle.fax_reading.proofs.PixelRows.ChangesAndPixels.{continued-pixels}
use Rattle.fax_lines.proofs.context.end_line.Goals as goal

pub returns-clause-frame : goal.returns-clause-frame
returns-clause-frame c = grind (arith, common_steps, continued-pixels)

pub returns-clause-width : goal.returns-clause-width
returns-clause-width c = grind (arith, common_steps)
