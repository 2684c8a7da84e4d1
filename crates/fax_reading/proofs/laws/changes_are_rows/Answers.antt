use Rattle.fax_reading.proofs.Names.{arith, common_steps}
use Rattle.fax_reading.proofs.PixelRows.ChangesAndPixels.{length-pixels, changes-pixels, AreChanges-changes, pixels-changes}
use Rattle.fax_reading.proofs.laws.changes_are_rows.Goals as goal

pub returns : goal.returns
returns c = grind (arith, common_steps, length-pixels, changes-pixels, AreChanges-changes, pixels-changes)
