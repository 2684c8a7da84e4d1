use Rattle.fax_lines.proofs.Names.{common_steps}
use Rattle.fax_lines.proofs.Names.{arith}
use Rattle.fax_reading.proofs.PixelRows.B1ByParity.{near_up}
use Rattle.fax_reading.proofs.PixelRows.EndedPlaces.{among_changes}
use Rattle.fax_lines.proofs.modes.seek_b1.Goals as goal

pub changes-preserved : goal.changes-preserved
changes-preserved c = grind (arith, common_steps, among_changes, near_up)
