use Rattle.fax_lines.proofs.Names.{common_steps}
use Rattle.fax_lines.proofs.Names.{arith, length-drop}
use Rattle.fax_lines.proofs.DrawingLines.TwoOnes.{v0_after_one}
use Rattle.fax_lines.proofs.modes.has_two_v0.Goals as goal

pub returns : goal.returns
returns c = grind (arith, common_steps, length-drop, v0_after_one)
