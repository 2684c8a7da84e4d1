use Rattle.fax_lines.proofs.Names.{common_steps}
use Rattle.fax_lines.proofs.Names.{get_or_default_zero, arith}
use Rattle.fax_lines.proofs.DrawingLines.RegularModes.{after_first}
use Rattle.std.proofs.lemmas.List.{get_or-drop}
use Rattle.fax_lines.proofs.vertical_groups.painted_by.Goals as goal

pub returns : goal.returns
returns c = grind (arith, common_steps, get_or_default_zero, get_or-drop, after_first)
