use Rattle.fax_feeds.proofs.Names.{arith}
use Rattle.fax_feeds.proofs.Names.{common_steps}
use Rattle.fax_feeds.proofs.DrawingLines.PartsOfLines.{begins_by, begins_tagged}
use Rattle.fax_feeds.proofs.line_parts.begin_part.Goals as goal

pub returns-in-Group3_1D-clause-begins : goal.returns-in-Group3_1D-clause-begins
returns-in-Group3_1D-clause-begins c = grind (arith, common_steps, begins_by)

pub returns-in-Group4-clause-begins : goal.returns-in-Group4-clause-begins
returns-in-Group4-clause-begins c = grind (arith, common_steps, begins_by)

pub returns-in-Ok-clause-begins : goal.returns-in-Ok-clause-begins
returns-in-Ok-clause-begins c = grind (arith, common_steps, begins_tagged)
