use Rattle.fax_rows.proofs.Names.{common_steps}
use Rattle.fax_rows.proofs.Names.{arith}
use Rattle.fax_rows.proofs.white_lines.following_eol.Goals as goal

pub returns-then-not-has_eols : goal.returns-then-not-has_eols
returns-then-not-has_eols c = λ encoding columns most is. grind (arith, common_steps)

pub returns : goal.returns
returns c = λ encoding columns most is. grind (arith, common_steps)
