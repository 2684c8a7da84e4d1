use Rattle.fax_rows.proofs.Names.{arith}
use Rattle.fax_rows.proofs.Names.{common_steps}
use Rattle.fax_rows.proofs.white_lines.white_lines.Goals.{else-has_eols, then-has_eols}
use Rattle.fax_rows.proofs.white_lines.white_lines.Goals as goal

pub returns-clause-known : goal.returns-clause-known
returns-clause-known c =
    grind (
      arith,
      common_steps,
      c.following_eol.ensures c.args.settings.encoding c.args.settings.columns 20 c.first_line-first.ensures,
      c.following_eol-2.ensures c.args.settings.encoding c.args.settings.columns 21 c.second_line-second.ensures,
    )
