use Rattle.fax_lines.proofs.Names.{arith}
use Rattle.fax_lines.proofs.Names.{common_steps}
use Rattle.fax_lines.proofs.Names.{rules}
use Rattle.fax_reading.proofs.PixelRows.ChangesAndPixels.{changes-continued}
use Rattle.fax_lines.proofs.context.DecoderContext.hand_over.Goals as goal

pub returns-clause-passes : goal.returns-clause-passes
returns-clause-passes g c =
    record {
      taken = grind (arith, common_steps, changes-continued);
      flag = search rules;
      kept = search rules;
      refused = search rules;
      refused_row = grind (arith, common_steps, changes-continued);
      only_refused = search rules;
    }
