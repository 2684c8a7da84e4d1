use Rattle.fax_rows.proofs.Names.{common_steps}
use Rattle.fax_rows.proofs.Names.{arith}
use Rattle.fax_rows.proofs.Readings.WhiteLineBits.{tagged_run_line}
use Rattle.fax_rows.proofs.white_lines.second_line.Goals as goal

pub returns : goal.returns
returns c = rw c.in-Group3_2D.is (record {
  is_whole = grind (arith, common_steps);
  line = λ some. tagged_run_line c.args.columns c.white_run-run.result _ c.requires (c.white_run-run.ensures.run (omega arith))
      c.joined.ensures.bits;
})
