use Rattle.fax_rows.proofs.Names.{arith}
use Rattle.fax_rows.proofs.Readings.WhiteLineBits.{run_line, tagged_v0_line, v0_line}
use Rattle.fax_rows.proofs.white_lines.first_line.Goals as goal

pub returns-in-Group4 : goal.returns-in-Group4
returns-in-Group4 c = rw c.in-Group4.is (record {
  is_whole = record { few = omega arith; fits = omega arith };
  line = λ some. v0_line c.args.columns c.requires (omega arith);
})

pub returns-in-Group3_1D : goal.returns-in-Group3_1D
returns-in-Group3_1D c = rw c.in-Group3_1D.is (record {
  is_whole = record { few = omega (arith, c.white_run.ensures.whole.few); fits = c.white_run.ensures.whole.fits };
  line = λ some. run_line c.args.columns c.white_run.result c.requires (c.white_run.ensures.run some);
})

pub returns-in-Group3_2D : goal.returns-in-Group3_2D
returns-in-Group3_2D c = rw c.in-Group3_2D.is (record {
  is_whole = record { few = omega arith; fits = omega arith };
  line = λ some. tagged_v0_line c.args.columns c.requires (omega arith);
})
