use Rattle.faxconv_out.proofs.rows_out.RowsOut.put_white.Given as goal

abbrev pub decreases-white : goal.decreases-white
decreases-white l = l.left
