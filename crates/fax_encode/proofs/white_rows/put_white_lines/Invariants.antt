use Rattle.fax_encode.proofs.Names.{◌≡◌, ◌++◌, EndsWhereAligned, List}
use Rattle.fax_encode.proofs.Names.{length, replicate, Row, white_row, lines_left, all_bits}
use Rattle.fax_encode.proofs.white_rows.put_white_lines.Given as goal

abbrev pub invariant-rows : goal.invariant-rows
invariant-rows l = record {
  whole : EndsWhereAligned l.settings l.writer;
  written : (below : List Row) → all_bits l.writer ++ lines_left l.settings (length (all_bits l.writer)) l.now
      (white_row l.white.columns) (replicate l.rows (white_row l.white.columns) ++ below) ≡ all_bits l.fn.writer
      ++ lines_left l.settings (length (all_bits l.fn.writer)) l.left (white_row l.white.columns)
      (replicate l.white.count (white_row l.white.columns) ++ below);
}

abbrev pub decreases-rows : goal.decreases-rows
decreases-rows l = l.rows
