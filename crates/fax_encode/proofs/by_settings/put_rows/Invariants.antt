use Rattle.fax_encode.proofs.Names.{◌≡◌, ◌++◌, length, drop, map, AreChanges, pixels, white_row, rows_of}
use Rattle.fax_encode.proofs.Names.{EndsWhereAligned, all_bits}
use Rattle.fax_encode.proofs.Names.{lines_left}
use Rattle.fax_encode.proofs.by_settings.put_rows.Given as goal

abbrev pub invariant-loop-row : goal.invariant-loop-row
invariant-loop-row l = record {
  lawful : AreChanges l.columns l.reference;
  whole : EndsWhereAligned l.settings l.writer;
  written : all_bits l.writer ++ lines_left l.settings (length (all_bits l.writer)) l.left (pixels l.columns l.reference)
      (rows_of l.columns (drop l.row-index (map (λ row. row.items) l.rows))) ≡ lines_left l.settings 0 0 (white_row l.columns)
      (rows_of l.columns (map (λ row. row.items) l.rows));
}
