use Rattle.std.proofs.Common.{◌≡◌, ◌≤◌, length}
use Rattle.fax_encode.specs.RowByRow.{with_rows}
use Rattle.c_rows.specs.Packing.{rows_read}
use Rattle.c_rows.proofs.encoding.push_rows.Given as goal

abbrev pub invariant-loop-rest : goal.invariant-loop-rest
invariant-loop-rest l = record {
  columns : l.encoder.columns ≡ l.columns;
  shorter : length l.rest ≤ length l.bitmap;
  pushed : with_rows l.encoder (rows_read l.layout l.columns l.rest)
      ≡ with_rows l.fn.encoder (rows_read l.layout l.columns l.bitmap);
}

abbrev pub decreases-loop-rest : goal.decreases-loop-rest
decreases-loop-rest l = length l.rest
