use Rattle.fax_bitmap.proofs.Names.{◌≡◌, ◌++◌, length, map, rows_of, shown, AreRows}
use Rattle.fax_bitmap.proofs.bitmap_rows.rows_of_bitmap.Given as goal

abbrev pub invariant-loop-rest : goal.invariant-loop-rest
invariant-loop-rest l = record {
  lawful : AreRows l.columns (map (λ row. row.items) l.rows.items);
  left : rows_of l.columns (map (λ row. row.items) l.rows.items) ++ shown l.columns l.rest ≡ shown l.columns l.bitmap;
}

abbrev pub decreases-loop-rest : goal.decreases-loop-rest
decreases-loop-rest l = length l.rest
