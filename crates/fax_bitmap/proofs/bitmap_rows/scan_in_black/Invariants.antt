use Rattle.fax_bitmap.proofs.Names.{◌≡◌, ◌+◌, ◌*◌, cond, ◌-◌, ◌≤◌, ◌++◌, length, take, bits_of, bit_of, changes, changes_from}
use Rattle.fax_bitmap.proofs.Names.{bytes_of_row, in_black}
use Rattle.fax_bitmap.proofs.bitmap_rows.scan_in_black.Given as goal

abbrev pub invariant-loop-start : goal.invariant-loop-start
invariant-loop-start l = record {
  within : l.start ≤ l.columns;
  room : bytes_of_row (l.columns - l.start) ≤ length l.rest;
  left : l.list.items ++ changes_from l.start (bit_of l.before 0) (take (l.columns - l.start) (bits_of l.rest))
      ≡ changes (in_black l.black_is_0 (take l.columns (bits_of l.bitmap)));
}

abbrev pub decreases-loop-start : goal.decreases-loop-start
decreases-loop-start l = 2 * (l.columns - l.start) + cond l.is_plain 1 0
