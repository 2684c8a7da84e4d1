use Rattle.fax_bitmap.proofs.Names.{◌≡◌, ◌≤◌, ◌-◌, false, length}
use Rattle.fax_bitmap.proofs.PaintedRows.{IsPainted}
use Rattle.fax_bitmap.proofs.painting.paint_narrow.Given as goal

abbrev pub invariant-pairs : goal.invariant-pairs
invariant-pairs l =
    record {
      painted : IsPainted l.columns l.changes l.done l.brush l.row;
      at_start : l.brush.start ≡ 0;
      white : l.brush.is_black ≡ false;
      within : l.done ≤ length l.changes;
    }

abbrev pub decreases-pairs : goal.decreases-pairs
decreases-pairs l = length l.changes - l.done
