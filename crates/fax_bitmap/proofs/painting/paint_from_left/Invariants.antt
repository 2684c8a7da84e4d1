use Rattle.fax_bitmap.proofs.Names.{◌≡◌, ◌≤◌, ◌-◌, length}
use Rattle.fax_bitmap.proofs.PaintedRows.{IsPainted}
use Rattle.fax_bitmap.proofs.painting.paint_from_left.Given as goal

abbrev pub invariant-runs : goal.invariant-runs
invariant-runs l =
    record {
      painted : IsPainted l.columns l.changes l.done l.brush l.row;
      within : l.done ≤ length l.changes;
      room : length l.row ≡ length l.fn.row;
    }

abbrev pub decreases-runs : goal.decreases-runs
decreases-runs l = length l.changes - l.done

abbrev pub invariant-word : goal.invariant-word
invariant-word l =
    record {
      painted : IsPainted l.columns l.changes l.done l.brush l.row;
      within : l.done ≤ length l.changes;
      further : l.initial.done ≤ l.done;
      room : length l.row ≡ length l.fn.row;
    }

abbrev pub decreases-word : goal.decreases-word
decreases-word l = length l.changes - l.done
