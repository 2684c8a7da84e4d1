use Rattle.fax_bitmap.proofs.Names.{◌≡◌, ◌≤◌, ◌-◌, length}
use Rattle.fax_bitmap.proofs.BlackRuns.{AreBlack}
use Rattle.fax_bitmap.proofs.black_runs.paint_runs.Given as goal

abbrev pub invariant-runs : goal.invariant-runs
invariant-runs l =
    record {
      painted : AreBlack l.columns l.changes l.done l.row;
      within : l.done ≤ length l.changes;
      room : length l.row ≡ length l.fn.row;
    }

abbrev pub decreases-runs : goal.decreases-runs
decreases-runs l = length l.changes - l.done
