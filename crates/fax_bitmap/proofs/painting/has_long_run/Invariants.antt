use Rattle.fax_bitmap.proofs.Names.{◌≤◌, ◌-◌, length}
use Rattle.fax_bitmap.proofs.painting.has_long_run.Given as goal

abbrev pub invariant-runs : goal.invariant-runs
invariant-runs l = l.done ≤ length l.changes

abbrev pub decreases-runs : goal.decreases-runs
decreases-runs l = length l.changes - l.done
