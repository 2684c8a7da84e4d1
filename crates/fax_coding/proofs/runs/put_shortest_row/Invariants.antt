use Rattle.fax_coding.proofs.Names.{◌≡◌, ◌-◌, ◌≤◌, ◌++◌, length, drop, White, AscendFrom, all_bits}
use Rattle.fax_coding.specs.Shortest.{shortest_runs_1d}
use Rattle.fax_coding.proofs.runs.put_shortest_row.Given as goal

abbrev pub invariant-changes : goal.invariant-changes
invariant-changes l =
    record {
      counted : l.next ≤ length l.changes;
      within : l.place ≤ l.columns;
      ascend : AscendFrom l.place l.columns (drop l.next l.changes);
      written : all_bits l.writer ++ shortest_runs_1d l.columns l.color l.place (drop l.next l.changes)
          ≡ all_bits l.fn.writer ++ shortest_runs_1d l.columns White 0 l.changes;
    }

abbrev pub decreases-changes : goal.decreases-changes
decreases-changes l = length l.changes - l.next
