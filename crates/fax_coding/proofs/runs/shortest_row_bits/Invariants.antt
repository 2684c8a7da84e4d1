use Rattle.fax_coding.proofs.Names.{◌≡◌, ◌+◌, ◌-◌, ◌*◌, ◌≤◌, length, drop, White, AscendFrom}
use Rattle.fax_coding.specs.Shortest.{shortest_runs_1d}
use Rattle.fax_coding.proofs.runs.shortest_row_bits.Given as goal

abbrev pub invariant-changes : goal.invariant-changes
invariant-changes l =
    record {
      counted : l.next ≤ length l.changes;
      within : l.place ≤ l.columns;
      ascend : AscendFrom l.place l.columns (drop l.next l.changes);
      few : l.bits ≤ l.next * 8589934592;
      taken : l.bits + length (shortest_runs_1d l.columns l.color l.place (drop l.next l.changes))
          ≡ length (shortest_runs_1d l.columns White 0 l.changes);
    }

abbrev pub decreases-changes : goal.decreases-changes
decreases-changes l = length l.changes - l.next
