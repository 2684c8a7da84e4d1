use Rattle.fax_coding.proofs.Names.{◌≡◌, ◌-◌, ◌≤◌, ◌++◌, length, drop, White, AscendFrom, chosen_runs, all_bits}
use Rattle.fax_coding.proofs.runs.put_changes.Given as goal

abbrev pub invariant-fours : goal.invariant-fours
invariant-fours l =
    record {
      counted : l.next ≤ length l.changes;
      within : l.place ≤ l.columns;
      ascend : AscendFrom l.place l.columns (drop l.next l.changes);
      written : all_bits l.writer ++ chosen_runs l.columns White l.place (drop l.next l.changes)
          ≡ all_bits l.fn.writer ++ chosen_runs l.columns White 0 l.changes;
    }

abbrev pub decreases-fours : goal.decreases-fours
decreases-fours l = length l.changes - l.next

abbrev pub invariant-twos : goal.invariant-twos
invariant-twos l =
    record {
      counted : l.next ≤ length l.changes;
      within : l.place ≤ l.columns;
      ascend : AscendFrom l.place l.columns (drop l.next l.changes);
      written : all_bits l.writer ++ chosen_runs l.columns White l.place (drop l.next l.changes)
          ≡ all_bits l.fn.writer ++ chosen_runs l.columns White 0 l.changes;
    }

abbrev pub decreases-twos : goal.decreases-twos
decreases-twos l = length l.changes - l.next
