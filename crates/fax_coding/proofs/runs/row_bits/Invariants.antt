use Rattle.fax_coding.proofs.Names.{◌≡◌, ◌+◌, ◌-◌, ◌*◌, ◌≤◌, length, drop, White, AscendFrom, chosen_runs}
use Rattle.fax_coding.proofs.runs.row_bits.Given as goal

abbrev pub invariant-loop-next : goal.invariant-loop-next
invariant-loop-next l =
    record {
      counted : l.next ≤ length l.changes;
      within : l.place ≤ l.columns;
      ascend : AscendFrom l.place l.columns (drop l.next l.changes);
      few : l.bits ≤ l.next * 8589934592;
      taken : l.bits + length (chosen_runs l.columns White l.place (drop l.next l.changes))
          ≡ length (chosen_runs l.columns White 0 l.changes);
    }

abbrev pub decreases-loop-next : goal.decreases-loop-next
decreases-loop-next l = length l.changes - l.next
