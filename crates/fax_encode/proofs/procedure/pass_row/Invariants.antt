use Rattle.fax_encode.proofs.Names.{◌≡◌, ◌+◌, ◌-◌, ◌≤◌, length, drop, White, AscendFrom, chosen_runs}
use Rattle.fax_encode.specs.Comparing.{IsPassed}
use Rattle.fax_encode.proofs.procedure.pass_row.Given as goal

abbrev pub invariant-changes : goal.invariant-changes
invariant-changes l = record {
  counted : l.next ≤ length l.changes;
  within : l.place ≤ l.columns;
  ascend : AscendFrom l.place l.columns (drop l.next l.changes);
  passed : IsPassed (chosen_runs l.columns White 0 l.changes) (chosen_runs l.columns l.color l.place (drop l.next l.changes))
      l.fn.reader l.reader;
  ticks : l.ticks ≡ l.fn.ticks + (l.reader.place - l.fn.reader.place);
  onward : l.fn.reader.place ≤ l.reader.place;
}

abbrev pub decreases-changes : goal.decreases-changes
decreases-changes l = length l.changes - l.next
