use Rattle.fax_coding.proofs.Names.{◌≡◌, ℕ, ◌+◌, ◌-◌, ◌%◌, ◌<◌, ◌≤◌, length, get_or, pixels}
use Rattle.std.specs.Prelude.{vec_len, vec_capacity}
use Rattle.fax_coding.specs.Ways.{right_of_changes, bits_right_of, IsShortest, no_way}
use Rattle.fax_coding.proofs.shortest_lines.find_ways.Given as goal

abbrev pub invariant-changes : goal.invariant-changes
invariant-changes l = record {
  within : l.next ≤ length l.changes + 1;
  few : l.index ≤ length l.reference + 1;
  turns : l.index % 2 ≡ l.next % 2;
  right : 0 < l.next → (right_of_changes l.columns l.changes (l.next - 1)).from ≤ get_or l.reference (l.index + 1) l.columns;
  count : length l.ways.items + l.next ≡ length l.changes + 1;
  room : vec_len l.ways + l.next ≤ vec_capacity l.ways;
  each : (n : ℕ) → l.next ≤ n → n ≤ length l.changes → IsShortest (pixels l.columns l.reference) (pixels l.columns l.changes)
      (right_of_changes l.columns l.changes n) (get_or l.ways.items (length l.changes - n) no_way);
  second : l.second ≡ get_or l.changes l.next l.columns;
  vertical : l.after_a1 ≡ bits_right_of l.columns l.reference l.changes l.next;
  horizontal : l.after_a2 ≡ bits_right_of l.columns l.reference l.changes (l.next + 1);
}

abbrev pub decreases-changes : goal.decreases-changes
decreases-changes l = l.next
