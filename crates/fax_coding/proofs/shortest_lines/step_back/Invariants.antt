use Rattle.fax_coding.proofs.Names.{◌≡◌, ◌+◌, ◌%◌, ◌≤◌, length, get_or}
use Rattle.fax_coding.proofs.shortest_lines.step_back.Given as goal

abbrev pub invariant-back : goal.invariant-back
invariant-back l = record {
  turns : l.above % 2 ≡ l._next % 2;
  few : l.above ≤ length l.reference + 2;
  here : l.b1 ≡ get_or l.reference l.above l.columns;
  right : l.from ≤ l.b1;
}

abbrev pub decreases-back : goal.decreases-back
decreases-back l = l.above
