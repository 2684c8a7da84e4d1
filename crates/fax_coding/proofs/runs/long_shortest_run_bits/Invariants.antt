use Rattle.fax_coding.proofs.Names.{◌≡◌, ◌+◌, ◌*◌, ◌≤◌, length, shortest_run}
use Rattle.fax_coding.proofs.runs.long_shortest_run_bits.Given as goal

abbrev pub invariant-loop-left : goal.invariant-loop-left
invariant-loop-left l = record {
  counted : l.bits + length (shortest_run l.color l.left) ≡ length (shortest_run l.color l.fn.pixels);
  few : 128 * l.bits + l.left ≤ l.fn.pixels;
}

abbrev pub decreases-loop-left : goal.decreases-loop-left
decreases-loop-left l = l.left
