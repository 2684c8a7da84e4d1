use Rattle.fax_coding.proofs.Names.{◌≡◌, ◌-◌, ◌≤◌, ◌++◌, all_bits}
use Rattle.fax_coding.specs.Ways.{words_of_passes}
use Rattle.fax_coding.proofs.shortest_lines.put_passes.Given as goal

abbrev pub invariant-passes : goal.invariant-passes
invariant-passes l = record {
  counted : l.left ≤ l.fn.passes;
  written : all_bits l.writer ≡ all_bits l.fn.writer ++ words_of_passes (l.fn.passes - l.left);
}

abbrev pub decreases-passes : goal.decreases-passes
decreases-passes l = l.left
