use Rattle.fax_coding.proofs.Names.{◌≡◌, ◌++◌, chosen_run, all_bits}
use Rattle.fax_coding.proofs.runs.put_long_run.Given as goal

abbrev pub invariant-loop-left : goal.invariant-loop-left
invariant-loop-left l = all_bits l.writer ++ chosen_run l.color l.left ≡ all_bits l.fn.writer ++ chosen_run l.color l.fn.pixels

abbrev pub decreases-loop-left : goal.decreases-loop-left
decreases-loop-left l = l.left
