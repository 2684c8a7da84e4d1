use Rattle.fax_encode.proofs.Names.{◌≡◌, ◌++◌, length, chosen_eols, all_bits}
use Rattle.fax_encode.proofs.group3.put_closing_eols.Given as goal

abbrev pub invariant-loop-left : goal.invariant-loop-left
invariant-loop-left l = all_bits l.writer ++ chosen_eols l.encoding l.fills (length (all_bits l.writer)) l.left
    ≡ all_bits l.fn.writer ++ chosen_eols l.encoding l.fills (length (all_bits l.fn.writer)) 6

abbrev pub decreases-loop-left : goal.decreases-loop-left
decreases-loop-left l = l.left
