use Rattle.fax_coding.proofs.Names.{◌+◌, ◌-◌, all_bits}
use Rattle.fax_coding.proofs.ModesWritten.{IsCodedUpTo}
use Rattle.fax_coding.proofs.group4.put_line.Given as goal

abbrev pub invariant-changes : goal.invariant-changes
invariant-changes l = IsCodedUpTo l.columns l.reference l.changes (all_bits l.fn.writer) (all_bits l.writer) l.at

abbrev pub decreases-changes : goal.decreases-changes
decreases-changes l = l.columns + 1 - l.at.from

abbrev pub invariant-modes : goal.invariant-modes
invariant-modes l = IsCodedUpTo l.columns l.reference l.changes (all_bits l.fn.writer) (all_bits l.writer) l.at

abbrev pub decreases-modes : goal.decreases-modes
decreases-modes l = l.columns + 1 - l.at.from
