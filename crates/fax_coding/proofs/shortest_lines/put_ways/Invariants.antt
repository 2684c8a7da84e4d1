use Rattle.fax_coding.proofs.Names.{◌≡◌, ◌-◌, ◌++◌, length, pixels, all_bits, shortest_line_2d}
use Rattle.fax_coding.specs.Ways.{right_of_changes, shortest_rest}
use Rattle.fax_coding.proofs.shortest_lines.put_ways.Given as goal

abbrev pub invariant-modes : goal.invariant-modes
invariant-modes l = all_bits l.writer
    ++ shortest_rest (pixels l.columns l._reference) (pixels l.columns l.changes) (right_of_changes l.columns l.changes l.next)
    ≡ all_bits l.fn.writer ++ shortest_line_2d (pixels l.columns l._reference) (pixels l.columns l.changes)

abbrev pub decreases-modes : goal.decreases-modes
decreases-modes l = length l.ways - l.next
