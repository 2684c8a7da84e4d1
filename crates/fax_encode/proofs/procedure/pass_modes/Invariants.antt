use Rattle.fax_encode.proofs.Names.{◌+◌, ◌-◌, ◌*◌, ◌≤◌, length, AreAllLeft, IsNear, chosen_from, chosen_line_2d, pixels}
use Rattle.fax_encode.proofs.Names.{place_of}
use Rattle.fax_encode.specs.Comparing.{IsPassed}
use Rattle.fax_encode.proofs.procedure.pass_modes.Given as goal

abbrev pub invariant-modes : goal.invariant-modes
invariant-modes l = record {
  passed : IsPassed (chosen_line_2d (pixels l.columns l.rows.reference.now) (pixels l.columns l.rows.changes.now))
      (chosen_from (pixels l.columns l.rows.reference.now) (pixels l.columns l.rows.changes.now) (place_of l.at)) l.fn.reader
      l.reader;
  near : IsNear l.columns l.rows.reference.now (place_of l.at) l.at.above;
  next : l.at.from ≤ l.columns → AreAllLeft l.rows.changes.now l.at.from l.at.next;
  onward : l.fn.reader.place ≤ l.reader.place;
  counts : l.fn.ticks ≤ l.ticks;
  reached : l.ticks ≤ l.fn.ticks + l.at.above + 2 * (l.reader.place - l.fn.reader.place);
  work : l.ticks ≤ l.fn.ticks + length l.rows.reference.now + 1 + 2 * (l.reader.place - l.fn.reader.place);
}

abbrev pub decreases-modes : goal.decreases-modes
decreases-modes l = l.columns + 1 - l.at.from
