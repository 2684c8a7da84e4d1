use Rattle.fax_conforms.specs.Standing.{LineStands, Passes, LineFrom, spot_of, from_of, IsDrawn, IsAbove}
use Rattle.hayro_ccitt.proofs.Names.{◌≡◌, ◌+◌, ◌-◌, ◌≤◌, [], here, length, pixels, Group4}
use Rattle.fax_conforms.specs.Work.{fund}
use Rattle.fax_conforms.proofs.lines.draw_line_2d.Given as goal

abbrev pub invariant-modes : goal.invariant-modes
invariant-modes l = record {
  leads : Passes l.columns (λ here row rest. LineStands Group4 (pixels l.columns l.reference) row here rest)
      (LineFrom (pixels l.columns l.reference) (spot_of l.pen l.coding.items)) (here l.fn.reader) (here l.reader);
  drawn : IsDrawn l.columns l.pen l.coding.items;
  above : IsAbove l.columns l.pen l.reference;
  same_bits : l.reader.bits ≡ l.fn.reader.bits;
  counts : l.fn.words.ticks ≤ l.words.ticks;
  work : l.words.ticks + fund (length l.reference - l.pen.passed) l.coding.items (here l.reader)
      ≤ l.fn.words.ticks + fund (length l.reference) [] (here l.fn.reader);
}

abbrev pub decreases-modes : goal.decreases-modes
decreases-modes l = l.columns + 2 - from_of l.pen
