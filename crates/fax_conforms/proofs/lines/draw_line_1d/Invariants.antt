use Rattle.fax_conforms.specs.Standing.{LineStands, Passes, RunsFrom, spot_of, from_of, IsDrawn}
use Rattle.hayro_ccitt.proofs.Names.{◌≡◌, ◌+◌, ◌-◌, ◌≤◌, [], here, Row, Group3_1D}
use Rattle.fax_conforms.specs.Work.{fund}
use Rattle.fax_conforms.proofs.lines.draw_line_1d.Given as goal

abbrev pub invariant-runs : goal.invariant-runs
invariant-runs l = record {
  leads : (reference : Row) → Passes l.columns (λ here row rest. LineStands Group3_1D reference row here rest)
      (RunsFrom (spot_of l.pen l.coding.items)) (here l.fn.reader) (here l.reader);
  drawn : IsDrawn l.columns l.pen l.coding.items;
  same_bits : l.reader.bits ≡ l.fn.reader.bits;
  counts : l.fn.words.ticks ≤ l.words.ticks;
  work : l.words.ticks + fund 0 l.coding.items (here l.reader) ≤ l.fn.words.ticks + fund 0 [] (here l.fn.reader);
}

abbrev pub decreases-runs : goal.decreases-runs
decreases-runs l = l.columns + 2 - from_of l.pen
