use Rattle.fax_rows.proofs.Names.{◌≡◌, ◌≤◌, ◌+◌, length, here}
use Rattle.fax_rows.specs.GapsCounted.{CountsTo}
use Rattle.fax_rows.proofs.gap_count.count_on.Given as goal

abbrev pub invariant-ones : goal.invariant-ones
invariant-ones l = record {
  counts : CountsTo l.has_tags l.ends_at_two l.fn.count l.count (here l.reader) (here l.rest);
  ticks : l.ticks + length (here l.rest) ≡ l.fn.ticks + length (here l.reader);
  most : l.count.eols + l.count.zeros + length (here l.rest) ≤ l.fn.count.eols + l.fn.count.zeros + length (here l.reader);
  same : l.reader ≡ l.fn.reader;
  bits : l.rest.bits ≡ l.reader.bits;
}

abbrev pub decreases-ones : goal.decreases-ones
decreases-ones l = length (here l.rest)
