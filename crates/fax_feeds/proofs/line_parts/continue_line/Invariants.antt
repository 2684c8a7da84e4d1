use Rattle.fax_feeds.proofs.Names.{◌≤◌, here}
use Rattle.fax_feeds.specs.LineParts.{WentOn, left_to_read}
use Rattle.fax_feeds.proofs.line_parts.continue_line.Given as goal

-- the line goes on from the part that is reached
abbrev pub invariant-steps : goal.invariant-steps
invariant-steps l = WentOn l.fn.part l.part l.fn.ctx l.ctx l.fn.reader l.reader

abbrev pub decreases-steps : goal.decreases-steps
decreases-steps l = left_to_read l.part.in_run (here l.reader)

-- so it does within a run
abbrev pub invariant-run : goal.invariant-run
invariant-run l = record {
  went_on : WentOn l.fn.part l.part l.fn.ctx l.ctx l.fn.reader l.reader;
  no_more : left_to_read l.part.in_run (here l.reader) ≤ left_to_read l.initial.part.in_run (here l.initial.reader);
}

abbrev pub decreases-run : goal.decreases-run
decreases-run l = left_to_read l.part.in_run (here l.reader)

-- and so it does between runs
abbrev pub invariant-modes : goal.invariant-modes
invariant-modes l = record {
  went_on : WentOn l.fn.part l.part l.fn.ctx l.ctx l.fn.reader l.reader;
  no_more : left_to_read l.part.in_run (here l.reader) ≤ left_to_read l.initial.part.in_run (here l.initial.reader);
}

abbrev pub decreases-modes : goal.decreases-modes
decreases-modes l = left_to_read l.part.in_run (here l.reader)
