use Rattle.fax_feeds.proofs.Names.{◌≡◌, here, length}
use Rattle.fax_feeds.specs.LineParts.{IsInRun, OnlyPaints, WentOn}
use Rattle.fax_feeds.proofs.line_parts.finish_run.Given as goal

-- the line goes on from the part that is reached, within a run of the same colour
abbrev pub invariant-words : goal.invariant-words
invariant-words l = record {
  went_on : WentOn l.fn.part l.part l.fn.ctx l.ctx l.fn.reader l.reader;
  run : IsInRun l.part;
  same : l.part.color ≡ l.fn.color;
  paints : OnlyPaints l.fn.part l.part;
}

abbrev pub decreases-words : goal.decreases-words
decreases-words l = length (here l.reader)
