use Rattle.fax_feeds.proofs.Names.{◌≡◌, White, here, length}
use Rattle.fax_feeds.specs.LineParts.{IsInRun, OnlyPaints, WentOn}
use Rattle.fax_feeds.proofs.line_parts.continue_runs.Given as goal

-- the line goes on from the part that is reached, within a white run
abbrev pub invariant-runs : goal.invariant-runs
invariant-runs l = record {
  went_on : WentOn l.fn.part l.now l.fn.ctx l.ctx l.fn.reader l.reader;
  run : IsInRun l.now;
  white : l.now.color ≡ White;
  kept : l.part ≡ l.fn.part;
  paints : OnlyPaints l.part l.now;
}

abbrev pub decreases-runs : goal.decreases-runs
decreases-runs l = length (here l.reader)
